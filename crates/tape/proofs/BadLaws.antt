-- What the tape doesn't take is read as no event: text that isn't UTF-8, and a date that isn't finite.
use Rattle.std.specs.Prelude.{true, false, List, [], ◌∷◌, ◌++◌, ◌≡◌, refl, ℕ, ◌^◌, ◌<◌, pos, negsuc, length, drop, None, Some}
use Rattle.std.proofs.Common.{true≢false, append-nil, ap, sym, ◌∙◌, arith, drop_at}
use Rattle.number.specs.Be.{bytes_of}
use Rattle.number.specs.BeLaws.{Bytes}
use Rattle.event.specs.Date.{is_date}
use Rattle.event.specs.Meaning.{Meaning, array, dictionary, close, boolean, bytes, date, integer, real, text, uid}
use Rattle.tape.specs.Code.{bytes_for, InRange, allowed, OnTape}
use Rattle.tape.proofs.FormLaws.{reads_written}
use Rattle.tape.specs.Item.{Reading, event, bad, read_at}
use Rattle.tape.proofs.SameLaws.{same_front}
use Rattle.tape.specs.Seven.{seven}
use Rattle.utf.specs.Unicode.{is_utf8}

-- bytes that begin as an event's do which the tape takes
text_taken : (s : List ℕ) (m : Meaning) (r : List ℕ) → length s < 2 ^ 64 → OnTape m → bytes_for (text s) ≡ bytes_for m ++ r → is_utf8 s ≡ true
unfolding bytes_for allowed
text_taken s (array None) r h o e = let z : ◌≡◌ {A = ℕ} 0x09 0x0A = cc in absurd (omega arith)
text_taken s (array (Some n)) r h o e = let z : ◌≡◌ {A = ℕ} 0x09 0x0B = cc in absurd (omega arith)
text_taken s (dictionary None) r h o e = let z : ◌≡◌ {A = ℕ} 0x09 0x0C = cc in absurd (omega arith)
text_taken s (dictionary (Some n)) r h o e = let z : ◌≡◌ {A = ℕ} 0x09 0x0D = cc in absurd (omega arith)
text_taken s close r h o e = let z : ◌≡◌ {A = ℕ} 0x09 0x0E = cc in absurd (omega arith)
text_taken s (boolean false) r h o e = let z : ◌≡◌ {A = ℕ} 0x09 0x01 = cc in absurd (omega arith)
text_taken s (boolean true) r h o e = let z : ◌≡◌ {A = ℕ} 0x09 0x02 = cc in absurd (omega arith)
text_taken s (bytes b) r h o e = let z : ◌≡◌ {A = ℕ} 0x09 0x08 = cc in absurd (omega arith)
text_taken s (date b) r h o e = let z : ◌≡◌ {A = ℕ} 0x09 0x06 = cc in absurd (omega arith)
text_taken s (integer (pos n)) r h o e = let z : ◌≡◌ {A = ℕ} 0x09 0x03 = cc in absurd (omega arith)
text_taken s (integer (negsuc n)) r h o e = let z : ◌≡◌ {A = ℕ} 0x09 0x04 = cc in absurd (omega arith)
text_taken s (real b) r h o e = let z : ◌≡◌ {A = ℕ} 0x09 0x05 = cc in absurd (omega arith)
text_taken s (uid n) r h o e = let z : ◌≡◌ {A = ℕ} 0x09 0x07 = cc in absurd (omega arith)
text_taken s (text t) r h o e =
    let f : seven (length s) ++ s ≡ seven (length t) ++ t ++ r = cc in
    let g : (0x08 ∷ (seven (length s) ++ s)) ++ [] ≡ (0x08 ∷ (seven (length t) ++ t)) ++ r = append-nil (0x08 ∷ (seven (length s) ++ s)) ∙ ap (λ (l : List ℕ). 0x08 ∷ l) f in
    let x : bytes s ≡ bytes t = (same_front (bytes s) (bytes t) [] r (h, refl) (o.0, refl) g).0 in
    let y : s ≡ t = cc in
    rw y o.1

date_taken : (b : ℕ) (m : Meaning) (r : List ℕ) → b < 2 ^ 64 → OnTape m → bytes_for (date b) ≡ bytes_for m ++ r → is_date b ≡ true
unfolding bytes_for allowed
date_taken b (array None) r h o e = let z : ◌≡◌ {A = ℕ} 0x06 0x0A = cc in absurd (omega arith)
date_taken b (array (Some n)) r h o e = let z : ◌≡◌ {A = ℕ} 0x06 0x0B = cc in absurd (omega arith)
date_taken b (dictionary None) r h o e = let z : ◌≡◌ {A = ℕ} 0x06 0x0C = cc in absurd (omega arith)
date_taken b (dictionary (Some n)) r h o e = let z : ◌≡◌ {A = ℕ} 0x06 0x0D = cc in absurd (omega arith)
date_taken b close r h o e = let z : ◌≡◌ {A = ℕ} 0x06 0x0E = cc in absurd (omega arith)
date_taken b (boolean false) r h o e = let z : ◌≡◌ {A = ℕ} 0x06 0x01 = cc in absurd (omega arith)
date_taken b (boolean true) r h o e = let z : ◌≡◌ {A = ℕ} 0x06 0x02 = cc in absurd (omega arith)
date_taken b (bytes s) r h o e = let z : ◌≡◌ {A = ℕ} 0x06 0x08 = cc in absurd (omega arith)
date_taken b (text s) r h o e = let z : ◌≡◌ {A = ℕ} 0x06 0x09 = cc in absurd (omega arith)
date_taken b (integer (pos n)) r h o e = let z : ◌≡◌ {A = ℕ} 0x06 0x03 = cc in absurd (omega arith)
date_taken b (integer (negsuc n)) r h o e = let z : ◌≡◌ {A = ℕ} 0x06 0x04 = cc in absurd (omega arith)
date_taken b (real c) r h o e = let z : ◌≡◌ {A = ℕ} 0x06 0x05 = cc in absurd (omega arith)
date_taken b (uid n) r h o e = let z : ◌≡◌ {A = ℕ} 0x06 0x07 = cc in absurd (omega arith)
date_taken b (date c) r h o e =
    let f : bytes_of 8 b ≡ bytes_of 8 c ++ r = cc in
    let g : (0x05 ∷ bytes_of 8 b) ++ [] ≡ (0x05 ∷ bytes_of 8 c) ++ r = append-nil (0x05 ∷ bytes_of 8 b) ∙ ap (λ (l : List ℕ). 0x05 ∷ l) f in
    let x : real b ≡ real c = (same_front (real b) (real c) [] r (h, refl) (o.0, refl) g).0 in
    let y : b ≡ c = cc in
    rw y o.1

taken : (m n : Meaning) (r : List ℕ) → InRange m → OnTape n → bytes_for m ≡ bytes_for n ++ r → allowed m ≡ true
unfolding allowed
taken (array n) k r h o e = refl
taken (dictionary n) k r h o e = refl
taken close k r h o e = refl
taken (boolean b) k r h o e = refl
taken (bytes s) k r h o e = refl
taken (date b) k r h o e = date_taken b k r h o e
taken (integer z) k r h o e = refl
taken (real b) k r h o e = refl
taken (text s) k r h o e = text_taken s k r h o e
taken (uid n) k r h o e = refl

-- an event that the tape doesn't take, at the end of one
pub bad_here : (p : List ℕ) (m : Meaning) → Bytes (p ++ bytes_for m) → InRange m → allowed m ≡ false → read_at (p ++ bytes_for m) (length p) ≡ bad
bad_here p m good h a = go (read_at (p ++ bytes_for m) (length p)) refl
  where
    go : (x : Reading) → read_at (p ++ bytes_for m) (length p) ≡ x → read_at (p ++ bytes_for m) (length p) ≡ bad
    go bad e = e
    go (event n next) e =
        let w = reads_written (p ++ bytes_for m) (length p) n next good e in
        let f : bytes_for m ≡ bytes_for n ++ drop next (p ++ bytes_for m) = sym (drop_at p (bytes_for m) (length p) refl) ∙ w.stands.split in
        absurd (true≢false (sym (taken m n _ h w.held f) ∙ a))
