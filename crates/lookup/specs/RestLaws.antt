-- Walking along events that stand on a tape: the first of them, and those behind it.
use Rattle.std.specs.Prelude.{true, false, ◌≡◌, ℕ, ◌+◌, ◌-◌, ◌≤◌, ◌<◌, pos, negsuc, get_or, drop, None, Some}
use mathlib.Core.List.{List, [], ◌∷◌, ◌++◌}
use Rattle.std.proofs.Math.Path.{refl, ap, sym}
use Rattle.std.proofs.Common.{◌∙◌, arith, length-drop, drop-drop}
use Rattle.std.proofs.Math.ListN.{length, take, length-append, take-append-drop}
use Rattle.std.proofs.Math.Seq.{length-take-le, drop_at}
use Rattle.event.specs.Meaning.{Meaning, array, dictionary, close, boolean, bytes, date, integer, real, text, uid}
use Rattle.tape.specs.Code.{bytes_for}
use Rattle.tape.proofs.CodeLaws.{reads_back, bytes_some}
use Rattle.tape.specs.Events.{tape_of, meant_by, meanings_in}
use Rattle.tape.proofs.EventsLaws.{tape_whole}
use Rattle.tape.proofs.FormLaws.{Stands}
use Rattle.tape.specs.Item.{event, read_at}
use Rattle.tape.proofs.StandsLaws.{kind_there}
use Rattle.lookup.specs.Rest.{events_at, Rest, deeper_by}
use Rattle.lookup.specs.Value.{deeper}

-- the events are what stands there
pub rest_is : {tape : List ℕ} {at : ℕ} {ms : List Meaning} → Rest tape at ms → events_at tape at ≡ ms
unfolding events_at meanings_in meant_by
rest_is {tape} {at} {ms} r = rw (r.is, tape_whole ms r.held)

-- as a function of the place
pub rest_same : {tape : List ℕ} {at : ℕ} {ms : List Meaning} → Rest tape at ms → Rest tape at (events_at tape at)
rest_same r = rw (rest_is r) r

-- how far it is to the tape's end
pub rest_long : {tape : List ℕ} {at : ℕ} {ms : List Meaning} → Rest tape at ms → at + length (tape_of ms) ≡ length tape
rest_long {tape} {at} {ms} r =
    let l : length tape - at ≡ length (tape_of ms) = sym (length-drop at tape) ∙ ap length r.is in
    omega (arith, l, r.within)

pub rest_start : {tape : List ℕ} {at : ℕ} {ms : List Meaning} → Rest tape at ms → length tape - length (tape_of ms) ≡ at
rest_start r = omega (arith, rest_long r)

pub rest_at : {tape : List ℕ} {at next : ℕ} {ms : List Meaning} → next ≡ at → Rest tape at ms → Rest tape next ms
rest_at e r = rw e r

-- an event stands before the tape's end
pub rest_some : {tape : List ℕ} {at : ℕ} {ms : List Meaning} → Rest tape at ms → at < length tape → (m : Meaning) × (ns : List Meaning) × (ms ≡ m ∷ ns)
unfolding tape_of
rest_some {ms = []} r h = absurd (omega (arith, rest_long r))
rest_some {ms = m ∷ ns} r h = (m, ns, refl)

-- and none at it
pub rest_none : {tape : List ℕ} {at : ℕ} {ms : List Meaning} → Rest tape at ms → length tape ≤ at → ms ≡ []
unfolding tape_of
rest_none {ms = []} r h = refl
rest_none {ms = m ∷ ns} r h =
    let l : length (bytes_for m ++ tape_of ns) ≡ length (bytes_for m) + length (tape_of ns) = length-append (bytes_for m) (tape_of ns) in
    absurd (omega (arith, rest_long r, bytes_some m, l))

module _ {tape : List ℕ} {at : ℕ} {m : Meaning} {ms : List Meaning} (r : Rest tape at (m ∷ ms)) where
  pub rest_inside : at < length tape
  unfolding tape_of
  rest_inside =
      let l : length (bytes_for m ++ tape_of ms) ≡ length (bytes_for m) + length (tape_of ms) = length-append (bytes_for m) (tape_of ms) in
      omega (arith, rest_long r, bytes_some m, l)

  -- the first event is read there
  pub rest_reads : read_at tape at ≡ event m (at + length (bytes_for m))
  unfolding tape_of
  rest_reads =
      let l : length (take at tape) ≡ at = length-take-le at tape r.within in
      let e : take at tape ++ (bytes_for m ++ tape_of ms) ≡ tape = ap (λ (q : List ℕ). take at tape ++ q) (sym r.is) ∙ take-append-drop at tape in
      rw (l, e) at (reads_back (take at tape) m (tape_of ms) r.held.0)

  -- those behind it stand behind it
  pub rest_next : Rest tape (at + length (bytes_for m)) ms
  unfolding tape_of
  rest_next =
      let l : length (bytes_for m ++ tape_of ms) ≡ length (bytes_for m) + length (tape_of ms) = length-append (bytes_for m) (tape_of ms) in
      record {
        good = r.good;
        within = omega (arith, rest_long r, l);
        held = r.held.1;
        is = sym (drop-drop (length (bytes_for m)) at tape) ∙ ap (drop (length (bytes_for m))) r.is ∙ drop_at (bytes_for m) (tape_of ms) (length (bytes_for m)) refl;
      }

  pub rest_stands : Stands tape at (bytes_for m) (at + length (bytes_for m))
  unfolding tape_of
  rest_stands = record { split = r.is ∙ ap (λ (q : List ℕ). bytes_for m ++ q) (sym rest_next.is); ends = refl }

-- a kind tells how many containers are open behind the event
pub kind_deeper : (d : ℕ) (m : Meaning) (k : ℕ) (s : List ℕ) → bytes_for m ≡ k ∷ s → deeper_by d k ≡ deeper d m
unfolding bytes_for deeper deeper_by
kind_deeper d (array None) k s e = let z : 0x0A ≡ k = cc in rw (← z)
kind_deeper d (array (Some n)) k s e = let z : 0x0B ≡ k = cc in rw (← z)
kind_deeper d (dictionary None) k s e = let z : 0x0C ≡ k = cc in rw (← z)
kind_deeper d (dictionary (Some n)) k s e = let z : 0x0D ≡ k = cc in rw (← z)
kind_deeper d close k s e = let z : 0x0E ≡ k = cc in rw (← z)
kind_deeper d (boolean false) k s e = let z : 0x01 ≡ k = cc in rw (← z)
kind_deeper d (boolean true) k s e = let z : 0x02 ≡ k = cc in rw (← z)
kind_deeper d (bytes b) k s e = let z : 0x08 ≡ k = cc in rw (← z)
kind_deeper d (date b) k s e = let z : 0x06 ≡ k = cc in rw (← z)
kind_deeper d (integer (pos n)) k s e = let z : 0x03 ≡ k = cc in rw (← z)
kind_deeper d (integer (negsuc n)) k s e = let z : 0x04 ≡ k = cc in rw (← z)
kind_deeper d (real b) k s e = let z : 0x05 ≡ k = cc in rw (← z)
kind_deeper d (text b) k s e = let z : 0x09 ≡ k = cc in rw (← z)
kind_deeper d (uid n) k s e = let z : 0x07 ≡ k = cc in rw (← z)

-- the first byte of an event is its kind
pub kind_first : (s : List ℕ) → 0 < length s → (k : ℕ) × (t : List ℕ) × (s ≡ k ∷ t)
kind_first [] h = absurd (omega arith)
kind_first (k ∷ t) h = (k, t, refl)

pub rest_deeper : {tape : List ℕ} {at : ℕ} {m : Meaning} {ms : List Meaning} (r : Rest tape at (m ∷ ms)) (d : ℕ) → deeper_by d (get_or tape at 0) ≡ deeper d m
rest_deeper {tape} {at} {m} {ms} r d =
    let f = kind_first (bytes_for m) (bytes_some m) in
    let there : get_or tape at 0 ≡ f.0 = kind_there (rw f.2 at (rest_stands r)) in
    rw there (kind_deeper d m f.0 f.1 f.2)
