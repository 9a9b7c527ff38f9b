-- Laws of values among events.
use Rattle.std.specs.Prelude.{Bool, true, false, cond, List, [], ◌∷◌, ◌++◌, ◌≡◌, refl, ℕ, zero, suc, ◌+◌, ◌≤◌, ◌<◌, eqb, pos, negsuc, length, None, Some}
use Rattle.std.proofs.Common.{ap, sym, ◌∙◌, arith, eq-eqb, ne_eqb, length-append}
use Rattle.event.specs.Meaning.{Meaning, array, dictionary, close, boolean, bytes, date, integer, real, text, uid}
use Rattle.tape.specs.Code.{bytes_for}
use Rattle.tape.specs.Events.{tape_of}
use Rattle.tape.proofs.EventsLaws.{tape_append}
use Rattle.written.specs.Graph.{same_bytes}
use Rattle.lookup.specs.Value.{deeper, value_from, behind, under_key, into}

-- the value and what is behind it are all
pub value_split : (d : ℕ) (ms : List Meaning) → value_from d ms ++ behind d ms ≡ ms
unfolding value_from behind
value_split d [] = refl
value_split d (m ∷ ms) = go (eqb (deeper d m) 0) (value_split (deeper d m) ms)
  where
    go : (b : Bool) → value_from (deeper d m) ms ++ behind (deeper d m) ms ≡ ms → (m ∷ cond b [] (value_from (deeper d m) ms)) ++ cond b ms (behind (deeper d m) ms) ≡ m ∷ ms
    go true ih = refl
    go false ih = ap (λ (l : List Meaning). m ∷ l) ih

pub value_tape : (d : ℕ) (ms : List Meaning) → tape_of (value_from d ms) ++ tape_of (behind d ms) ≡ tape_of ms
value_tape d ms = sym (tape_append (value_from d ms) (behind d ms)) ∙ ap tape_of (value_split d ms)

pub value_long : (d : ℕ) (ms : List Meaning) → length (tape_of (value_from d ms)) + length (tape_of (behind d ms)) ≡ length (tape_of ms)
value_long d ms = sym (length-append (tape_of (value_from d ms)) (tape_of (behind d ms))) ∙ ap length (value_tape d ms)

pub behind_few : (d : ℕ) (ms : List Meaning) → length (behind d ms) ≤ length ms
behind_few d ms =
    let l : length (value_from d ms) + length (behind d ms) ≡ length ms = sym (length-append (value_from d ms) (behind d ms)) ∙ ap length (value_split d ms) in
    omega (arith, l)

-- a value ends with its event, or goes on
module _ (d : ℕ) (m : Meaning) (ms : List Meaning) where
  pub value_here : deeper d m ≡ 0 → value_from d (m ∷ ms) ≡ m ∷ []
  unfolding value_from
  value_here e = rw (eq-eqb (deeper d m) 0 e)

  pub behind_here : deeper d m ≡ 0 → behind d (m ∷ ms) ≡ ms
  unfolding behind
  behind_here e = rw (eq-eqb (deeper d m) 0 e)

  pub value_on : (deeper d m ≡ 0 → ⊥) → value_from d (m ∷ ms) ≡ m ∷ value_from (deeper d m) ms
  unfolding value_from
  value_on e = rw (ne_eqb (deeper d m) 0 e)

  pub behind_on : (deeper d m ≡ 0 → ⊥) → behind d (m ∷ ms) ≡ behind (deeper d m) ms
  unfolding behind
  behind_on e = rw (ne_eqb (deeper d m) 0 e)

-- a pair whose key is the one, and one whose key isn't
pub under_here : (k : ℕ) (key s : List ℕ) (ms : List Meaning) → same_bytes s key ≡ true → under_key (suc k) key (text s ∷ ms) ≡ Some ms
unfolding under_key
under_here k key s ms e = rw e

pub under_on : (k : ℕ) (key s : List ℕ) (ms : List Meaning) → same_bytes s key ≡ false → under_key (suc k) key (text s ∷ ms) ≡ under_key k key (behind 0 ms)
unfolding under_key
under_on k key s ms e = rw e

pub under_none : (k : ℕ) (key : List ℕ) → under_key k key [] ≡ None
unfolding under_key
under_none zero key = refl
under_none (suc k) key = refl

-- an event's kind tells whether it is text
pub is_text_law : (m : Meaning) (c : ℕ) (s : List ℕ) → bytes_for m ≡ c ∷ s → c ≡ 0x09 → (t : List ℕ) × (m ≡ text t)
unfolding bytes_for
is_text_law (array None) c s e f = let z : 0x0A ≡ c = cc in absurd (omega arith)
is_text_law (array (Some n)) c s e f = let z : 0x0B ≡ c = cc in absurd (omega arith)
is_text_law (dictionary None) c s e f = let z : 0x0C ≡ c = cc in absurd (omega arith)
is_text_law (dictionary (Some n)) c s e f = let z : 0x0D ≡ c = cc in absurd (omega arith)
is_text_law close c s e f = let z : 0x0E ≡ c = cc in absurd (omega arith)
is_text_law (boolean false) c s e f = let z : 0x01 ≡ c = cc in absurd (omega arith)
is_text_law (boolean true) c s e f = let z : 0x02 ≡ c = cc in absurd (omega arith)
is_text_law (bytes b) c s e f = let z : 0x08 ≡ c = cc in absurd (omega arith)
is_text_law (date b) c s e f = let z : 0x06 ≡ c = cc in absurd (omega arith)
is_text_law (integer (pos n)) c s e f = let z : 0x03 ≡ c = cc in absurd (omega arith)
is_text_law (integer (negsuc n)) c s e f = let z : 0x04 ≡ c = cc in absurd (omega arith)
is_text_law (real b) c s e f = let z : 0x05 ≡ c = cc in absurd (omega arith)
is_text_law (text b) c s e f = (b, refl)
is_text_law (uid n) c s e f = let z : 0x07 ≡ c = cc in absurd (omega arith)

pub not_text : (k : ℕ) (key : List ℕ) (m : Meaning) (ms : List Meaning) (c : ℕ) (s : List ℕ) → bytes_for m ≡ c ∷ s → (c ≡ 0x09 → ⊥) → under_key k key (m ∷ ms) ≡ None
unfolding bytes_for under_key
not_text zero key m ms c s e f = refl
not_text (suc k) key (array n) ms c s e f = refl
not_text (suc k) key (dictionary n) ms c s e f = refl
not_text (suc k) key close ms c s e f = refl
not_text (suc k) key (boolean b) ms c s e f = refl
not_text (suc k) key (bytes b) ms c s e f = refl
not_text (suc k) key (date b) ms c s e f = refl
not_text (suc k) key (integer z) ms c s e f = refl
not_text (suc k) key (real b) ms c s e f = refl
not_text (suc k) key (text b) ms c s e f = absurd (f (let z : 0x09 ≡ c = cc in sym z))
not_text (suc k) key (uid n) ms c s e f = refl

-- and whether it is the start of a dictionary
pub in_dictionary_law : (key : List ℕ) (m : Meaning) (ms : List Meaning) (c : ℕ) (s : List ℕ) → bytes_for m ≡ c ∷ s → 0x0C ≤ c → c < 0x0E → into key (m ∷ ms) ≡ under_key (length ms) key ms
unfolding bytes_for into
in_dictionary_law key (array None) ms c s e f g = let z : 0x0A ≡ c = cc in absurd (omega arith)
in_dictionary_law key (array (Some n)) ms c s e f g = let z : 0x0B ≡ c = cc in absurd (omega arith)
in_dictionary_law key (dictionary n) ms c s e f g = refl
in_dictionary_law key close ms c s e f g = let z : 0x0E ≡ c = cc in absurd (omega arith)
in_dictionary_law key (boolean false) ms c s e f g = let z : 0x01 ≡ c = cc in absurd (omega arith)
in_dictionary_law key (boolean true) ms c s e f g = let z : 0x02 ≡ c = cc in absurd (omega arith)
in_dictionary_law key (bytes b) ms c s e f g = let z : 0x08 ≡ c = cc in absurd (omega arith)
in_dictionary_law key (date b) ms c s e f g = let z : 0x06 ≡ c = cc in absurd (omega arith)
in_dictionary_law key (integer (pos n)) ms c s e f g = let z : 0x03 ≡ c = cc in absurd (omega arith)
in_dictionary_law key (integer (negsuc n)) ms c s e f g = let z : 0x04 ≡ c = cc in absurd (omega arith)
in_dictionary_law key (real b) ms c s e f g = let z : 0x05 ≡ c = cc in absurd (omega arith)
in_dictionary_law key (text b) ms c s e f g = let z : 0x09 ≡ c = cc in absurd (omega arith)
in_dictionary_law key (uid n) ms c s e f g = let z : 0x07 ≡ c = cc in absurd (omega arith)

pub no_dictionary : (key : List ℕ) (m : Meaning) (ms : List Meaning) (c : ℕ) (s : List ℕ) → bytes_for m ≡ c ∷ s → (0x0C ≤ c → c < 0x0E → ⊥) → into key (m ∷ ms) ≡ None
unfolding bytes_for into
no_dictionary key (array n) ms c s e f = refl
no_dictionary key (dictionary None) ms c s e f = let z : 0x0C ≡ c = cc in absurd (f (omega arith) (omega arith))
no_dictionary key (dictionary (Some n)) ms c s e f = let z : 0x0D ≡ c = cc in absurd (f (omega arith) (omega arith))
no_dictionary key close ms c s e f = refl
no_dictionary key (boolean b) ms c s e f = refl
no_dictionary key (bytes b) ms c s e f = refl
no_dictionary key (date b) ms c s e f = refl
no_dictionary key (integer z) ms c s e f = refl
no_dictionary key (real b) ms c s e f = refl
no_dictionary key (text b) ms c s e f = refl
no_dictionary key (uid n) ms c s e f = refl
