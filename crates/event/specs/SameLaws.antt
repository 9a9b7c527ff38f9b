-- Two events are the same exactly where they mean the same, the same bytes beside them.
use Rattle.std.specs.Prelude.{Bool, true, false, ◌&&◌, List, [], ◌∷◌, ◌≡◌, refl, ℕ, ◌<◌, eqb, ℤ, pos, negsuc, get_or, None, Option, Some}
use Rattle.std.proofs.lemmas.Bool.{false≢true}
use Rattle.std.proofs.Common.{sym, ap, ap₂, ◌∙◌, arith, eqb-true, eq-eqb, ltb-true}
use Rattle.std.specs.Int.Signed.{lt_z}
use Rattle.number.specs.Signed.{magnitude_of}
use Rattle.event.specs.Meaning.{Meaning, array, dictionary, close, boolean, bytes, date, integer, real, text, uid, value_of, meaning_of}
use Rattle.event.specs.Same.{key, key_of, start_key, same}
use Rattle.event.specs.declared.Event.{Event}
use Rattle.event.specs.declared.Event.TheVariants.{StartArray, StartDictionary, EndCollection, Boolean, Data, Date, Integer as IntegerEvent, Real, Nan, String, Uid}
use Rattle.event.specs.declared.same.Key.{Key}

-- the meaning of a key, in the order of the kinds from 01 on
meanings : ℕ → List Meaning
meanings n =
    boolean false ∷ boolean true ∷ integer (pos n) ∷ integer (negsuc n) ∷ real n ∷ date n ∷ uid n ∷ bytes [] ∷ text [] ∷ array None ∷ array (Some n) ∷ dictionary None ∷ dictionary (Some n) ∷ []

meaning_from : Key → Meaning
meaning_from k = get_or (close ∷ meanings k.number) k.kind close

integer_again : (z : ℤ) → meaning_from (key_of (integer z)) ≡ integer z
unfolding key_of meaning_from meanings
integer_again (pos n) = refl
integer_again (negsuc k) = refl

again : (e : Event) → meaning_from (key_of (meaning_of e [])) ≡ meaning_of e []
unfolding key_of meaning_of meaning_from meanings
again (StartArray (Some n)) = refl
again (StartArray None) = refl
again (StartDictionary (Some n)) = refl
again (StartDictionary None) = refl
again EndCollection = refl
again (Boolean true) = refl
again (Boolean false) = refl
again Data = refl
again (Date b) = refl
again (IntegerEvent i) = integer_again (value_of i)
again (Real x) = refl
again (Nan b) = refl
again String = refl
again (Uid n) = refl

both : (a b : Bool) → (a && b) ≡ true → (a ≡ true) × (b ≡ true)
both true b e = (refl, e)
both false b e = absurd (false≢true e)

pub same_means : (a b : Event) → same a b ≡ true → meaning_of a [] ≡ meaning_of b []
unfolding same
same_means a b e =
    let x = key_of (meaning_of a []) in
    let y = key_of (meaning_of b []) in
    let t = both (eqb x.kind y.kind) (eqb x.number y.number) e in
    let k : x ≡ y = ap₂ key (eqb-true _ _ t.0) (eqb-true _ _ t.1) in
    sym (again a) ∙ ap meaning_from k ∙ again b

pub means_same : (a b : Event) → meaning_of a [] ≡ meaning_of b [] → same a b ≡ true
unfolding same
means_same a b e =
    let y = key_of (meaning_of b []) in
    rw (e, eq-eqb y.kind y.kind refl, eq-eqb y.number y.number refl)

-- the key of a signed integer, by its sign
pub key_below : (z : ℤ) → lt_z z (pos 0) ≡ true → key 0x04 (magnitude_of z) ≡ key_of (integer z)
unfolding key_of magnitude_of
key_below (pos n) e = absurd (let h : n < 0 = ltb-true n 0 e in omega arith)
key_below (negsuc k) e = refl

pub key_above : (z : ℤ) → lt_z z (pos 0) ≡ false → key 0x03 (magnitude_of z) ≡ key_of (integer z)
unfolding key_of magnitude_of
key_above (pos n) e = refl
key_above (negsuc k) e = absurd (false≢true (sym e))

-- the key of a container's start
pub start_array : (n : Option ℕ) → start_key 0x0A n ≡ key_of (array n)
unfolding start_key key_of
start_array (Some n) = refl
start_array None = refl

pub start_dictionary : (n : Option ℕ) → start_key 0x0C n ≡ key_of (dictionary n)
unfolding start_key key_of
start_dictionary (Some n) = refl
start_dictionary None = refl
