-- What the number of an added key's answer stands for: how many bytes are held, or one of two answers; no slice is as long as 2^63.
use Rattle.std.specs.Prelude.{Ok, Err, Bool, true, false, cond, List, [], ◌∷◌, ◌++◌, ◌≡◌, refl, ℕ, ◌+◌, ◌≤◌, leb, eqb, length, None, Option, Some}
use Rattle.std.proofs.Common.{sym, ap, ◌∙◌, arith, leb-true, ne_eqb}
use Rattle.tape.specs.Append.{fits}
use Rattle.lookup.specs.Append.{Added, held_keys, added_in, added_by, added_of}
use Rattle.lookup.specs.Path.{path_of}
use Rattle.lookup.specs.declared.append.AddError.TheVariants.{NoRoom, NotPath}
use Rattle.exports.specs.Codes.{Lent}
use Rattle.exports_find.specs.PathAppend.{added_number}

-- the answer that a number stands for
unfoldable pub added_from : ℕ → Added
added_from n = cond (eqb n 0xFFFFFFFFFFFFFFFF) (Err NotPath) (cond (eqb n 0xFFFFFFFFFFFFFFFE) (Err NoRoom) (Ok n))

-- the number tells the answer
pub added_again : (memory : List ℕ) (held : ℕ) (key : List ℕ) → Lent memory → added_from (added_number (added_of memory held key)) ≡ added_of memory held key
unfolding added_from added_number added_of added_by added_in fits
added_again memory held key lent = by (held_keys memory held)
  where
    room : (s : List ℕ) (b : Bool) → leb (0 + length s) (length memory) ≡ b → added_from (added_number (cond b (Ok (length s)) (Err NoRoom))) ≡ cond b (Ok (length s)) (Err NoRoom)
    room s false e = refl
    room s true e =
        let l : 0 + length s ≤ length memory = leb-true (0 + length s) (length memory) e in
        rw (ne_eqb (length s) 0xFFFFFFFFFFFFFFFF (λ f. omega arith), ne_eqb (length s) 0xFFFFFFFFFFFFFFFE (λ f. omega arith))

    by : (o : Option (List (List ℕ))) → added_from (added_number (added_by memory key o)) ≡ added_by memory key o
    by None = refl
    by (Some keys) = room (path_of (keys ++ (key ∷ []))) (leb (0 + length (path_of (keys ++ (key ∷ [])))) (length memory)) refl

pub added_one : (s t : List ℕ) (i j : ℕ) (k l : List ℕ) → Lent s → Lent t → added_number (added_of s i k) ≡ added_number (added_of t j l) → added_of s i k ≡ added_of t j l
added_one s t i j k l f g e = sym (added_again s i k f) ∙ ap added_from e ∙ added_again t j l g
