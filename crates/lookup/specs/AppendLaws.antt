-- What a key makes of a path: the path of one key more.
use Rattle.std.specs.Prelude.{Ok, Err, Bool, cond, ◌≡◌, ℕ, zero, suc, ◌+◌, ◌-◌, ◌/◌, ◌^◌, ◌≤◌, ◌<◌, ltb, leb, take, drop, None, Some, Option}
use Rattle.std.proofs.Math.Bool.{true, false}
use Rattle.std.proofs.lemmas.Bool.{false≢true}
use mathlib.Core.List.{List, [], ◌∷◌, ◌++◌, append_assoc, append-nil}
use Rattle.std.proofs.Math.Path.{refl, ap, sym}
use Rattle.std.proofs.Common.{ap₂, ◌∙◌, le-div_iff_mul-le, arith, lit<, length-append, take-append-drop, length-take-le, take_at, drop_at}
use Rattle.std.proofs.Math.Nat.{mul-div-le}
use borrow.Author.Tests.{ltb-true, ltb-false, ne_eqb, le-leb, lt-leb, leb-true}
use Rattle.std.proofs.Math.ListN.{length}
use Rattle.std.proofs.lemmas.List.Edits.{sets-eq}
use Rattle.number.specs.BeLaws.{Bytes}
use Rattle.number.specs.Part.{part}
use Rattle.number.specs.PartLaws.{bytes_take}
use Rattle.tape.specs.Pairs.{both_of}
use Rattle.tape.specs.Append.{fits, put_to}
use Rattle.tape.specs.Seven.{groups, seven}
use Rattle.tape.specs.SevenLaws.{groups_last, groups_more, groups_some, seven_some}
use Rattle.tape.specs.Value.{number_at}
use Rattle.tape.specs.ValueLaws.{number_seven}
use Rattle.lookup.specs.Append.{held_keys, added_in, added_by, added_of, after_by, added_to, grown, Growing}
use Rattle.lookup.specs.KeysLaws.{keys_path}
use Rattle.lookup.specs.Path.{keys_bytes, path_of, keys_from, keys_in, keys_of, is_some}
use Rattle.lookup.specs.declared.append.AddError.TheVariants.{NoRoom, NotPath}

-- a larger number has as many groups at least
groups_rise : (k m n : ℕ) → m ≤ n → length (groups k m) ≤ length (groups k n)
unfolding groups
groups_rise zero m n h = omega arith
groups_rise (suc k) m n h = go (ltb m 128) refl (groups_rise k (m / 128) (n / 128))
  where
    go : (b : Bool) → ltb m 128 ≡ b → (m / 128 ≤ n / 128 → length (groups k (m / 128)) ≤ length (groups k (n / 128))) → length (groups (suc k) m) ≤ length (groups (suc k) n)
    go true e ih = rw (groups_last k m (ltb-true m 128 e)) (groups_some k n)
    go false e ih =
        let l : 128 ≤ m = ltb-false m 128 e in
        let q : m / 128 ≤ n / 128 = (le-div_iff_mul-le (lit< tt)).1 (omega (arith, mul-div-le m 128)) in
        rw (groups_more k m l, groups_more k n (omega arith)) (omega (arith, ih q))

pub seven_rises : (n : ℕ) → length (seven n) ≤ length (seven (n + 1))
unfolding seven
seven_rises n = groups_rise 10 n (n + 1) (omega arith)

-- a key has a byte at least, that of its length
keys_few : (keys : List (List ℕ)) → length keys ≤ length (keys_bytes keys)
unfolding keys_bytes
keys_few [] = omega arith
keys_few (key ∷ keys) = simp length-append (omega (arith, seven_some (length key), keys_few keys))

keys_last : (keys : List (List ℕ)) (key : List ℕ) → keys_bytes (keys ++ (key ∷ [])) ≡ keys_bytes keys ++ (seven (length key) ++ key)
unfolding keys_bytes
keys_last [] key = rw append-nil
keys_last (k ∷ keys) key = rw (keys_last keys key, append_assoc, append_assoc)

-- the path of one key more
path_more : (keys : List (List ℕ)) (key : List ℕ) → path_of (keys ++ (key ∷ [])) ≡ (seven (length keys + 1) ++ keys_bytes keys) ++ (seven (length key) ++ key)
unfolding path_of
path_more keys key = ap₂ (λ (n : ℕ) (s : List ℕ). seven n ++ s) (length-append keys (key ∷ [])) (keys_last keys key) ∙ sym (append_assoc (seven (length keys + 1)) (keys_bytes keys) (seven (length key) ++ key))

-- no bytes are held: a path begins
pub held_none : (memory : List ℕ) → Growing memory 0 0 0
held_none memory = record { inside = omega arith; within = omega arith; few = omega arith; longer = omega arith }

module _ (memory key : List ℕ) where
  pub begun : (added_in memory (grown memory 0 0 0 key) ≡ added_of memory 0 key) × (put_to memory 0 (grown memory 0 0 0 key) ≡ added_to memory 0 key)
  unfolding added_of added_to added_by after_by held_keys grown keys_bytes
  begun =
      let e : grown memory 0 0 0 key ≡ path_of ([] ++ (key ∷ [])) = sym (path_more [] key) in
      (ap (added_in memory) e, ap (put_to memory 0) e)

  module _ (held : ℕ) (some_held : held ≡ 0 → ⊥) where
    -- too many are said to be held, or the bytes are no path
    pub held_long : length memory < held → (Err NotPath ≡ added_of memory held key) × (memory ≡ added_to memory held key)
    unfolding added_of added_to held_keys added_by after_by
    held_long h = (rw (ne_eqb held 0 some_held, lt-leb held (length memory) h), rw (ne_eqb held 0 some_held, lt-leb held (length memory) h))

    module _ (inside : held ≤ length memory) where
      keys_here : held_keys memory held ≡ keys_of (take held memory)
      unfolding held_keys
      keys_here = rw (ne_eqb held 0 some_held, le-leb held (length memory) inside)

      held_not : keys_of (take held memory) ≡ None → (Err NotPath ≡ added_of memory held key) × (memory ≡ added_to memory held key)
      unfolding added_of added_to added_by after_by
      held_not e = (rw (keys_here, e), rw (keys_here, e))

      pub held_uncounted : number_at (take held memory) 0 ≡ None → (Err NotPath ≡ added_of memory held key) × (memory ≡ added_to memory held key)
      unfolding keys_of keys_in
      held_uncounted e = held_not (rw (e, keys_in))

      module _ (good : Bytes memory) (count first : ℕ) (number : number_at (take held memory) 0 ≡ Some (count, first)) where
        count_keys : keys_of (take held memory) ≡ keys_from count (take held memory) first
        unfolding keys_of keys_in
        count_keys = rw (number, keys_in)

        pub held_bad : is_some (keys_from count (take held memory) first) ≡ false → (Err NotPath ≡ added_of memory held key) × (memory ≡ added_to memory held key)
        unfolding is_some
        held_bad e = held_not (count_keys ∙ go (keys_from count (take held memory) first) e)
          where
            go : (o : Option (List (List ℕ))) → is_some o ≡ false → o ≡ None
            go None f = refl
            go (Some keys) f = absurd (false≢true (sym f))

        pub keys_known : is_some (keys_from count (take held memory) first) ≡ true → (keys : List (List ℕ)) × (keys_of (take held memory) ≡ Some keys)
        unfolding is_some
        keys_known e = go (keys_from count (take held memory) first) refl e
          where
            go : (o : Option (List (List ℕ))) → keys_from count (take held memory) first ≡ o → is_some o ≡ true → (keys : List (List ℕ)) × (keys_of (take held memory) ≡ Some keys)
            go None f g = absurd (false≢true g)
            go (Some keys) f g = (keys, count_keys ∙ f)

        module _ (keys : List (List ℕ)) (known : keys_of (take held memory) ≡ Some keys) where
          is_path : take held memory ≡ seven (length keys) ++ keys_bytes keys
          unfolding path_of
          is_path = (keys_path (take held memory) keys (bytes_take held memory good) known).0

          fits_count : length keys < 2 ^ 64
          fits_count = (keys_path (take held memory) keys (bytes_take held memory good) known).1

          is_number : (count ≡ length keys) × (first ≡ length (seven (length keys)))
          unfolding number_at
          is_number =
              let e : Some (count, first) ≡ Some (length keys, 0 + length (seven (length keys))) = sym number ∙ rw is_path (number_seven 0 (length keys) (keys_bytes keys) fits_count) in
              let same = both_of e in
              (same.0, omega (arith, same.1))

          held_is : held ≡ first + length (keys_bytes keys)
          held_is = omega (arith, sym (length-take-le held memory inside) ∙ ap length is_path ∙ length-append (seven (length keys)) (keys_bytes keys), is_number.1)

          body_is : part memory first (held - first) ≡ keys_bytes keys
          body_is =
              let t : memory ≡ (seven (length keys) ++ keys_bytes keys) ++ drop held memory = sym (take-append-drop held memory) ∙ ap (λ (s : List ℕ). s ++ drop held memory) is_path in
              let d : drop first memory ≡ keys_bytes keys ++ drop held memory = ap (drop first) (t ∙ append_assoc (seven (length keys)) (keys_bytes keys) (drop held memory)) ∙ drop_at (seven (length keys)) (keys_bytes keys ++ drop held memory) first (sym is_number.1) in
              ap (take (held - first)) d ∙ take_at (keys_bytes keys) (drop held memory) (held - first) (omega (arith, held_is))

          pub held_grows : length memory < 0x8000000000000000 → Growing memory held count first
          held_grows short = record {
            inside = inside;
            within = omega (arith, held_is);
            few = omega (arith, is_number.0, keys_few keys, held_is);
            longer = rw (is_number.0, is_number.1) (seven_rises (length keys));
          }

          pub grown_is : (added_in memory (grown memory held count first key) ≡ added_of memory held key) × (put_to memory 0 (grown memory held count first key) ≡ added_to memory held key)
          unfolding added_of added_to added_by after_by grown
          grown_is =
              let e : grown memory held count first key ≡ path_of (keys ++ (key ∷ [])) = rw (body_is, is_number.0) (sym (path_more keys key)) in
              let k : held_keys memory held ≡ Some keys = keys_here ∙ known in
              (ap (added_in memory) e ∙ rw k, ap (put_to memory 0) e ∙ rw k)

-- WHAT IS MADE is a path: where bytes are held afterwards they are the path of the keys that were held and this one
pub record Made (memory key : List ℕ) (held next : ℕ) : Type 0 where
  pub keys : List (List ℕ)
  pub before : held_keys memory held ≡ Some keys
  pub after : take next (added_to memory held key) ≡ path_of (keys ++ (key ∷ []))
  pub behind : drop next (added_to memory held key) ≡ drop next memory

pub added_path : (memory key : List ℕ) (held next : ℕ) → added_of memory held key ≡ Ok next → Made memory key held next
unfolding added_of added_to added_by after_by added_in put_to fits
added_path memory key held next e = go (held_keys memory held) refl e
  where
    room : (keys : List (List ℕ)) → held_keys memory held ≡ Some keys → (b : Bool) → leb (0 + length (path_of (keys ++ (key ∷ [])))) (length memory) ≡ b → cond b (Ok (length (path_of (keys ++ (key ∷ []))))) (Err NoRoom) ≡ Ok next → Made memory key held next
    room keys k false f g = let z : ◌≡◌ {A = ℕ} 0 1 = cc in absurd (omega arith)
    room keys k true f g =
        let s : List ℕ = path_of (keys ++ (key ∷ [])) in
        let n : length s ≡ next = cc in
        let l : 0 + length s ≤ length memory = leb-true (0 + length s) (length memory) f in
        let z : 0 + length s ≡ next = omega (arith, n) in
        let w : added_to memory held key ≡ s ++ drop (0 + length s) memory = rw (k, f) (sets-eq s memory 0 l) in
        record {
          keys = keys;
          before = k;
          after = ap (take next) w ∙ take_at s (drop (0 + length s) memory) next n;
          behind = ap (drop next) w ∙ drop_at s (drop (0 + length s) memory) next n ∙ ap (λ (i : ℕ). drop i memory) z;
        }

    go : (o : Option (List (List ℕ))) → held_keys memory held ≡ o → added_by memory key o ≡ Ok next → Made memory key held next
    go None k g = let z : ◌≡◌ {A = ℕ} 0 1 = cc in absurd (omega arith)
    go (Some keys) k g = room keys k (leb (0 + length (path_of (keys ++ (key ∷ [])))) (length memory)) refl g
