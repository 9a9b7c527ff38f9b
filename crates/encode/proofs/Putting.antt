-- What a function that puts bytes answers and leaves: all of them, or nothing.
use mathlib.Core.List.{List, [], ◌++◌, append_assoc}
use mathlib.Core.Path.{◌≡◌, refl, ap, sym, ◌∙◌}
use Prim.Native.Nat.{ℕ, ◌+◌, ◌*◌, ◌^◌, ◌≤◌, ◌<◌}
use native.Mathlib.Nat.{zero-add}
use native.Mathlib.Omega.{arith}
use lib.ListN.{length, take, drop, length-append}
use lib.Seq.{sets, sets-eq, length-sets, length-take-le, drop_at}
use Rattle.number.specs.Be.{bytes_of}
use Rattle.number.specs.BeLaws.{bytes_of_add, length_bytes_of}
use Rattle.utf.proofs.Writing.{sets_append}
use Rattle.encode.specs.Put.{put_into, put_of, scalar_of}
use Rattle.encode.specs.PutLaws.{put_room, put_none, scalar_put}
use Rattle.encode.specs.Said.{put_said}
use Rattle.encode.specs.declared.put.Put.{Put}
use Rattle.encode.specs.declared.put.Put.TheVariants.{Bytes, NoRoom, NoScalar}

-- bytes s that are put into l: the answer r, with the memory m after it, where they don't fit and where they do
module _ (l s : List ℕ) where
  pub none_put : length l < length s → record { value : NoRoom ≡ put_of l s; out_after : l ≡ put_into l s }
  none_put h = let p = put_none l s h in record { value = sym p.1; out_after = sym p.0 }

  pub all_put : {n : ℕ} {m : List ℕ} → length s ≤ length l → n ≡ length s → m ≡ sets l 0 s → record { value : Bytes n ≡ put_of l s; out_after : m ≡ put_into l s }
  all_put h e f = let p = put_room l s h in record { value = ap Bytes e ∙ sym p.1; out_after = f ∙ sym p.0 }

-- in the numbers of refusals
pub said : (at : ℕ) {r x : Put} {m n : List ℕ} → record { value : r ≡ x; out_after : m ≡ n } → record { result_value : put_said at r ≡ put_said at x; out_after : m ≡ n }
said at p = record { result_value = ap (put_said at) p.value; out_after = p.out_after }

-- the same of a scalar's bytes
abbrev pub Puts : List ℕ → List ℕ → Put → List ℕ → Type 0
Puts l s r m = record { value : r ≡ scalar_of l s; out_after : m ≡ put_into l s }

module _ (l : List ℕ) where
  pub nothing : Puts l [] NoScalar l
  unfolding scalar_of
  nothing = record { value = refl; out_after = sym (put_room l [] (omega arith)).0 }

  module _ (s : List ℕ) where
    pub refused : length l < length s → Puts l s NoRoom l
    refused h = let p = none_put l s h in record { value = p.value ∙ sym (scalar_put l s (omega arith)); out_after = p.out_after }

    pub written : {n : ℕ} {m : List ℕ} → 0 < length s → length s ≤ length l → n ≡ length s → m ≡ sets l 0 s → Puts l s (Bytes n) m
    written some h e f = let p = all_put l s h e f in record { value = p.value ∙ sym (scalar_put l s some); out_after = p.out_after }

-- the bytes by another name
pub renamed : (l : List ℕ) {s t m : List ℕ} {r : Put} → s ≡ t → Puts l s r m → Puts l t r m
renamed l e p = record { value = p.value ∙ ap (scalar_of l) e; out_after = p.out_after ∙ ap (put_into l) e }

-- what is put in front of bytes that stand already
pub sets_front : (l s t : List ℕ) → length s + length t ≤ length l → sets (sets l (length s) t) 0 s ≡ sets l 0 (s ++ t)
sets_front l s t h =
    let n = length s in
    let k : length (s ++ t) ≡ n + length t = length-append s t in
    let m : length (sets l n t) ≡ length l = length-sets l n t in
    let e : length (take n l ++ t) ≡ n + length t = length-append (take n l) t ∙ rw (length-take-le n l (omega arith)) in
    let d : drop n (sets l n t) ≡ t ++ drop (n + length t) l =
    ap (drop n) (sets-eq t l n h ∙ append_assoc (take n l) t (drop (n + length t) l)) ∙ drop_at (take n l) (t ++ drop (n + length t) l) n (length-take-le n l (omega arith)) in
    let a : sets (sets l n t) 0 s ≡ s ++ (t ++ drop (n + length t) l) = sets-eq s (sets l n t) 0 (omega arith) ∙ rw (zero-add, d) in
    let b : sets l 0 (s ++ t) ≡ (s ++ t) ++ drop (n + length t) l = sets-eq (s ++ t) l 0 (omega arith) ∙ rw (zero-add, k) in
    a ∙ sym (b ∙ append_assoc s t (drop (n + length t) l))

-- a number below 2^64 in 16 bytes: zeros, then its own eight
pub wide_sets : (l : List ℕ) (at n : ℕ) → n < 256 ^ 8 → sets (sets l at (bytes_of 8 0)) (at + 8) (bytes_of 8 n) ≡ sets l at (bytes_of 16 n)
wide_sets l at n h =
    let e : 0 * 256 ^ 8 + n ≡ n = omega arith in
    let w : bytes_of 16 n ≡ bytes_of 8 0 ++ bytes_of 8 n = rw e at (bytes_of_add 8 8 0 n h) in
    rw w (sym (rw (length_bytes_of 8 0) at (sets_append (bytes_of 8 0) (bytes_of 8 n) l at)))
