-- Bytes copied in parts, in parts that overlap, and up to the end of the memory.
use mathlib.Core.Bool.{Bool, true, false}
use mathlib.Core.List.{List, [], ◌∷◌, append-nil}
use mathlib.Core.Path.{◌≡◌, refl, sym, ap, ◌∙◌}
use Prim.Native.Nat.{ℕ, zero, suc, ◌+◌, ◌-◌, ◌≤◌, ◌<◌, min}
use native.Mathlib.Nat.{add-zero, zero-add, add-suc, suc-add}
use native.Mathlib.Omega.{arith}
use borrow.Author.Tests.{leb-true, leb-false}
use lib.Dec.{leb}
use lib.ListN.{length, take, drop, set, drop_of_length-le, length-drop}
use lib.Seq.{sets, sets-eq, length-sets, set_out, set-set, set_comm, take_all}

-- beyond the end nothing is stored
pub sets_out : (vs l : List ℕ) (i : ℕ) → length l ≤ i → sets l i vs ≡ l
sets_out [] l i h = refl
sets_out (a ∷ vs) l i h = rw (set_out l i a h) (sets_out vs l (suc i) (omega arith))

-- what is stored before a run of bytes, and the run
set_before : (vs l : List ℕ) (i j a : ℕ) → j < i → set (sets l i vs) j a ≡ sets (set l j a) i vs
set_before [] l i j a h = refl
set_before (v ∷ vs) l i j a h =
    set_before vs (set l i v) (suc i) j a (omega arith) ∙
    ap (λ (m : List ℕ). sets m (suc i) vs) (set_comm l i j v a (λ e. omega arith))

-- the first bytes of a run, and then the whole run, is the run
sets_again : (n : ℕ) (s l : List ℕ) (at : ℕ) → sets (sets l at (take n s)) at s ≡ sets l at s
sets_again zero s l at = refl
sets_again (suc n) [] l at = refl
sets_again (suc n) (v ∷ vs) l at =
    ap (λ (m : List ℕ). sets m (suc at) vs) (set_before (take n vs) (set l at v) (suc at) at v (omega arith) ∙ ap (λ (m : List ℕ). sets m (suc at) (take n vs)) (set-set l at v v)) ∙
    sets_again n vs (set l at v) (suc at)

-- the first bytes of a run, and then those behind them
pub sets_onward : (i n : ℕ) (s l : List ℕ) (at : ℕ) → i ≤ length s → sets (sets l at (take i s)) (at + i) (take n (drop i s)) ≡ sets l at (take (i + n) s)
sets_onward zero n s l at h = rw (add-zero, zero-add)
sets_onward (suc i) n [] l at h = absurd (omega arith)
sets_onward (suc i) n (v ∷ vs) l at h = rw (add-suc, ← suc-add at i, suc-add i n) (sets_onward i n vs (set l at v) (suc at) (omega arith))

pub sets_rest : (i : ℕ) (s l : List ℕ) (at : ℕ) → i ≤ length s → sets (sets l at (take i s)) (at + i) (drop i s) ≡ sets l at s
sets_rest i s l at h =
    let n = length s - i in
    let p : take n (drop i s) ≡ drop i s = take_all n (drop i s) (rw length-drop (omega arith)) in
    let q : take (i + n) s ≡ s = take_all (i + n) s (omega arith) in
    rw (p, q) at (sets_onward i n s l at h)

-- some bytes, and then all from a place among them on
pub overlapped : (i last : ℕ) (s l : List ℕ) (at : ℕ) → last ≤ i → i ≤ length s → sets (sets l at (take i s)) (at + last) (drop last s) ≡ sets l at s
overlapped i last s l at le h =
    let n = i - last in
    let e : last + n ≡ i = omega arith in
    let p : sets (sets l at (take last s)) (at + last) (take n (drop last s)) ≡ sets l at (take i s) = rw e at (sets_onward last n s l at (omega arith)) in
    rw (← p) (sets_again n (drop last s) (sets l at (take last s)) (at + last) ∙ sets_rest last s l at (omega arith))

-- a whole memory that is written over
pub whole : (l s : List ℕ) → length s ≡ length l → sets l 0 s ≡ s
whole l s h = sets-eq s l 0 (omega arith) ∙ rw (zero-add, h, drop_of_length-le l {i = length l} (omega arith)) (append-nil s)

copied : (out bytes : List ℕ) (at i : ℕ) → at ≤ length out → min (length bytes) (length out - at) ≤ i → sets out (at + i) (drop i bytes) ≡ out
copied out bytes at i inside h = go (leb (length bytes) i) refl
  where
    go : (b : Bool) → leb (length bytes) i ≡ b → sets out (at + i) (drop i bytes) ≡ out
    go true e = let le : length bytes ≤ i = leb-true (length bytes) i e in rw (drop_of_length-le bytes {i = i} le)
    go false e = let lt : i < length bytes = leb-false (length bytes) i e in sets_out (drop i bytes) out (at + i) (omega arith)

-- so the bytes that have room are all that are stored
pub cut : (out bytes : List ℕ) (at end : ℕ) → at ≤ length out → end ≡ min (length bytes) (length out - at) → sets out at (take end bytes) ≡ sets out at bytes
cut out bytes at end inside e =
    let m : List ℕ = sets out at (take end bytes) in
    let k : length m ≡ length out = length-sets out at (take end bytes) in
    sym (copied m bytes at end (rw k inside) (rw (k, ← e) (omega arith))) ∙ sets_rest end bytes out at (omega arith)

pub ruleset copy_steps = (whole, sets_out, cut)
