-- Numbers of one size, written one after the other: what is left to be written.
use Rattle.std.proofs.Common.{◌≡◌, ℕ, suc, ◌+◌, ◌*◌, ◌<◌, ◌≤◌, List, [], ◌∷◌, length, get_or, drop, sym, refl, ◌∙◌, add-one, suc-mul, arith, drop-cons}
use Rattle.std.proofs.Math.ListN.{drop_of_length-le}
use lib.Seq.{sets, length-sets}
use Rattle.number.specs.Be.{bytes_of}
use Rattle.number.specs.BeLaws.{length_bytes_of}
use Rattle.utf.proofs.Writing.{sets_append}
use Rattle.written.specs.Encoding.{numbers_bytes}
use Rattle.written.proofs.FileLaws.{length_numbers}
use Rattle.writer.specs.Speak.{Refs, Wrote}

pub record Rest (out₀ : List ℕ) (from size : ℕ) (all out : List ℕ) (pos : ℕ) (left : List ℕ) : Type 0 where
  pub long : length out ≡ length out₀
  pub ends : pos + length left * size ≡ from + length all * size
  pub same : sets out pos (numbers_bytes size left) ≡ sets out₀ from (numbers_bytes size all)

module _ (out₀ : List ℕ) (from size : ℕ) (all : List ℕ) where
  pub rest_start : Rest out₀ from size all out₀ from all
  rest_start = record { long = refl; ends = refl; same = refl }

  module _ (out : List ℕ) (pos : ℕ) where
    pub rest_fits : (k : ℕ) (left : List ℕ) → Rest out₀ from size all out pos (k ∷ left) → from + length all * size ≤ length out₀ → pos + size ≤ length out
    rest_fits k left o h = omega (arith, o.long, o.ends, suc-mul (length left) size)

    pub rest_turn : (k : ℕ) (left : List ℕ) → Rest out₀ from size all out pos (k ∷ left) → Rest out₀ from size all (sets out pos (bytes_of size k)) (pos + size) left
    unfolding numbers_bytes
    rest_turn k left o = record {
      long = length-sets out pos (bytes_of size k) ∙ o.long;
      ends = omega (arith, o.ends, suc-mul (length left) size);
      same = rw (length_bytes_of size k) at (sym (sets_append (bytes_of size k) (numbers_bytes size left) out pos)) ∙ o.same;
    }

    pub rest_done : Rest out₀ from size all out pos [] → Wrote out₀ from (numbers_bytes size all) out pos
    unfolding numbers_bytes
    rest_done o = record { memory = o.same; ends = omega (arith, o.ends, length_numbers size all) }

-- the numbers of a list, from place i on
module _ (out₀ : List ℕ) (from size : ℕ) (all out : List ℕ) (i pos : ℕ) (o : Rest out₀ from size all out pos (drop i all)) where
  pub list_done : length all ≤ i → Wrote out₀ from (numbers_bytes size all) out pos
  list_done h = rest_done out₀ from size all out pos (rw (drop_of_length-le all h) at o)

  module _ (h : i < length all) where
    next : Rest out₀ from size all out pos (get_or all i 0 ∷ drop (i + 1) all)
    next = rw (drop-cons all i 0 h, ← add-one i) at o

    pub list_fits : from + length all * size ≤ length out₀ → pos + size ≤ length out
    list_fits room = rest_fits out₀ from size all out pos _ _ next room

    pub list_turn : Rest out₀ from size all (sets out pos (bytes_of size (get_or all i 0))) (pos + size) (drop (i + 1) all)
    list_turn = rest_turn out₀ from size all out pos _ _ next

-- A step of a walk over the words
pub record Met (w : List ℕ) (n stop pair side i : ℕ) (left : List ℕ) : Type 0 where
  pub number : ℕ
  pub others : List ℕ
  pub are : left ≡ number ∷ others
  pub paired : i + pair < n
  pub sided : i + side < n
  pub under : get_or w (n + (i + side)) 0 < n
  pub is : get_or w (n * 4 + get_or w (n + (i + side)) 0) 0 ≡ suc number
  pub above : i < get_or w (n + n + (i + pair)) 0
  pub way : Refs w n stop pair side (get_or w (n + n + (i + pair)) 0) others

module _ (w : List ℕ) (n stop pair side i : ℕ) where
  pub refs_step : (left : List ℕ) → Refs w n stop pair side i left → i < stop → Met w n stop pair side i left
  refs_step [] p h = absurd (omega arith)
  refs_step (k ∷ ks) (_, a, b, c, d, e, p) h = record { number = k; others = ks; are = refl; paired = a; sided = b; under = c; is = d; above = e; way = p }

  pub refs_done : (left : List ℕ) → Refs w n stop pair side i left → stop ≤ i → left ≡ []
  refs_done [] p h = refl
  refs_done (k ∷ ks) (a, _, _, _, _, _, _) h = absurd (omega arith)

-- what is left to be written from event i on
pub record Going (w : List ℕ) (n stop pair side : ℕ) (out₀ : List ℕ) (from size : ℕ) (all out : List ℕ) (i pos : ℕ) : Type 0 where
  pub left : List ℕ
  pub way : Refs w n stop pair side i left
  pub rest : Rest out₀ from size all out pos left

module _ {w : List ℕ} {n stop pair side : ℕ} {out₀ : List ℕ} {from size : ℕ} {all out : List ℕ} {i pos : ℕ} (o : Going w n stop pair side out₀ from size all out i pos) where
  pub going_done : stop ≤ i → Wrote out₀ from (numbers_bytes size all) out pos
  going_done h = rest_done out₀ from size all out pos (rw (refs_done w n stop pair side i o.left o.way h) at o.rest)

  module _ (h : i < stop) where
    pub going_met : Met w n stop pair side i o.left
    going_met = refs_step w n stop pair side i o.left o.way h

    pub going_fits : from + length all * size ≤ length out₀ → pos + size ≤ length out
    going_fits k = rest_fits out₀ from size all out pos going_met.number going_met.others (rw going_met.are at o.rest) k

    pub going_turn :
        {number : ℕ} → suc number ≡ get_or w (n * 4 + get_or w (n + (i + side)) 0) 0 →
        Going w n stop pair side out₀ from size all (sets out pos (bytes_of size number)) (get_or w (n + n + (i + pair)) 0) (pos + size)
    going_turn {number} f =
        let m = going_met in
        let e : number ≡ m.number = omega (arith, f, m.is) in
        rw e (record { left = m.others; way = m.way; rest = rest_turn out₀ from size all out pos m.number m.others (rw m.are at o.rest) })
