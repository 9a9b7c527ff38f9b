-- Bytes that stand at an offset of a file.
use Rattle.std.specs.Prelude.{List, [], ◌∷◌, ◌++◌, ◌≡◌, refl, ℕ, ◌+◌, ◌-◌, ◌^◌, ◌≤◌, ◌<◌, length, get_or, drop}
use Rattle.std.proofs.Common.{append_assoc, append-nil, sym, ◌∙◌, add-zero, arith, length-append, length-drop, take_at, drop_at, drop-drop, get_or-drop}
use Rattle.number.specs.Be.{be, bytes_of}
use Rattle.number.specs.BeLaws.{length_bytes_of, be_bytes_of}
use Rattle.number.specs.Part.{part}
use Rattle.object.specs.Content.{trailer_at}

-- from an offset on a file has the bytes s, and then others
pub record Stands (file : List ℕ) (at : ℕ) (s : List ℕ) : Type 0 where
  pub rest : List ℕ
  pub split : drop at file ≡ s ++ rest

-- what is put between two lists stands behind the first
pub stands_between : (p s q : List ℕ) → Stands (p ++ (s ++ q)) (length p) s
stands_between p s q = record { rest = q; split = drop_at p (s ++ q) (length p) refl }

-- and so does what is put last
pub stands_last : (p s : List ℕ) → Stands (p ++ s) (length p) s
stands_last p s = record { rest = []; split = drop_at p s (length p) refl ∙ sym (append-nil s) }

-- it stands there and ends at or before T
pub record Whole (file : List ℕ) (at : ℕ) (s : List ℕ) : Type 0 where
  pub stands : Stands file at s
  pub ends : at + length s ≤ trailer_at file

module _ (file : List ℕ) (at : ℕ) where
  -- of two lists that stand there, the first stands there, and the second behind it
  pub stands_front : (s t : List ℕ) → Stands file at (s ++ t) → Stands file at s
  stands_front s t st = record { rest = t ++ st.rest; split = st.split ∙ append_assoc s t st.rest }

  pub stands_back : (s t : List ℕ) → Stands file at (s ++ t) → Stands file (at + length s) t
  stands_back s t st = record {
    rest = st.rest;
    split = sym (drop-drop (length s) at file) ∙ rw (st.split, append_assoc s t st.rest) (drop_at s (t ++ st.rest) (length s) refl);
  }

  -- the part of so many bytes is what stands there
  pub stands_part : (s : List ℕ) → Stands file at s → part file at (length s) ≡ s
  stands_part s st = rw st.split (take_at s st.rest (length s) refl)

  pub stands_byte : (b : ℕ) (s : List ℕ) → Stands file at (b ∷ s) → get_or file at 0 ≡ b
  stands_byte b s st =
      let e : get_or (drop at file) 0 0 ≡ get_or file at 0 = rw add-zero at (get_or-drop at file 0 0) in
      sym e ∙ rw st.split

  -- it ends within the file
  pub stands_inside : (s : List ℕ) → 0 < length s → Stands file at s → at + length s ≤ length file
  stands_inside s h st =
      let e : length (drop at file) ≡ length s + length st.rest = rw st.split (length-append s st.rest) in
      let f : length (drop at file) ≡ length file - at = length-drop at file in
      omega (arith, e, f)

  -- a number of w bytes that stands there is read there
  pub stands_number : (w n : ℕ) → n < 256 ^ w → Stands file at (bytes_of w n) → be (part file at w) ≡ n
  stands_number w n h st =
      let e : part file at w ≡ bytes_of w n = rw length_bytes_of at (stands_part (bytes_of w n) st) in
      rw e (be_bytes_of w n h)
