-- A text in UTF-16: changed into the part behind the head, and the head written after it.
use mathlib.Core.Bool.{Bool, true, false}
use mathlib.Core.List.{List, ◌++◌}
use mathlib.Core.Path.{◌≡◌, refl, ap, sym, ◌∙◌}
use Prim.Native.Nat.{ℕ, ◌+◌, ◌-◌, ◌≤◌, ◌<◌}
use native.Mathlib.Omega.{arith}
use borrow.Author.Tests.{ltb-true, ltb-false}
use borrow.Rule.Slice.PartMut.{put_mid, mid_of, mid_len, put_same}
use lib.Dec.{ltb}
use lib.ListN.{length, length-append}
use lib.Seq.{sets}
use Rattle.utf.specs.Changed.{changed_of, changed_to}
use Rattle.utf.specs.ChangedAnswers as answers
use Rattle.utf.specs.Unicode.{to_utf16}
use Rattle.utf.specs.declared.changed.Changed.TheVariants.{Written, NotText, NoRoom}
use Rattle.utf.specs.declared.changed.Changed.{Changed}
use Rattle.written.specs.Encoding.{head_bytes}
use Rattle.encode.specs.Put.{in_utf16}
use Rattle.encode.specs.Size.{head_size}
use Rattle.encode.specs.PutLaws.{put_room, put_at}
use Rattle.encode.specs.SizeLaws.{length_head, head_some}
use Rattle.encode.specs.declared.put.Put.TheVariants.{Bytes, NoRoom as Short, NoScalar}
use Rattle.encode.proofs.Putting.{Puts, refused, written, renamed, sets_front}

-- what an answer tells, and the memory that it leaves
abbrev Told : List ℕ → List ℕ → Changed → Type 0
Told text out NotText = ⊥
Told text out NoRoom = (length out < length text) × (changed_to true text out ≡ out)
Told text out (Written n) = (length text ≤ length out) × (n ≡ length text) × (changed_to true text out ≡ sets out 0 text)

told : (text out : List ℕ) → Told text out (changed_of true text out)
told text out = go (ltb (length out) (length text)) refl
  where
    go : (b : Bool) → ltb (length out) (length text) ≡ b → Told text out (changed_of true text out)
    go true e =
        let h : length out < length text = ltb-true _ _ e in
        let n = answers.no_room true text out (length text) refl refl h in
        rw (← n.answer) (h, sym n.memory)
    go false e =
        let h : length text ≤ length out = ltb-false _ _ e in
        let n = answers.written true text out (length text) refl refl h in
        rw (← n.answer) (h, refl, sym n.memory)

module _ (units : ℕ) (s : List ℕ) where
  -- the bytes that are to be put
  utf16_text_law : head_bytes 0x60 units ++ to_utf16 s ≡ in_utf16 units s
  unfolding in_utf16
  utf16_text_law = refl

  utf16_length : length (head_bytes 0x60 units ++ to_utf16 s) ≡ head_size units + length (to_utf16 s)
  utf16_length = length-append (head_bytes 0x60 units) (to_utf16 s) ∙ rw (length_head 0x60 units)

  -- no room for the head
  pub utf16_short : (l : List ℕ) → length l < head_size units → Puts l (in_utf16 units s) Short l
  utf16_short l h = renamed l utf16_text_law (refused l _ (omega (arith, utf16_length)))

-- the text was changed into the part behind the head: the answer r, and the part m after it
pub record Changing (l : List ℕ) (units : ℕ) (s : List ℕ) (head : ℕ) (r : Changed) (m : List ℕ) : Type 0 where
  pub is : head ≡ head_size units
  pub within : head ≤ length l
  pub answer : r ≡ changed_of true (to_utf16 s) (mid_of head (length l - head) l)
  pub memory : m ≡ changed_to true (to_utf16 s) (mid_of head (length l - head) l)

pub changing : {l : List ℕ} {units : ℕ} (s : List ℕ) {head : ℕ} {r : Changed} {m : List ℕ} → head ≡ head_size units → head ≤ length l →
    record { value : r ≡ changed_of true (to_utf16 s) (mid_of head (length l - head) l); out_after : m ≡ changed_to true (to_utf16 s) (mid_of head (length l - head) l) } → Changing l units s head r m
changing s e h p = record { is = e; within = h; answer = p.value; memory = p.out_after }

module _ {l : List ℕ} {units : ℕ} {s : List ℕ} {head : ℕ} {r : Changed} {m : List ℕ} (g : Changing l units s head r m) where
  abbrev part : List ℕ
  part = mid_of head (length l - head) l

  part_length : length part ≡ length l - head
  part_length = mid_len head (length l) l (omega arith)

  tells : Told (to_utf16 s) (mid_of head (length l - head) l) r
  tells = rw g.answer (told (to_utf16 s) part)

  -- the part comes back as it was
  same : changed_to true (to_utf16 s) part ≡ part → put_mid head (length l - head) l m ≡ l
  same e = ap (put_mid head (length l - head) l) (g.memory ∙ e) ∙ put_same head (length l - head) l

module _ {l : List ℕ} {units : ℕ} {s : List ℕ} {head : ℕ} {m : List ℕ} where
  pub utf16_no_text : Changing l units s head NotText m → Puts l (in_utf16 units s) NoScalar (put_mid head (length l - head) l m)
  utf16_no_text g = absurd (tells g)

  pub utf16_no_room : Changing l units s head NoRoom m → Puts l (in_utf16 units s) Short (put_mid head (length l - head) l m)
  utf16_no_room g =
      let t = tells g in
      rw (same g t.1) (renamed l (utf16_text_law units s) (refused l _ (omega (arith, utf16_length units s, part_length g, t.0, g.is))))

  module _ {n : ℕ} (g : Changing l units s head (Written n) m) where
    pub utf16_fits : head + n ≤ length l
    utf16_fits =
        let t = tells g in
        omega (arith, part_length g, t.0, t.1, g.within)

    pub utf16_written : {x : List ℕ} → x ≡ sets (put_mid head (length l - head) l m) 0 (head_bytes 0x60 units) → Puts l (in_utf16 units s) (Bytes (head + n)) x
    utf16_written f =
        let t = tells g in
        let u = to_utf16 s in
        let hb = head_bytes 0x60 units in
        let room : head + length u ≤ length l = omega (arith, utf16_fits, t.1) in
        let q : put_mid head (length l - head) l m ≡ sets l head u = ap (put_mid head (length l - head) l) (g.memory ∙ t.2 ∙ sym (put_room (part g) u t.0).0) ∙ put_at l head (length l) u room (omega arith) in
        let k : length hb ≡ head = length_head 0x60 units ∙ sym g.is in
        let p : sets (sets l head u) 0 hb ≡ sets l 0 (hb ++ u) = rw k at (sets_front l hb u (omega arith)) in
        renamed l (utf16_text_law units s) (written l _ (omega (arith, utf16_length units s, head_some units)) (omega (arith, utf16_length units s, g.is)) (omega (arith, utf16_length units s, t.1, g.is)) (f ∙ rw q p))
