-- The elements of a container that was entered: what is due in its frame is each of its references in turn, and then its end.
use Rattle.std.proofs.Math.Option.{none, some}
use mathlib.Core.List.{List, [], ◌∷◌}
use Rattle.std.specs.Prelude.{◌≡◌, ℕ, zero, suc, ◌+◌, ◌-◌, ◌*◌, ◌^◌, ◌≤◌, ◌<◌, drop, None, Option, Some}
use Rattle.std.proofs.Math.Path.{refl, ap}
use Rattle.std.proofs.Common.{sym, ◌∙◌, suc-mul, add-mul, add-one, arith, le-leb, length-drop}
use Rattle.std.proofs.Math.ListN.{length, length-map, get_elem?}
use Rattle.number.specs.Width.{bytes_in}
use Rattle.number.specs.declared.width.Width.{Width}
use Rattle.event.specs.Format.{max_length}
use Rattle.object.specs.Container.{container_at}
use Rattle.object.specs.declared.container.Container.{Container}
use Rattle.object.specs.declared.content.Extent.{Extent}
use Rattle.layout.proofs.Counts.{counted, stands_before}
use Rattle.layout.specs.FoundLaws.{made, refs_of}
use Rattle.layout.specs.Frame.{new_frame, at_position}
use Rattle.layout.specs.Layout.{number_at, given, due_in, due_of, look_of}
use Rattle.layout.specs.LookLaws.{Standing, standing, looked_stands, looked_in}
use Rattle.layout.specs.Looked.{Shape, array, dictionary, container}
use Rattle.layout.specs.References.{row, in_turn, length_of, entries_in, number_in, entries_of, references_of}
use Rattle.layout.specs.ReferencesLaws.{element_of, Dues, dues, due_here, due_entry}
use Rattle.layout.specs.Said.{due_said}
use Rattle.layout.specs.SaidLaws.{due_said_one}
use Rattle.layout.specs.declared.frame.Frame.{Frame}
use Rattle.layout.specs.declared.layout.Due.{Due}
use Rattle.layout.specs.declared.layout.Due.TheVariants.{Wrong, Close, Member}
use Rattle.layout.specs.declared.layout.Layout.{Layout}

-- a container of a length at an offset, that was looked up
pub record Entered (file : List ℕ) (l : Layout) (n k offset : ℕ) : Type 0 where
  pub shape : Shape
  pub look : look_of file l n ≡ container shape k offset

-- references that all lie within the file
abbrev AllOf : List (Option ℕ) → Type 0
AllOf [] = Unit {0}
AllOf (Some n ∷ es) = AllOf es
AllOf (None ∷ es) = ⊥

row_all : (file : List ℕ) (w : Width) (at n : ℕ) → at + n * bytes_in w ≤ length file → AllOf (row file w at n)
unfolding row number_at
row_all file w at zero h = tt
row_all file w at (suc n) h =
    let m : at + (n * bytes_in w + bytes_in w) ≤ length file = rw suc-mul at h in
    rw (le-leb (at + bytes_in w) (length file) (omega arith)) (row_all file w (at + bytes_in w) n (omega arith))

turn_all : (a b : List (Option ℕ)) → AllOf a → AllOf b → AllOf (in_turn a b)
unfolding in_turn
turn_all [] b h k = k
turn_all (Some x ∷ a) [] h k = h
turn_all (Some x ∷ a) (Some y ∷ b) h k = turn_all a b h k
turn_all (Some x ∷ a) (None ∷ b) h k = absurd k
turn_all (None ∷ a) b h k = absurd h

made_all : (file : List ℕ) (w : Width) (s : Shape) (e : Extent) → e.start + refs_of s e.count * bytes_in w ≤ length file → AllOf (entries_in file w (made s e))
unfolding made refs_of entries_in
made_all file w array e h = row_all file w e.start e.count h
made_all file w dictionary e h =
    let t : 2 * e.count ≡ e.count + e.count = omega arith in
    let d : 2 * e.count * bytes_in w ≡ e.count * bytes_in w + e.count * bytes_in w = ap (λ (x : ℕ). x * bytes_in w) t ∙ add-mul e.count e.count (bytes_in w) in
    turn_all _ _ (row_all file w e.start e.count (omega (arith, d))) (row_all file w (e.start + e.count * bytes_in w) e.count (omega (arith, d)))

-- so up to their number none is wrong
none_wrong : (offset : ℕ) (es : List (Option ℕ)) (p : ℕ) → AllOf es → p ≤ length es → element_of offset es p ≡ Wrong → ⊥
unfolding element_of given
none_wrong offset [] zero a h e = let z : ◌≡◌ {A = ℕ} 0 1 = cc in omega arith
none_wrong offset [] (suc p) a h e = omega arith
none_wrong offset (Some n ∷ es) zero a h e = let z : ◌≡◌ {A = ℕ} 0 1 = cc in omega arith
none_wrong offset (Some n ∷ es) (suc p) a h e = none_wrong offset es p a (omega arith) e
none_wrong offset (None ∷ es) p a h e = a

long_made : (s : Shape) (e : Extent) → length_of (made s e) ≡ Some e.count
unfolding made length_of
long_made array e = refl
long_made dictionary e = refl

-- an element and those behind it
dropped : (l : List ℕ) (p m : ℕ) → get_elem? l p ≡ some m → (drop p l ≡ m ∷ drop (suc p) l) × (p < length l)
dropped [] p m e = let z : ◌≡◌ {A = ℕ} 0 1 = cc in absurd (omega arith)
dropped (x ∷ xs) zero m e = (let q : x ≡ m = cc in ap (λ (y : ℕ). y ∷ xs) q, omega arith)
dropped (x ∷ xs) (suc p) m e = let t = dropped xs p m e in (t.0, omega (arith, t.1))

module _ (file : List ℕ) (l : Layout) (n k offset : ℕ) (w : Entered file l n k offset) where
  abbrev here : Container
  here = container_at file offset

  abbrev refs : List ℕ
  refs = references_of file l n

  abbrev frame : ℕ → Frame
  frame p = at_position (new_frame n k offset) p

  -- what is due at a position
  abbrev pub due : ℕ → Due
  due p = due_of file l (frame p)

  stands : Standing file l n w.shape k offset
  stands = standing file l n w.shape k offset w.look

  -- its offset has 32 bits
  pub early : length file ≤ max_length → offset < 2 ^ 32
  early h = omega (arith, stands_before file l n w.shape k offset w.look)

  due_in_law : (p : ℕ) → due p ≡ due_in file l (frame p) offset here
  due_in_law p = due_here file l (frame p) ∙ rw (looked_in file l n w.shape k offset w.look (frame p) refl refl)

  -- from what the code finds due
  pub due_said_law : (p : ℕ) (c : Container) (r : Due) → c ≡ here → due_said r ≡ due_said (due_in file l (frame p) offset c) → due p ≡ r
  due_said_law p c r e h = due_in_law p ∙ sym (due_said_one r (due_in file l (frame p) offset here) (h ∙ ap (λ (x : Container). due_said (due_in file l (frame p) offset x)) e))

  pub due_more : (p m : ℕ) → due p ≡ Member m → (drop p refs ≡ m ∷ drop (p + 1) refs) × (p < length refs)
  due_more p m e =
      let t = dropped refs p m (rw e at (dues file l (frame p))) in
      (rw add-one t.0, t.1)

  pub due_done : (p o : ℕ) → due p ≡ Close o → p ≡ length refs
  due_done p o e = let d : Dues file l (frame p) (Close o) = rw e at (dues file l (frame p)) in d.1

  -- a position can be counted on
  pub due_counted : length file ≤ max_length → (p m : ℕ) → due p ≡ Member m → p + 1 < 2 ^ 32
  due_counted h p m e = counted file h m l (frame p) e

  -- what is due is never wrong
  pub never_wrong : (p : ℕ) → p ≤ length refs → due p ≡ Wrong → ⊥
  unfolding references_of entries_of
  never_wrong p h e =
      let st = looked_in file l n w.shape k offset w.look (frame p) refl refl in
      let sa = looked_stands file l n w.shape k offset w.look in
      let lo : length_of here ≡ Some k = ap length_of stands.lies.is ∙ long_made w.shape stands.lies.extent ∙ ap Some stands.lies.counts in
      let es : List (Option ℕ) = entries_of file l n in
      let al : AllOf es = rw (sa, stands.lies.is) (made_all file l.refs w.shape stands.lies.extent (rw stands.lies.counts stands.lies.inside)) in
      let ln : length refs ≡ length es = length-map es number_in in
      none_wrong _ es p al (omega (arith, ln)) (sym (due_entry file l (frame p) (rw st lo)) ∙ e)

  -- so it is each of the references in turn, and behind the last of them the end
  pub due_next : (p m : ℕ) (ms : List ℕ) → p ≤ length refs → drop p refs ≡ m ∷ ms → (due p ≡ Member m) × (drop (p + 1) refs ≡ ms)
  due_next p m ms h d = go (due p) refl
    where
      left : length refs - p ≡ suc (length ms)
      left = sym (length-drop p refs) ∙ ap (λ (s : List ℕ). length s) d

      go : (x : Due) → due p ≡ x → (due p ≡ Member m) × (drop (p + 1) refs ≡ ms)
      go Wrong e = absurd (never_wrong p h e)
      go (Close o) e = absurd (omega (arith, left, due_done p o e))
      go (Member q) e =
          let t : q ∷ drop (p + 1) refs ≡ m ∷ ms = sym (due_more p q e).0 ∙ d in
          let u : q ≡ m = cc in
          (e ∙ ap Member u, cc)

  pub due_last : due (length refs) ≡ Close offset
  due_last = go (due (length refs)) refl
    where
      go : (x : Due) → due (length refs) ≡ x → due (length refs) ≡ Close offset
      go Wrong e = absurd (never_wrong (length refs) (omega arith) e)
      go (Close o) e =
          let d : Dues file l (frame (length refs)) (Close o) = rw e at (dues file l (frame (length refs))) in
          e ∙ ap Close (d.0 ∙ rw (looked_in file l n w.shape k offset w.look (frame (length refs)) refl refl))
      go (Member q) e = absurd (omega (arith, (due_more (length refs) q e).1))
