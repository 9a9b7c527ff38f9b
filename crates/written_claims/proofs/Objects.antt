-- What the written file's bytes say of each number below the count: a scalar, or a container with its references.
use mathlib.Core.Option.{none, some}
use Rattle.std.specs.Prelude.{false, ◌≡◌, refl, ℕ, suc, ◌≤◌, ◌<◌, length, Some}
use Rattle.std.proofs.Common.{true≢false, ◌∙◌, arith, le-ltb}
use mathlib.Core.List.{List, [], ◌∷◌, map}
use Rattle.std.proofs.Math.Path.{sym, ap}
use Rattle.std.proofs.Math.ListN.{get_or, get_elem?, drop, length-map}
use Rattle.std.proofs.Math.Seq.{drop-cons, drop-length}
use Rattle.number.specs.Width.{bytes_in}
use Rattle.event.specs.Format.{max_open}
use Rattle.layout.specs.FoundLaws.{refs_of}
use Rattle.layout.specs.Layout.{look_of, due_of, source_of}
use Rattle.layout.specs.Looked.{Source, Shape, container}
use Rattle.layout.specs.Looked as looked
use Rattle.layout.specs.References.{references_of}
use Rattle.layout.specs.ReferencesLaws.{Dues, dues}
use Rattle.layout.specs.declared.layout.Due.TheVariants.{Close, Member}
use Rattle.layout.specs.declared.layout.Layout.{Layout}
use Rattle.layout.specs.declared.frame.Frame.{Frame}
use Rattle.written.proofs.EmissionLaws.{numbered_written}
use Rattle.written.specs.File.{ref_size, bytes_at, place_of, table_at, file_of}
use Rattle.written.proofs.FirstLaws.{Stands, emission_told}
use Rattle.written.specs.Graph.{Scalar, Kind, arr, dic, Piece, scalar, start, end, Name, val, box, kids, order, number, object_of}
use Rattle.written.proofs.NameLaws.{In, get_d_map_lt}
use Rattle.written.proofs.NumberLaws.{order_in, number_at_law}
use Rattle.written.specs.Shape.{inside, name_of, is_end}
use Rattle.written.specs.Weigh.{counted}
use Rattle.written.proofs.WholeLaws.{Parity, whole_parity}
use Rattle.written_claims.specs.FileShown.{fine, file_shows}
use Rattle.written_claims.specs.Filled.{shape_of}
use Rattle.written_claims.specs.Back.{Known, event_by, due_member, due_end, look_box, look_val}
use Rattle.written_claims.specs.Laid.{layout_of, object_there}
use Rattle.written_claims.specs.Members.{members_of, members_at}
use Rattle.written_claims.specs.ObjectLaws.{object_pos}
use Rattle.written_claims.specs.References.{named_in, named_by}
use Rattle.written_claims.specs.Writable.{is_val, box_in, Sound}

-- a container that has a number begins at its place
pub record Begins (es : List Piece) (p : ℕ) : Type 0 where
  pub kind : Kind
  pub post : List Piece
  pub there : drop p es ≡ start kind ∷ post

pub box_begins : (es : List Piece) (p : ℕ) → In (box p) (order es) → Begins es p
box_begins es p h = go t.1.piece t.1.there t.1.named t.1.opens
  where
    t : (i : ℕ) × Stands es i (box p)
    t = emission_told es (box p) (numbered_written es (box p) h)

    go : (x : Piece) → drop t.0 es ≡ x ∷ t.1.post → name_of t.0 x ≡ box p → is_end x ≡ false → Begins es p
    go (scalar s) d n o = absurd (true≢false (ap is_val n))
    go (start k) d n o = record { kind = k; post = t.1.post; there = ap (λ (i : ℕ). drop i es) (sym (ap box_in n)) ∙ d }
    go end d n o = absurd (true≢false o)

-- a number below the count is a scalar's or a container's
pub data Numbered (es : List Piece) (i : ℕ) : Type 0 where
  value : (s : Scalar) → In (val s) (order es) → number es (val s) ≡ i → Numbered es i
  holder : (p : ℕ) → In (box p) (order es) → number es (box p) ≡ i → Begins es p → Numbered es i

pub numbered : (es : List Piece) (i : ℕ) → i < length (order es) → Numbered es i
numbered es i h = go (get_or (order es) i (box 0)) (order_in es i (box 0) h) (number_at_law es i (box 0) h)
  where
    go : (x : Name) → In x (order es) → number es x ≡ i → Numbered es i
    go (val s) n e = value s n e
    go (box p) n e = holder p n e (box_begins es p n)

-- a container's members are as many as its length says
many_members : (k : Kind) (n : ℕ) → Parity (inside k) n → refs_of (shape_of k) (counted k n) ≡ n
unfolding refs_of counted
many_members arr n v = refl
many_members dic n v = omega (arith, v)

-- two lists with the same elements at the same places
same_elements : (a b : List ℕ) → length a ≡ length b → ((i : ℕ) → i < length b → get_elem? a i ≡ some (get_or b i 0)) → a ≡ b
same_elements [] [] e h = refl
same_elements [] (y ∷ b) e h = absurd (omega arith)
same_elements (x ∷ a) [] e h = absurd (omega arith)
same_elements (x ∷ a) (y ∷ b) e h =
    let q : some x ≡ some y = h 0 (omega arith) in
    let t : x ≡ y = cc in
    rw (t, same_elements a b (omega arith) (λ i lt. h (suc i) (omega arith)))

module _ (es : List Piece) (g : Sound es) where
  abbrev file : List ℕ
  file = file_of es

  abbrev l : Layout
  l = layout_of es

  abbrev src : Source
  src = source_of file l

  pub look_value : (s : Scalar) → In (val s) (order es) → look_of file l (number es (val s)) ≡ looked.scalar (event_by es src s) (place_of es (val s))
  unfolding source_of
  look_value s h = look_val es file src (place_of es) (file_shows es g) s h

  module _ (p : ℕ) (h : In (box p) (order es)) (b : Begins es p) where
    abbrev ms : List Name
    ms = kids 0 (suc p) b.post

    abbrev long : ℕ
    long = counted b.kind (length ms)

    even : Parity (inside b.kind) (length ms)
    even = whole_parity max_open es p (suc p) b.kind b.post g.one b.there

    pub look_holder : look_of file l (number es (box p)) ≡ container (shape_of b.kind) long (place_of es (box p))
    unfolding source_of
    look_holder = look_box es file src (place_of es) (file_shows es g) p b.kind b.post b.there h even

    abbrev frame_at : ℕ → Frame
    frame_at i = record { object = number es (box p); position = i; length = long; offset = place_of es (box p) }

    known : (i : ℕ) (r : List Name) → drop i ms ≡ r → i ≤ length ms → Known es file src (place_of es) (file_shows es g) (suc p) p r (frame_at i)
    known i r e u = record { kind = b.kind; post = b.post; before = omega arith; begins = b.there; named = h; obj_is = refl; at_is = refl; len_is = refl; even = even; upto = u; rest = e }

    -- the reference at a position is that of the member there
    listed : (i : ℕ) → i < length ms → get_elem? (references_of file l (number es (box p))) i ≡ some (get_or (map (number es) ms) i 0)
    unfolding source_of
    listed i lt =
        let x : Name = get_or ms i (box 0) in
        let e : drop i ms ≡ x ∷ drop (suc i) ms = drop-cons ms i (box 0) lt in
        let d : due_of file l (frame_at i) ≡ Member (number es x) = due_member es file src (place_of es) (file_shows es g) (suc p) p x (drop (suc i) ms) (frame_at i) (known i _ e (omega arith)) in
        let t : get_elem? (references_of file l (number es (box p))) i ≡ some (number es x) = rw d at (dues file l (frame_at i)) in
        t ∙ ap some (sym (get_d_map_lt (number es) ms i (box 0) 0 lt))

    -- they are as many as the members
    counted_refs : length (references_of file l (number es (box p))) ≡ length ms
    unfolding source_of
    counted_refs =
        let e : drop (length ms) ms ≡ [] = drop-length ms in
        let d : due_of file l (frame_at (length ms)) ≡ Close (place_of es (box p)) = due_end es file src (place_of es) (file_shows es g) (suc p) p (frame_at (length ms)) (known (length ms) [] e (omega arith)) in
        let t : Dues file l (frame_at (length ms)) (Close (place_of es (box p))) = rw d at (dues file l (frame_at (length ms))) in
        sym t.1

    pub references_holder : named_by file l (number es (box p)) ≡ map (number es) (members_of es (box p))
    unfolding named_by named_in members_of members_at
    references_holder = rw (look_holder, b.there) (same_elements _ _ (counted_refs ∙ sym (length-map ms (number es))) (λ i h. listed i (rw (length-map ms (number es)) at h)))

    -- as many as its length says
    pub references_many : (s : Shape) (k at : ℕ) → look_of file l (number es (box p)) ≡ container s k at → length (named_by file l (number es (box p))) ≡ refs_of s k
    unfolding members_of members_at
    references_many s k at look =
        let t : container (shape_of b.kind) long (place_of es (box p)) ≡ container s k at = sym look_holder ∙ look in
        let u : shape_of b.kind ≡ s = cc in
        let v : long ≡ k = cc in
        rw (references_holder, length-map, b.there, ← u, ← v) (sym (many_members b.kind (length ms) even))

  references_value : (s : Scalar) → In (val s) (order es) → named_by file l (number es (val s)) ≡ []
  unfolding named_by named_in
  references_value s h = rw (look_value s h)

  -- THE REFERENCES of an object are the numbers of its members, in order
  pub references_are : (x : Name) → In x (order es) → named_by file l (number es x) ≡ map (number es) (members_of es x)
  unfolding members_of
  references_are (val s) h = references_value s h
  references_are (box p) h = references_holder p h (box_begins es p h)

  -- a number at or above the count has none
  pub references_none : (i : ℕ) → length (order es) ≤ i → named_by file l i ≡ []
  unfolding named_by named_in look_of
  references_none i h = rw (le-ltb i (length (order es)) h)

  -- an object's offset is below the table
  pub object_below : (x : Name) → In x (order es) → place_of es x < table_at es
  unfolding bytes_at
  object_below x h = omega (arith, (object_there es x h).ends, object_pos (ref_size es) (bytes_in (layout_of es).refs) (object_of es x) (fine es g x h))
