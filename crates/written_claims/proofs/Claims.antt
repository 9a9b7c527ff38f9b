-- WHAT HOLDS OF EVERY WRITTEN FILE, by the bytes as the reader's definitions read them: every object is looked up, references are in range, every
-- object is reached, equal scalars are one object, each container but the root is named once, from a lower number, objects end before the table,
-- and dates are finite.
use Rattle.std.specs.Prelude.{true, List, map, ◌≡◌, refl, ℕ, ◌+◌, ◌*◌, ◌≤◌, ◌<◌, Some}
use Rattle.std.proofs.Math.Path.{sym}
use Rattle.std.proofs.Common.{ap, ◌∙◌, arith}
use Rattle.std.proofs.Math.ListN.{length, get_or}
use Rattle.event.specs.Format.{max_open}
use Rattle.number.specs.Width.{bytes_in}
use Rattle.event.specs.Date.{is_date}
use Rattle.event.specs.Meaning.{Meaning, close, date, meaning_of}
use Rattle.event.specs.declared.Event.{Event}
use Rattle.event.specs.declared.Event.TheVariants.{Date}
use Rattle.object.specs.Content.{trailer_at}
use Rattle.layout.specs.FoundLaws.{refs_of}
use Rattle.layout.specs.Layout.{entry_at, look_of, source_of}
use Rattle.layout.specs.Looked.{Shape, scalar, container}
use Rattle.layout.specs.Trailer.{lays, trailer_of}
use Rattle.layout.specs.declared.layout.Layout.{Layout}
use Rattle.reader.specs.Meanings.{meaning_at}
use Rattle.tape.specs.Code.{bytes_for, allowed}
use Rattle.tape.proofs.EventsLaws.{all_dates}
use Rattle.written.specs.File.{bytes_at, place_of, file_of, file_for}
use Rattle.written.proofs.FileLaws.{order_some}
use Rattle.written.specs.Graph.{Scalar, Piece, piece_of, val, box, order, number, object_of, meant}
use Rattle.written.proofs.NameLaws.{In}
use Rattle.written.proofs.NumberLaws.{order_in, number_at_law}
use Rattle.written_claims.specs.Accepted.{Accepted, layout_for, sound}
use Rattle.object.specs.End.{end_at}
use Rattle.written_claims.specs.End.{nibble_at, LengthByte}
use Rattle.written_claims.specs.EndLaws.{object_ended}
use Rattle.written_claims.specs.FileShown.{fine}
use Rattle.written_claims.proofs.FileBack.{event_means}
use Rattle.written_claims.specs.Back.{event_by}
use Rattle.written_claims.specs.Laid.{refs_size, offsets_size, trailer_at_law, object_there, object_whole, trailer, entry}
use Rattle.written_claims.proofs.Objects.{look_value, look_holder, references_many, Numbered, value, holder, numbered, object_below}
use Rattle.written_claims.specs.References.{named_by, all_references, Names, Reached, mentions}
use Rattle.written_claims.proofs.Shared as shared

-- an object is looked up as a scalar or a container, at an offset below the table
pub data LookedUp (file : List ℕ) (l : Layout) (i : ℕ) : Type 0 where
  lone : (e : Event) (at : ℕ) → look_of file l i ≡ scalar e at → at < l.table → LookedUp file l i
  holding : (s : Shape) (k at : ℕ) → look_of file l i ≡ container s k at → at < l.table → LookedUp file l i

-- an object's offset, from the table; where its head and content end; what stands before a length that isn't in the marker
pub record EndsBefore (file : List ℕ) (l : Layout) (i : ℕ) : Type 0 where
  pub at : ℕ
  pub entry : entry_at file l i ≡ Some at
  pub before : end_at file l.refs at ≤ l.table
  pub marked : nibble_at file at ≡ 15 → LengthByte (get_or file (at + 1) 0)

clash : {A : Type 0} (e : Event) (at : ℕ) (s : Shape) (k b : ℕ) → scalar e at ≡ container s k b → A
clash e at s k b q = let z : ◌≡◌ {A = ℕ} 0 1 = cc in absurd (omega arith)

module _ (ms : List Meaning) (a : Accepted ms) where
  abbrev es : List Piece
  es = map piece_of ms

  -- 1. the trailer lays the file out; the root is 0, and the count is the number of objects
  pub laid_out : (trailer_of (file_for ms) ≡ lays (layout_for ms) 0) × ((layout_for ms).count ≡ length (order es))
  unfolding file_for
  laid_out = (trailer es (sound ms a).short, refl)

  abbrev Each : ℕ → Type 0
  Each = Numbered es

  each : (i : ℕ) → i < (layout_for ms).count → Each i
  each = numbered es

  pub looked_up : (i : ℕ) → i < (layout_for ms).count → LookedUp (file_for ms) (layout_for ms) i
  unfolding file_for
  looked_up i h = go (each i h)
    where
      go : Each i → LookedUp (file_for ms) (layout_for ms) i
      go (value s n e) = rw (← e) (lone _ _ (look_value es (sound ms a) s n) (object_below es (sound ms a) (val s) n))
      go (holder p n e b) = rw (← e) (holding _ _ _ (look_holder es (sound ms a) p n b) (object_below es (sound ms a) (box p) n))

  -- 2. every reference of every object is below the count
  pub in_range_law : (m i : ℕ) → Names (file_for ms) (layout_for ms) m i → i < (layout_for ms).count
  unfolding file_for
  in_range_law m i h = shared.range es (sound ms a) m i h

  -- and a container has as many as its length says
  pub references_complete : (i : ℕ) → i < (layout_for ms).count → (s : Shape) (k at : ℕ) → look_of (file_for ms) (layout_for ms) i ≡ container s k at → length (named_by (file_for ms) (layout_for ms) i) ≡ refs_of s k
  unfolding file_for
  references_complete i h s k at look = go (each i h)
    where
      go : Each i → length (named_by (file_for ms) (layout_for ms) i) ≡ refs_of s k
      go (value t n q) = clash _ _ s k at (sym (look_value es (sound ms a) t n) ∙ rw q look)
      go (holder p n q b) = rw q at (references_many es (sound ms a) p n b s k at (rw q look))

  -- 3. every object is reached from the root
  pub reached : (i : ℕ) → i < (layout_for ms).count → Reached (file_for ms) (layout_for ms) 0 i
  unfolding file_for
  reached i h = rw (number_at_law es i (box 0) h) at (shared.reaches es (sound ms a) (get_or (order es) i (box 0)) (order_in es i (box 0) h))

  -- what is looked up as a scalar is one, with its meaning
  record Value (i : ℕ) (m : Meaning) : Type 0 where
    bytes : Scalar
    named : In (val bytes) (order es)
    is : number es (val bytes) ≡ i
    means : meant bytes ≡ m

  value_at_law : (i : ℕ) → i < (layout_for ms).count → (e : Event) (at : ℕ) → look_of (file_for ms) (layout_for ms) i ≡ scalar e at → Value i (meaning_at (file_for ms) e at)
  unfolding file_for
  value_at_law i h e at look = go (each i h)
    where
      go : Each i → Value i (meaning_at (file_for ms) e at)
      go (value s n q) =
          let t : scalar (event_by es (source_of (file_of es) (layout_for ms)) s) (place_of es (val s)) ≡ scalar e at = sym (look_value es (sound ms a) s n) ∙ rw q look in
          let c : event_by es (source_of (file_of es) (layout_for ms)) s ≡ e = cc in
          let d : place_of es (val s) ≡ at = cc in
          record { bytes = s; named = n; is = q; means = sym (event_means es (sound ms a) s n) ∙ rw (c, d) }
      go (holder p n q b) = clash e at _ _ _ (sym look ∙ rw q at (look_holder es (sound ms a) p n b))

  -- 4. two numbers of scalars of one meaning are one number
  pub one_object : (i j : ℕ) → i < (layout_for ms).count → j < (layout_for ms).count → (e d : Event) (at bt : ℕ)
      → look_of (file_for ms) (layout_for ms) i ≡ scalar e at → look_of (file_for ms) (layout_for ms) j ≡ scalar d bt
      → meaning_at (file_for ms) e at ≡ meaning_at (file_for ms) d bt → i ≡ j
  one_object i j hi hj e d at bt li lj same =
      let x = value_at_law i hi e at li in
      let y = value_at_law j hj d bt lj in
      let q : x.bytes ≡ y.bytes = sym ((sound ms a).scalars x.bytes x.named).2 ∙ ap bytes_for (x.means ∙ same ∙ sym y.means) ∙ ((sound ms a).scalars y.bytes y.named).2 in
      sym x.is ∙ ap (λ (s : Scalar). number es (val s)) q ∙ y.is

  -- what is looked up as a container is one
  container_at_law : (i : ℕ) → i < (layout_for ms).count → (s : Shape) (k at : ℕ) → look_of (file_for ms) (layout_for ms) i ≡ container s k at → (p : ℕ) × In (box p) (order es) × (number es (box p) ≡ i)
  unfolding file_for
  container_at_law i h s k at look = go (each i h)
    where
      go : Each i → (p : ℕ) × In (box p) (order es) × (number es (box p) ≡ i)
      go (value t n q) = clash _ _ s k at (sym (look_value es (sound ms a) t n) ∙ rw q look)
      go (holder p n q b) = (p, n, q)

  abbrev everywhere : List ℕ
  everywhere = all_references (file_for ms) (layout_for ms) 0 (layout_for ms).count

  -- 5. each container but the root stands exactly once in all references
  pub named_once : (i : ℕ) → i < (layout_for ms).count → (s : Shape) (k at : ℕ) → look_of (file_for ms) (layout_for ms) i ≡ container s k at → 0 < i → mentions i everywhere ≡ 1
  unfolding file_for
  named_once i h s k at look z =
      let c = container_at_law i h s k at look in
      rw c.2 at (shared.once es (sound ms a) c.0 c.1 (rw c.2 z))

  -- the root container in none
  pub root_unnamed : (s : Shape) (k at : ℕ) → look_of (file_for ms) (layout_for ms) 0 ≡ container s k at → mentions 0 everywhere ≡ 0
  unfolding file_for
  root_unnamed s k at look =
      let c = container_at_law 0 (order_some max_open es a.one) s k at look in
      rw c.2 at (shared.root_never es (sound ms a) c.0 c.1 c.2)

  -- and it is named from a lower number
  pub from_lower : (m i : ℕ) → i < (layout_for ms).count → (s : Shape) (k at : ℕ) → look_of (file_for ms) (layout_for ms) i ≡ container s k at → Names (file_for ms) (layout_for ms) m i → m < i
  unfolding file_for
  from_lower m i h s k at look n =
      let c = container_at_law i h s k at look in
      rw c.2 at (shared.from_lower es (sound ms a) m c.0 c.1 (rw c.2 n))

  -- 6. every object ends at or before the table, a length behind its marker has a marker from 10 to 13, and the table ends at T
  pub ends_before_law : (i : ℕ) → i < (layout_for ms).count → EndsBefore (file_for ms) (layout_for ms) i
  unfolding file_for bytes_at
  ends_before_law i h =
      let x = get_or (order es) i (box 0) in
      let n = order_in es i (box 0) h in
      let f = fine es (sound ms a) x n in
      let t = object_there es x n in
      let e = object_ended (file_of es) (layout_for ms).refs (place_of es x) (object_of es x) f (rw refs_size (object_whole es x n)) in
      record {
        at = place_of es x;
        entry = rw (number_at_law es i (box 0) h) at (entry es a.short x n);
        before = rw (e.ends, refs_size) t.ends;
        marked = e.marked;
      }

  pub table_ends : (layout_for ms).table + (layout_for ms).count * bytes_in (layout_for ms).offsets ≡ trailer_at (file_for ms)
  unfolding file_for
  table_ends = rw offsets_size (sym (trailer_at_law es))

  -- every date, of the events and of the objects, is a finite number's
  pub dates_written : (n b : ℕ) → get_or ms n close ≡ date b → is_date b ≡ true
  dates_written = all_dates ms a.held

  pub dates_there : (i : ℕ) → i < (layout_for ms).count → (b at : ℕ) → look_of (file_for ms) (layout_for ms) i ≡ scalar (Date b) at → is_date b ≡ true
  unfolding meaning_at meaning_of allowed
  dates_there i h b at look =
      let x = value_at_law i h (Date b) at look in
      sym (ap allowed x.means) ∙ ((sound ms a).scalars x.bytes x.named).1.1
