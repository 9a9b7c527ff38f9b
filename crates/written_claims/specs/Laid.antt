-- The written file's layout: where its objects, its table and its trailer stand.
use mathlib.Core.List.{List, ◌++◌, map, append_assoc}
use Rattle.std.specs.Prelude.{◌≡◌, ℕ, ◌+◌, ◌*◌, ◌-◌, ◌^◌, ◌≤◌, ◌<◌, Some}
use Rattle.std.proofs.Math.Path.{sym, ap}
use Rattle.std.proofs.Common.{◌∙◌, arith, lit<}
use Rattle.std.proofs.Math.ListN.{length, get_or, length-append, length-map}
use Rattle.number.specs.SizeLaws.{fits_itself}
use Rattle.number.specs.Width.{bytes_in}
use Rattle.utf.specs.Bounds.{Below}
use Rattle.event.specs.Format.{magic, max_length}
use Rattle.object.specs.Content.{trailer_at}
use Rattle.layout.specs.Layout.{entry_at}
use Rattle.layout.specs.Trailer.{lays, trailer_of}
use Rattle.layout.specs.declared.layout.Layout.{Layout}
use Rattle.written.proofs.EmissionLaws.{numbered_written}
use Rattle.written.specs.Encoding.{trailer_bytes}
use Rattle.written.specs.File.{flat, ahead, ref_size, bytes_at, body, place_of, table_at, offset_size, table, file_of}
use Rattle.written.proofs.FileLaws.{length_table, file_length}
use Rattle.written.proofs.FlatLaws.{flat_at}
use Rattle.written.specs.Graph.{Piece, Name, order, number, emission}
use Rattle.written.proofs.NameLaws.{In, get_d_map_lt}
use Rattle.written.proofs.NumberLaws.{number_lt, order_at}
use Rattle.written_claims.specs.LookLaws.{table_reads}
use Rattle.written_claims.specs.Stands.{Stands, Whole, stands_between, stands_last}
use Rattle.written_claims.specs.TrailerLaws.{begins_front, length_magic, trailer_reads}
use Rattle.written_claims.specs.Widths.{width_for, bytes_in_width_for, times_size, below_map}

module _ (es : List Piece) where
  abbrev pub layout_of : Layout
  layout_of = record { offsets = width_for (table_at es); refs = width_for (length (order es) - 1); count = length (order es); table = table_at es }

  pub refs_size : bytes_in layout_of.refs ≡ ref_size es
  unfolding ref_size
  refs_size = bytes_in_width_for (length (order es) - 1)

  pub offsets_size : bytes_in layout_of.offsets ≡ offset_size es
  unfolding offset_size
  offsets_size = bytes_in_width_for (table_at es)

  -- T is where the table ends
  pub trailer_at_law : trailer_at (file_of es) ≡ table_at es + length (order es) * offset_size es
  trailer_at_law = omega (arith, file_length es)

  abbrev last : List ℕ
  last = trailer_bytes (offset_size es) (ref_size es) (length (order es)) 0 (table_at es)

  -- an object's bytes stand at its place, and end at or before the table
  pub record There (x : Name) : Type 0 where
    pub stands : Stands (file_of es) (place_of es x) (bytes_at es x)
    pub ends : place_of es x + length (bytes_at es x) ≤ table_at es

  pub object_there : (x : Name) → In x (order es) → There x
  unfolding file_of place_of body table_at
  object_there x h =
      let r = flat_at (bytes_at es) x (emission es) (numbered_written es x h) in
      let p = r.0 in
      let s = bytes_at es x in
      let q = r.1 in
      let back = table es ++ last in
      let f : magic ++ (flat (bytes_at es) (emission es) ++ back) ≡ (magic ++ p) ++ (s ++ (q ++ back)) = rw r.2 (simp append_assoc) in
      let g : 8 + ahead (bytes_at es) x (emission es) ≡ length (magic ++ p) = sym (length-append magic p ∙ rw (length_magic, r.3)) in
      record {
        stands = rw (f, g) (stands_between (magic ++ p) s (q ++ back));
        ends = omega (arith, r.3, ap length r.2, length-append p (s ++ q), length-append s q);
      }

  pub object_whole : (x : Name) → In x (order es) → Whole (file_of es) (place_of es x) (bytes_at es x)
  object_whole x h = let t = object_there x h in record { stands = t.stands; ends = omega (arith, t.ends, trailer_at_law) }

  stands_table : Stands (file_of es) (table_at es) (table es)
  unfolding file_of table_at
  stands_table =
      let g : length (magic ++ body es) ≡ 8 + length (body es) = length-append magic (body es) ∙ rw length_magic in
      rw (append_assoc magic (body es) (table es ++ last), g) at (stands_between (magic ++ body es) (table es) last)

  stands_trailer : Stands (file_of es) (trailer_at (file_of es)) last
  unfolding file_of table_at
  stands_trailer =
      let front = magic ++ (body es ++ table es) in
      let e : front ++ last ≡ file_of es = simp append_assoc in
      let g : length front ≡ trailer_at (file_of es) = omega (arith, trailer_at_law, length-append magic (body es ++ table es), length-append (body es) (table es), length_magic, length_table es) in
      rw (e, g) at (stands_last front last)

  module _ (short : length (file_of es) ≤ max_length) where
    pub few : length (order es) < 2 ^ 31
    few = omega (arith, file_length es, rw offsets_size at (times_size layout_of.offsets (length (order es))), short)

    pub near : table_at es < 2 ^ 31
    near = omega (arith, file_length es, short)

    pub trailer : trailer_of (file_of es) ≡ lays layout_of 0
    unfolding file_of
    trailer =
        trailer_reads (file_of es) layout_of 0 (begins_front magic (body es ++ (table es ++ last))) (rw (offsets_size, refs_size) stands_trailer)
        (omega (arith, few)) (lit< tt) (omega (arith, near)) (rw offsets_size (omega (arith, trailer_at_law)))

    places_small : Below (256 ^ offset_size es) (map (place_of es) (order es))
    unfolding offset_size
    places_small = below_map (256 ^ offset_size es) (place_of es) (order es) (λ x h. omega (arith, (object_there x h).ends, fits_itself (table_at es) (omega (arith, near))))

    -- the table gives each object's place
    pub entry : (x : Name) → In x (order es) → entry_at (file_of es) layout_of (number es x) ≡ Some (place_of es x)
    unfolding table
    entry x h =
        let lt = number_lt es x h in
        let places = map (place_of es) (order es) in
        let g : get_or places (number es x) 0 ≡ place_of es x = get_d_map_lt (place_of es) (order es) (number es x) x 0 lt ∙ ap (place_of es) (order_at es x x h) in
        table_reads (file_of es) layout_of places (number es x) (rw offsets_size places_small) (rw length-map lt) (rw offsets_size stands_table) ∙ ap Some g
