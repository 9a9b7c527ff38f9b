-- The parts of a file: magic, objects, offset table and trailer.
use Rattle.std.specs.Prelude.{◌≡◌, ℕ, ◌+◌, ◌-◌, ◌*◌, ◌<◌, ◌≤◌, List, [], ◌∷◌, ◌++◌, map, length, get_or, take, drop, slice_index, slice_index_or, refl}
use Rattle.std.proofs.Common.{sym, ap, ◌∙◌, arith, lit<, length-drop, ext_get_or, get_or-take, get_or-drop, length-take-le}
use Rattle.std.proofs.lemmas.List.{length-map}
use Rattle.std.proofs.lemmas.List.Edits.{sets}
use Rattle.utf.proofs.Writing.{sets_append}
use Rattle.number.specs.Be.{be, onto, bytes_of}
use Rattle.number.specs.BeLaws.{Bytes, bytes_of_be, length_bytes_of}
use Rattle.number.specs.Size.{size_of}
use Rattle.event.specs.Format.{magic}
use Rattle.written.specs.Encoding.{numbers_bytes, trailer_bytes}
use Rattle.written.proofs.EmissionLaws.{numbered_written}
use Rattle.written.specs.File.{body, table, table_at, offset_size, ref_size, place_of, file_of}
use Rattle.number.specs.SizeLaws.{sized, sized_le}
use Rattle.written.proofs.FileLaws.{length_table, order_few}
use Rattle.written.specs.Graph.{Piece, box, order, emission}
use Rattle.written.proofs.NameLaws.{get_d_map_lt}
use Rattle.written.proofs.NumberLaws.{number_at_law, order_in}
use Rattle.writer.specs.Ready.{Ready, pieces_in}
use Rattle.writer.specs.ReadyLaws.{ready_count}
use Rattle.writer.specs.Speak.{place_in, Placed, Wrote}

-- the magic is a number of eight bytes
pub magic_bytes : magic ≡ bytes_of 8 0x6270_6C69_7374_3030
unfolding magic bytes_of
magic_bytes = refl

-- six zeros and two sizes are one number of eight bytes
sizes_bytes : (size width : ℕ) → size < 256 → width < 256 → bytes_of 8 (size * 256 + width) ≡ 0 ∷ 0 ∷ 0 ∷ 0 ∷ 0 ∷ 0 ∷ size ∷ width ∷ []
unfolding be onto
sizes_bytes size width h k =
    let s : List ℕ = 0 ∷ 0 ∷ 0 ∷ 0 ∷ 0 ∷ 0 ∷ size ∷ width ∷ [] in
    let b : Bytes s = (lit< tt, (lit< tt, (lit< tt, (lit< tt, (lit< tt, (lit< tt, (h, (k, tt)))))))) in
    let e : be s ≡ size * 256 + width = omega arith in
    ap (bytes_of 8) (sym e) ∙ bytes_of_be s b

pub trailer_bytes_law : (size width count table : ℕ) → size < 256 → width < 256 → trailer_bytes size width count 0 table ≡ bytes_of 8 (size * 256 + width) ++ (bytes_of 8 count ++ (bytes_of 8 0 ++ bytes_of 8 table))
unfolding trailer_bytes
trailer_bytes_law size width count table h k =
    let r = bytes_of 8 count ++ (bytes_of 8 0 ++ bytes_of 8 table) in
    ap (λ (l : List ℕ). l ++ r) (sym (sizes_bytes size width h k))

-- the trailer in four numbers
pub trailer_parts : (out : List ℕ) (pos size width count table : ℕ) → size < 256 → width < 256 →
    sets out pos (trailer_bytes size width count 0 table) ≡ sets (sets (sets (sets out pos (bytes_of 8 (size * 256 + width))) (pos + 8) (bytes_of 8 count)) (pos + 16) (bytes_of 8 0)) (pos + 24) (bytes_of 8 table)
trailer_parts out pos size width count table h k =
    let s = bytes_of 8 (size * 256 + width) in
    let p : pos + 8 + 8 ≡ pos + 16 = omega arith in
    let q : pos + 16 + 8 ≡ pos + 24 = omega arith in
    rw (trailer_bytes_law size width count table h k, sets_append s (bytes_of 8 count ++ (bytes_of 8 0 ++ bytes_of 8 table)) out pos, length_bytes_of 8 (size * 256 + width))
    (sets_append (bytes_of 8 count) (bytes_of 8 0 ++ bytes_of 8 table) (sets out pos s) (pos + 8) ∙ rw (length_bytes_of 8 count, p)
    (sets_append (bytes_of 8 0) (bytes_of 8 table) (sets (sets out pos s) (pos + 8) (bytes_of 8 count)) (pos + 16) ∙ rw (length_bytes_of 8 0, q)))

-- the parts one after the other are the file
file_parts : (es : List Piece) (out : List ℕ) →
    let rest = trailer_bytes (offset_size es) (ref_size es) (length (order es)) 0 (table_at es) in
    sets (sets (sets (sets out 0 magic) 8 (body es)) (table_at es) (table es)) (table_at es + length (order es) * offset_size es) rest ≡ sets out 0 (file_of es)
unfolding file_of table_at magic
file_parts es out =
    let rest = trailer_bytes (offset_size es) (ref_size es) (length (order es)) 0 (table_at es) in
    let a : sets out 0 (magic ++ (body es ++ (table es ++ rest))) ≡ sets (sets out 0 magic) 8 (body es ++ (table es ++ rest)) = sets_append magic (body es ++ (table es ++ rest)) out 0 in
    let b = sets_append (body es) (table es ++ rest) (sets out 0 magic) 8 in
    let c = sets_append (table es) rest (sets (sets out 0 magic) 8 (body es)) (8 + length (body es)) in
    sym (a ∙ b ∙ c ∙ rw (length_table es))

pub table_behind : (es : List Piece) → 8 ≤ table_at es
unfolding table_at
table_behind es = omega arith

pub offset_is : (es : List Piece) → offset_size es ≡ size_of (table_at es)
unfolding offset_size
offset_is es = refl

pub offset_le : (es : List Piece) → offset_size es ≤ 8
unfolding offset_size
offset_le es = sized_le (sized (table_at es))

pub ref_le : (es : List Piece) → ref_size es ≤ 8
unfolding ref_size
ref_le es = sized_le (sized (length (order es) - 1))

-- the column AT of all objects is the table
module _ {t : List ℕ} {n : ℕ} (ready : Ready t n) (w : List ℕ) (long : length w ≡ n * 8) (placed : Placed t w n (emission (pieces_in t))) where
  place_at : (i : ℕ) → i < length (order (pieces_in t)) → slice_index w (n * 5 + i) ≡ place_of (pieces_in t) (slice_index_or (order (pieces_in t)) i (box 0))
  unfolding place_in place_of
  place_at i h =
      let es = pieces_in t in
      let x = get_or (order es) i (box 0) in
      let o = order_in es i (box 0) h in
      rw (number_at_law es i (box 0) h) at (placed x o) ∙ rw (numbered_written es x o)

  pub table_words : take (length (order (pieces_in t))) (drop (n * 5) w) ≡ map (place_of (pieces_in t)) (order (pieces_in t))
  table_words =
      let es = pieces_in t in
      let k = length (order es) in
      let fits : k ≤ length (drop (n * 5) w) = rw length-drop (omega (arith, order_few es, ready_count ready)) in
      let l : length (take k (drop (n * 5) w)) ≡ k = length-take-le k (drop (n * 5) w) fits in
      ext_get_or 0 (take k (drop (n * 5) w)) (map (place_of es) (order es)) (l ∙ sym (length-map (order es) (place_of es))) (λ i h.
      let lt : i < k = omega arith in
      get_or-take k (drop (n * 5) w) i 0 lt ∙ get_or-drop (n * 5) w i 0 ∙ place_at i lt ∙ sym (get_d_map_lt (place_of es) (order es) i (box 0) 0 lt))

  -- and behind it the trailer
  module _
      {b d : List ℕ} {count size at end : ℕ} (hc : count ≡ length (order (pieces_in t))) (hs : size ≡ offset_size (pieces_in t)) (ha : at ≡ table_at (pieces_in t))
      (wrote : Wrote b at (numbers_bytes size (take count (drop (n * 5) w))) d end) where
    bytes_are : numbers_bytes size (take count (drop (n * 5) w)) ≡ table (pieces_in t)
    unfolding table
    bytes_are = rw (hs, hc, table_words)

    pub table_end : end ≡ table_at (pieces_in t) + length (order (pieces_in t)) * offset_size (pieces_in t)
    table_end = wrote.ends ∙ rw (bytes_are, length_table (pieces_in t), ha)

    pub file_written :
        (out : List ℕ) {a f : List ℕ} {width : ℕ} → width ≡ ref_size (pieces_in t) → a ≡ sets out 0 (bytes_of 8 0x6270_6C69_7374_3030) → b ≡ sets a 8 (body (pieces_in t)) → f ≡ sets d end (trailer_bytes size width count 0 at) →
        f ≡ sets out 0 (file_of (pieces_in t))
    file_written out hw pa pb pf = rw (pf, wrote.memory, pb, pa, table_end, bytes_are, hs, hw, hc, ha, ← magic_bytes) (file_parts (pieces_in t) out)
