-- Every object of a written file is shown by it.
use mathlib.Core.List.{List, [], ◌∷◌, ◌++◌, map}
use Rattle.std.specs.Prelude.{◌≡◌, ℕ, suc, ◌-◌, ◌%◌, ◌^◌, ◌<◌}
use Rattle.std.proofs.Math.Path.{refl}
use Rattle.std.proofs.Common.{arith, lit<}
use Rattle.std.proofs.Math.ListN.{length, drop, length-append, length-map}
use Rattle.number.specs.SizeLaws.{fits_itself}
use Rattle.number.specs.Width.{bytes_in}
use Rattle.utf.specs.Bounds.{Below}
use Rattle.event.specs.Format.{max_open}
use Rattle.layout.specs.Layout.{source_of}
use Rattle.written.specs.Encoding.{head_bytes, numbers_bytes, object_bytes}
use Rattle.written.specs.File.{ref_size, bytes_at, place_of, file_of}
use Rattle.written.proofs.FileLaws.{length_numbers}
use Rattle.written.specs.Graph.{arr, dic, Piece, scalar, start, end, Name, val, box, kids, evens, odds, order, number, body_of, object_of}
use Rattle.written.proofs.NameLaws.{In, length_evens, length_odds}
use Rattle.written.proofs.NumberLaws.{number_lt, kid_named}
use Rattle.written.proofs.CountLaws.{times_in, times_halves, in_times, in_evens}
use Rattle.written.proofs.WholeLaws.{whole_parity}
use Rattle.written_claims.specs.Laid.{layout_of, refs_size, object_there, object_whole, few, near, entry}
use Rattle.written_claims.specs.ObjectLaws.{object_shown}
use Rattle.written_claims.specs.Shown.{Fine, Shown}
use Rattle.written_claims.specs.Widths.{times_size, below_map}
use Rattle.written_claims.specs.Writable.{Sound}

below_append : (k : ℕ) (ns ms : List ℕ) → Below k ns → Below k ms → Below k (ns ++ ms)
below_append k [] ms h g = g
below_append k (n ∷ ns) ms h g = (h.0, below_append k ns ms h.1 g)

in_odds : (x : Name) (l : List Name) → In x (odds l) → In x l
in_odds x l h = in_times x l (omega (arith, times_in x (odds l) h, times_halves x l))

module _ (es : List Piece) (g : Sound es) where
  abbrev size : ℕ
  size = bytes_in (layout_of es).refs

  -- an object's bytes are within the file
  bytes_few : (x : Name) → In x (order es) → length (bytes_at es x) < 2 ^ 64
  bytes_few x h = omega (arith, (object_there es x h).ends, near es g.short)

  -- references have the size of the greatest number
  number_small : (x : Name) → In x (order es) → number es x < 256 ^ size
  unfolding ref_size
  number_small x h = rw refs_size (omega (arith, number_lt es x h, few es g.short, fits_itself (length (order es) - 1) (omega (arith, few es g.short))))

  pub fine : (x : Name) → In x (order es) → Fine size (object_of es x)
  unfolding object_of body_of bytes_at object_bytes
  fine (val s) h = let g = g.scalars s h in (g.0, g.1)
  fine (box p) h = go (drop p es) refl (bytes_few (box p) h)
    where
      go : (d : List Piece) → drop p es ≡ d → length (object_bytes (ref_size es) (body_of (number es) p d)) < 2 ^ 64 → Fine size (body_of (number es) p d)
      go [] e l = (lit< tt, tt)
      go (scalar s ∷ d) e l = (lit< tt, tt)
      go (start arr ∷ d) e l =
          let ms = kids 0 (suc p) d in
          let rs = map (number es) ms in (
            omega (arith, l, length-append (head_bytes 0xA0 (length rs)) (numbers_bytes (ref_size es) rs), length_numbers (ref_size es) rs, rw refs_size at (times_size (layout_of es).refs (length rs))),
            below_map (256 ^ size) (number es) ms (λ x i. number_small x (kid_named es p arr d x e i)),
          )
      go (start dic ∷ d) e l =
          let ms = kids 0 (suc p) d in
          let ks = map (number es) (evens ms) in
          let vs = map (number es) (odds ms) in
          let v : length ms % 2 ≡ 0 = whole_parity max_open es p (suc p) dic d g.one e in (
            omega (arith, v, length-map (evens ms) (number es), length-map (odds ms) (number es), length_evens ms, length_odds ms),
            omega (arith, l, length-append (head_bytes 0xD0 (length ks)) (numbers_bytes (ref_size es) (ks ++ vs)), length_numbers (ref_size es) (ks ++ vs), rw refs_size at (times_size (layout_of es).refs (length (ks ++ vs))), length-append ks vs),
            below_append (256 ^ size) ks vs
                (below_map (256 ^ size) (number es) (evens ms) (λ x i. number_small x (kid_named es p dic d x e (in_evens x ms i))))
                (below_map (256 ^ size) (number es) (odds ms) (λ x i. number_small x (kid_named es p dic d x e (in_odds x ms i)))),
          )
      go (end ∷ d) e l = (lit< tt, tt)

  -- THE OBJECTS: each is shown, at its number and place
  pub file_shows : (x : Name) → In x (order es) → Shown (file_of es) (source_of (file_of es) (layout_of es)) (number es x) (place_of es x) (object_of es x)
  unfolding bytes_at
  file_shows x h = object_shown (file_of es) (layout_of es) (number es x) (place_of es x) (number_lt es x h) (entry es g.short x h) (object_of es x) (fine x h) (rw refs_size (object_whole es x h))
