-- How long the parts of the file are, and how many objects there are.
use Rattle.std.specs.Prelude.{◌≡◌, refl, Bool, true, false, cond, List, [], ◌∷◌, ◌++◌, map, ℕ, suc, ◌+◌, ◌*◌, ◌≤◌, ◌<◌, length}
use Rattle.std.proofs.Common.{sym, ap, ◌∙◌, append_assoc, suc-mul, arith, length-append}
use Rattle.std.proofs.lemmas.List.{length-map}
use Rattle.number.specs.Be.{bytes_of}
use Rattle.number.specs.BeLaws.{length_bytes_of}
use Rattle.event.specs.Format.{magic}
use Rattle.written.proofs.EmissionLaws.{numbered_written}
use Rattle.written.specs.Encoding.{numbers_bytes, trailer_bytes}
use Rattle.written.specs.File.{ref_size, body, place_of, table_at, offset_size, table, file_of}
use Rattle.written.proofs.FirstLaws.{sum_of, part_of, is_first, along, sum_along, emission_told}
use Rattle.written.specs.Graph.{Piece, Name, same, order}
use Rattle.written.specs.Nub.{has}
use Rattle.written.proofs.NumberLaws.{order_distinct, number_lt, root_named}
use Rattle.written.specs.Shape.{whole, name_of}
use Rattle.written.proofs.WholeLaws.{root_only}

pub length_numbers : (w : ℕ) (ns : List ℕ) → length (numbers_bytes w ns) ≡ length ns * w
unfolding numbers_bytes
length_numbers w [] = omega arith
length_numbers w (n ∷ ns) = rw (length-append (bytes_of w n) (numbers_bytes w ns), length_bytes_of w n, length_numbers w ns, suc-mul (length ns) w) (omega arith)

pub numbers_append : (w : ℕ) (ms ns : List ℕ) → numbers_bytes w (ms ++ ns) ≡ numbers_bytes w ms ++ numbers_bytes w ns
unfolding numbers_bytes
numbers_append w [] ns = refl
numbers_append w (m ∷ ms) ns = rw (numbers_append w ms ns) (sym (append_assoc (bytes_of w m) (numbers_bytes w ms) (numbers_bytes w ns)))

pub length_trailer : (offsets refs count root table : ℕ) → length (trailer_bytes offsets refs count root table) ≡ 32
unfolding trailer_bytes
length_trailer offsets refs count root table = simp (length-append, length_bytes_of)

pub length_table : (es : List Piece) → length (table es) ≡ length (order es) * offset_size es
unfolding table
length_table es = length_numbers (offset_size es) (map (place_of es) (order es)) ∙ ap (λ (m : ℕ). m * offset_size es) (length-map (order es) (place_of es))

pub file_length : (es : List Piece) → length (file_of es) ≡ table_at es + length (order es) * offset_size es + 32
unfolding file_of table_at magic
file_length es =
    let t = trailer_bytes (offset_size es) (ref_size es) (length (order es)) 0 (table_at es) in
    omega (arith, length-append magic (body es ++ (table es ++ t)), length-append (body es) (table es ++ t), length-append (table es) t, length_table es, length_trailer (offset_size es) (ref_size es) (length (order es)) 0 (table_at es))

-- no more objects than events
length_sum : (l : List Name) → length l ≡ sum_of (λ x. 1) l
unfolding sum_of
length_sum [] = refl
length_sum (x ∷ l) = omega (arith, length_sum l)

along_le : (all : List Piece) (l : List Name) (n : ℕ) (r : List Piece) → along (λ x. 1) all l n r ≤ length r
unfolding along part_of
along_le all l n [] = omega arith
along_le all l n (p ∷ r) = omega (arith, at_most (is_first all n p) (has same (name_of n p) l), along_le all l (suc n) r)
  where
    at_most : (b c : Bool) → cond b (cond c 1 0) 0 ≤ 1
    at_most true true = omega arith
    at_most true false = omega arith
    at_most false c = omega arith

pub order_few : (es : List Piece) → length (order es) ≤ length es
order_few es = omega (arith, length_sum (order es), sum_along (λ x. 1) es (order es) (order_distinct es) (λ x h. emission_told es x (numbered_written es x h)), along_le es (order es) 0 es)

-- and there is the root
pub order_some : (top : ℕ) (es : List Piece) → whole top es ≡ true → 0 < length (order es)
order_some top es w = let r = root_only top es w in omega (arith, number_lt es r.0 (root_named es r.0 [] r.1))
