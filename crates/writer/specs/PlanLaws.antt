-- The sums along the tape, and the numbers given, make the plan of the file.
use Rattle.std.specs.Prelude.{◌≡◌, ℕ, ◌+◌, ◌-◌, ◌*◌, ◌^◌, ◌<◌, ◌≤◌, List, length}
use Rattle.std.proofs.Math.Path.{ap, ap₂}
use Rattle.std.proofs.Common.{◌∙◌, arith}
use Rattle.number.specs.Size.{size_of}
use Rattle.number.specs.SizeLaws.{Sized, one, two, four, eight, sized}
use Rattle.event.specs.Format.{max_open}
use Rattle.written.specs.File.{ref_size, table_at, offset_size}
use Rattle.written.proofs.FileLaws.{file_length, order_few, order_some}
use Rattle.written.specs.Graph.{order}
use Rattle.written.specs.Weigh.{weight_from, members_from}
use Rattle.written.proofs.WeighLaws.{body_length}
use Rattle.writer.specs.Columns.{Indexed}
use Rattle.writer.specs.Marks.{Numbered}
use Rattle.writer.specs.NumberedLaws.{numbered_count}
use Rattle.writer.specs.Plan.{Foreseen}
use Rattle.writer.specs.Ready.{pieces_in, Ready}
use Rattle.writer.specs.ReadyLaws.{ready_count, ready_few}
use Rattle.writer.specs.declared.plan.Plan.{Plan}

-- numbers of one size take 8 bytes each at most
times_sized : (a w : ℕ) → Sized w → a * w ≤ a * 8
times_sized a _ one = omega arith
times_sized a _ two = omega arith
times_sized a _ four = omega arith
times_sized a _ eight = omega arith

pub times_size : (a w m : ℕ) → w ≡ size_of m → a * w ≤ a * 8
times_size a w m e = rw e (times_sized a (size_of m) (sized m))

module _ (t : List ℕ) (n : ℕ) (o : Ready t n) where
  -- there is an object, and there are no more than bytes on the tape
  pub count_within : (0 < length (order (pieces_in t))) × (length (order (pieces_in t)) ≤ 2 ^ 31)
  count_within = (order_some max_open (pieces_in t) o.shaped, omega (arith, order_few (pieces_in t), ready_count o, ready_few o, o.short))

  pub planned_is : (w : List ℕ) (bytes members count : ℕ) (p : Plan) → Indexed t w n → Numbered t w n n count
      → bytes ≡ weight_from (pieces_in t) 0 (pieces_in t) → members ≡ members_from 0 (pieces_in t)
      → p.count ≡ count → p.width ≡ size_of (count - 1) → p.table ≡ 8 + bytes + members * p.width → p.length ≡ p.table + count * size_of p.table + 32
      → Foreseen t w n p
  unfolding ref_size table_at offset_size
  planned_is w bytes members count p x s b m c d e l =
      let es = pieces_in t in
      let k : count ≡ length (order es) = numbered_count o w count s in
      let wide : p.width ≡ ref_size es = d ∙ ap (λ (i : ℕ). size_of (i - 1)) k in
      let times : members * p.width ≡ members_from 0 es * ref_size es = ap₂ ◌*◌ m wide in
      let tabled : p.table ≡ table_at es = omega (arith, e, b, times, body_length max_open es o.shaped) in
      let offsets : count * size_of p.table ≡ length (order es) * offset_size es = ap₂ (λ (i j : ℕ). i * size_of j) k tabled in
      record { indexed = x; numbered = rw c s; wide = wide; tabled = tabled; long = omega (arith, l, tabled, offsets, file_length es) }
