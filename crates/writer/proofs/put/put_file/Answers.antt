-- The magic, the objects, the table, the trailer.
use Rattle.std.proofs.Common.{◌≡◌, ℕ, ◌*◌, List, length, sym, ap, ◌∙◌, ap₂, arith}
use Rattle.number.specs.Size.{size_of}
use Rattle.written.specs.File.{offset_size}
use Rattle.written.proofs.FileLaws.{file_length, order_few}
use Rattle.writer.specs.NumberedLaws.{numbered_count}
use Rattle.writer.specs.PutLaws.{file_written, table_end, table_behind, offset_is, offset_le, ref_le}
use Rattle.writer.specs.Ready.{pieces_in}
use Rattle.writer.specs.ReadyLaws.{ready_count}
use Rattle.writer.specs.Speak.{Planned}
use Rattle.writer.proofs.put.put_file.Goals as goal

pub put_at-requires : goal.put_at-requires
put_at-requires c =
    let p = c.requires in
    let es = pieces_in c.args.events.tape.now in
    omega (arith, p.fits, file_length es, table_behind es)

pub put_objects-requires : goal.put_objects-requires
put_objects-requires c =
    let p = c.requires in
    let es = pieces_in c.args.events.tape.now in
    record {
      ready = p.ready;
      indexed = p.indexed;
      count = _;
      numbered = p.numbered;
      wide = p.wide;
      fits = omega (arith, p.fits, file_length es);
      small = omega (arith, p.small, file_length es);
    }

-- an entry of the table has the size of the table's own offset
sized : {t work out : List ℕ} {n count width table size : ℕ} → Planned t work out n count width table → size ≡ size_of table → size ≡ offset_size (pieces_in t)
sized p e = e ∙ ap size_of p.behind ∙ sym (offset_is (pieces_in _))

pub put_table-end-requires : goal.put_table-end-requires
put_table-end-requires c =
    let p = c.requires in
    let es = pieces_in c.args.events.tape.now in
    let count = numbered_count p.ready _ _ p.numbered in
    let size = ap₂ (λ (x y : ℕ). x * y) count (sized p c.size_for-size.ensures) in
    (omega (arith, count, order_few es, ready_count p.ready, p.indexed.long), omega (arith, size, p.behind, p.fits, file_length es))

pub put_trailer-requires : goal.put_trailer-requires
put_trailer-requires c =
    let p = c.requires in
    let es = pieces_in c.args.events.tape.now in
    let size = sized p c.size_for-size.ensures in
    let words : length c.put_objects.new.work ≡ c.args.events.n * 8 = omega (arith, p.indexed.long) in
    let end = table_end p.ready _ words c.put_objects.ensures.1 (numbered_count p.ready _ _ p.numbered) size p.behind c.put_table-end.ensures in
    (omega (arith, end, p.fits, file_length es), omega (arith, size, offset_le es), omega (arith, p.wide, ref_le es))

pub returns : goal.returns
returns c =
    let p = c.requires in
    let o = c.put_objects.ensures in
    let words : length c.put_objects.new.work ≡ c.args.events.n * 8 = omega (arith, p.indexed.long) in
    file_written p.ready _ words o.1 (numbered_count p.ready _ _ p.numbered) (sized p c.size_for-size.ensures) p.behind c.put_table-end.ensures _ p.wide c.put_at.ensures.1 o.0 c.put_trailer.ensures
