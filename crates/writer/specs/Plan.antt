-- What is known of the file before a byte of it is written.
use Rattle.std.specs.Prelude.{◌≡◌, ℕ, List, length}
use Rattle.written.specs.File.{ref_size, table_at, file_of}
use Rattle.writer.specs.Columns.{Indexed}
use Rattle.writer.specs.Marks.{Numbered}
use Rattle.writer.specs.Ready.{pieces_in}
use Rattle.writer.specs.declared.plan.Plan.{Plan}

-- the columns stand, and the plan is that of the file
pub record Foreseen (t w : List ℕ) (n : ℕ) (p : Plan) : Type 0 where
  pub indexed : Indexed t w n
  pub numbered : Numbered t w n n p.count
  pub wide : p.width ≡ ref_size (pieces_in t)
  pub tabled : p.table ≡ table_at (pieces_in t)
  pub long : p.length ≡ length (file_of (pieces_in t))
