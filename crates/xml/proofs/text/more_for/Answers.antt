-- `more_for` adds up what each of the three takes more.
use Rattle.std.proofs.Common.{Bool, true, false, cond, ◌≡◌, ℕ, ◌*◌, arith}
use Rattle.std.specs.Int.{from_bool}
use Rattle.xml.specs.Text.{more_for}
use Rattle.xml.proofs.text.more_for.Goals as goal

times : (b : Bool) (n : ℕ) → from_bool b * n ≡ cond b n 0
times true n = omega arith
times false n = omega arith

pub returns : goal.returns
unfolding more_for
returns c = rw (c.from.ensures, c.from-2.ensures, c.from-3.ensures) (simp times)
