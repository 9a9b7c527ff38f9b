-- `fewer_at`: eight bytes that are simple only where the few are.
use Rattle.std.proofs.Common.{ℕ, arith}
use Rattle.utf.specs.Bounds.{below_all}
use Rattle.xml.specs.SimpleLaws.{cover_none, cover_few}
use Rattle.xml.proofs.simple.fewer_at.Goals as goal

pub returns-then-n-eq0 : goal.returns-then-n-eq0
returns-then-n-eq0 c = cover_none _ c.if-n-eq0.true

pub returns : goal.returns
returns c =
    let s = c.args.s.now in
    cover_few s c.if-n-eq0.false c.requires (below_all 256 s (λ (k : ℕ). omega (arith, c.type_inv.s k)))
