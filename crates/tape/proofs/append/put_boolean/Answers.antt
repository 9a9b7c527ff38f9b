-- `put_boolean`: a kind for each.
use Rattle.tape.specs.Code.{bytes_for}
use Rattle.tape.proofs.append.put_boolean.Goals.{then-value, else-value}
use Rattle.tape.proofs.append.put_boolean.Goals as goal

pub returns : goal.returns
unfolding bytes_for
returns c =
    elim c.if-value.branch [
      | then-value w ↦ rw (w.if-value.true, ← w.kind-is) c.put_kind.ensures
      | else-value w ↦ rw (w.if-value.false, ← w.kind-is) c.put_kind.ensures
    ]
