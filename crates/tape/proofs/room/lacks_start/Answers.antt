-- `lacks_start`: a kind, or a kind and a number.
use mathlib.Core.Path.{ap, ◌∙◌}
use Prim.Native.Nat.{ℕ, ◌+◌}
use lib.Dec.{ltb}
use Rattle.tape.specs.Kinds.{start_bytes}
use Rattle.tape.specs.SizeLaws.{number_size}
use Rattle.tape.proofs.room.lacks_start.Goals as goal

pub returns-in-None : goal.returns-in-None
unfolding start_bytes
returns-in-None c = rw c.in-None.is c.lacks_room.ensures

pub returns-in-Some : goal.returns-in-Some
unfolding start_bytes
returns-in-Some c =
    let a = c.args in
    rw c.in-Some.is (c.lacks_number.ensures ∙ ap (λ (k : ℕ). ltb a.end (a.at + k)) (number_size 0x0B _))
