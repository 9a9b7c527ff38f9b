-- `key_at`: a length, and so many bytes.
use Rattle.std.proofs.Common.{sym, ◌∙◌}
use Rattle.lookup.specs.Path.{key_in, key_at}
use Rattle.lookup.specs.PathLaws.{key_is, key_not}
use Rattle.lookup.proofs.path.key_at.Goals as goal

pub returns-in_err-n : goal.returns-in_err-n
unfolding key_at key_in
returns-in_err-n c = rw (← c.number_at.ensures, c.in_err-n.was) c.from_residual.ensures

pub returns-then-lacks_room : goal.returns-then-lacks_room
returns-then-lacks_room c =
    sym (key_not _ _ c.in_ok-n.start c.in_ok-n.n (sym c.number_at.ensures ∙ c.in_ok-n.was) (sym c.lacks_room.ensures ∙ c.if-lacks_room.true))

pub returns : goal.returns
returns c =
    sym (key_is _ _ c.in_ok-n.start c.in_ok-n.n (sym c.number_at.ensures ∙ c.in_ok-n.was) (sym c.lacks_room.ensures ∙ c.if-lacks_room.false))
