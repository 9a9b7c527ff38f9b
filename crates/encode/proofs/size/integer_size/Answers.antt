-- `integer_size`: 16 bytes from 2^63 on, else the size of the number.
use mathlib.Core.Path.{ap, ◌∙◌}
use borrow.Author.Tests.{lt-ltb, le-ltb}
use Rattle.encode.specs.Size.{integer_size, uid_size}
use Rattle.encode.proofs.size.integer_size.Goals.{in_default-via-in-Some+else-n-ge9223372036854775808, in_default-via-in_default}
use Rattle.encode.proofs.size.integer_size.Goals as goal

pub returns-in-Some : goal.returns-in-Some
unfolding integer_size
returns-in-Some c = rw (c.in-Some.is, le-ltb _ _ c.if-n-ge9223372036854775808.true) c.bytes_alone.ensures

pub returns-in_default : goal.returns-in_default
unfolding integer_size uid_size
returns-in_default c =
    elim c.in_default.branch [
      | in_default-via-in-Some+else-n-ge9223372036854775808 w ↦ rw (w.in-Some.is, lt-ltb _ _ w.if-n-ge9223372036854775808.false) (c.uid_size.ensures ∙ ap uid_size w.in-Some.is)
      | in_default-via-in_default w ↦ rw w.in_default.is (c.uid_size.ensures ∙ ap uid_size w.in_default.is)
    ]
