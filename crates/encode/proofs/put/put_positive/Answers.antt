-- `put_positive`: below 2^63 the number in its own size, else in 16 bytes.
use Prim.Native.Nat.{◌^◌}
use borrow.Author.Tests.{lt-ltb, le-ltb}
use Rattle.written.specs.Encoding.{number_bytes, integer_bytes}
use Rattle.encode.specs.Put.{numbered, positive}
use Rattle.encode.proofs.Putting.{nothing}
use Rattle.encode.proofs.put.put_positive.Goals as goal

pub returns-in_default : goal.returns-in_default
unfolding numbered
returns-in_default c = rw c.in_default.is (nothing _)

pub returns-then-n-lt9223372036854775808 : goal.returns-then-n-lt9223372036854775808
unfolding numbered positive integer_bytes number_bytes
returns-then-n-lt9223372036854775808 c =
    rw (c.in-Some.is, lt-ltb c.in-Some.n (2 ^ 63) c.if-n-lt9223372036854775808.true, ← c.size_for-size.ensures, ← c.size_marker.ensures) c.put_marked.ensures

pub returns : goal.returns
unfolding numbered positive integer_bytes
returns c =
    rw (c.in-Some.is, le-ltb c.in-Some.n (2 ^ 63) c.if-n-lt9223372036854775808.false) c.put_wide.ensures
