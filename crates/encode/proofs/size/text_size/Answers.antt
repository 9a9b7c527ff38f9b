-- `text_size`: the text's own size, where it lies within the tape. A long length takes some bytes itself, so that the text is a little shorter than a slice can be.
use Rattle.std.specs.Prelude.{Option, Some}
use mathlib.Core.Bool.{Bool, true, false}
use mathlib.Core.Path.{◌≡◌, refl, sym, ◌∙◌}
use mathlib.Core.List.{List}
use Prim.Native.Nat.{ℕ, ◌+◌, ◌^◌, ◌≤◌, ◌<◌}
use native.Mathlib.Nat.{add-sub_cancel_left}
use native.Mathlib.Omega.{arith}
use borrow.Author.Tests.{ltb-true, ltb-false}
use lib.Dec.{ltb}
use lib.ListN.{length}
use Rattle.number.specs.BeLaws.{Bytes, bytes_of_law}
use Rattle.number.specs.PartLaws.{length_part}
use Rattle.tape.proofs.StandsLaws.{number_far}
use Rattle.tape.specs.Value.{number_at}
use Rattle.tape.proofs.Tests.{has}
use Rattle.encode.specs.Size.{text_size}
use borrow.Author.Rules.{rules}
use Rattle.encode.proofs.size.text_size.Goals as goal

pub returns-in_err-n : goal.returns-in_err-n
unfolding text_size
returns-in_err-n c = rw (← c.number_at.ensures, c.in_err-n.was) c.from_residual.ensures

pub returns-then-lacks_room : goal.returns-then-lacks_room
unfolding text_size
returns-then-lacks_room c = rw (← c.number_at.ensures, c.in_ok-n.was, sym c.lacks_room.ensures ∙ c.if-lacks_room.true)

-- a long length takes some of the bytes in front of the text
short : (t : List ℕ) (at : ℕ) {r : Option (ℕ × ℕ)} {n start : ℕ} → Bytes t → length t < 2 ^ 63 → r ≡ number_at t at → r ≡ Some (n, start) → start + n ≤ length t → n + 5 < 2 ^ 63
short t at {n = n} good l f g room = go (ltb n (2 ^ 62)) refl
  where
    go : (b : Bool) → ltb n (2 ^ 62) ≡ b → n + 5 < 2 ^ 63
    go true e = omega (arith, ltb-true n (2 ^ 62) e)
    go false e = omega (arith, number_far t at n _ good (sym f ∙ g) (ltb-false n (2 ^ 62) e))

pub part_size-requires : goal.part_size-requires
part_size-requires c =
    let t = c.args.tape.now in
    let room = has _ _ _ c.lacks_room.ensures c.if-lacks_room.false in
    rw (add-sub_cancel_left, length_part _ _ _ room) (short t c.args.at (bytes_of_law t (search rules)) (omega arith) c.number_at.ensures c.in_ok-n.was room)

pub returns : goal.returns
unfolding text_size
returns c = rw (← c.number_at.ensures, c.in_ok-n.was, sym c.lacks_room.ensures ∙ c.if-lacks_room.false) (rw add-sub_cancel_left at c.part_size.ensures)
