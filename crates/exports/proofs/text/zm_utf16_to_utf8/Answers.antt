-- `zm_utf16_to_utf8` hands on the answer as its number, and the memory as it is.
use Prim.Native.Nat.{◌<◌}
use mathlib.Core.Path.{ap, ◌∙◌}
use lib.ListN.{length}
use Rattle.exports.specs.Codes.{code_of}
use Rattle.exports.specs.CodesLaws.{in_slice}
use borrow.Author.Rules.{rules}
use Rattle.exports.proofs.text.zm_utf16_to_utf8.Goals as goal

pub returns : goal.returns
returns c =
    let h : length c.args.out.now < 0x8000000000000000 = search rules in
    (record { value = c.code_of.ensures ∙ ap code_of c.utf16_to_utf8.ensures.value; out_after = c.utf16_to_utf8.ensures.out_after; in_slice = in_slice _ _ _ h })
