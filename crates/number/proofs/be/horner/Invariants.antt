-- `horner` reads the number: what is summed is the number of the bytes so far, and fits.
use Rattle.std.proofs.Common.{◌≡◌, ◌^◌, ◌<◌, take}
use Rattle.number.specs.Be.{be}
use Rattle.number.proofs.be.horner.Given as goal

abbrev pub invariant-loop-byte : goal.invariant-loop-byte
invariant-loop-byte l = (l.sum ≡ be (take l.byte-index l.part)) × (l.sum < 256 ^ l.byte-index)
