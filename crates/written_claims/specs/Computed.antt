-- What the computed cases unfold, by one name: `unfolding computed` opens all of it. A definition that a case goes through is added here.
use Rattle.event.specs.Unmeasured
use Rattle.transcribe.specs.Computed as transcribe
use Rattle.writer.specs.Computed as writer
use Rattle.written_claims.specs.End
use Rattle.written_claims.specs.Filled
use Rattle.written_claims.specs.HandsOut
use Rattle.written_claims.specs.Lengths
use Rattle.written_claims.specs.Outcome
use Rattle.written_claims.specs.References

unfoldable pub computed : Unit {0}
unfolding Unmeasured.unmeasured transcribe.computed writer.computed
    End.nibble_in End.nibble_at
    Filled.members Filled.filled
    HandsOut.scratch_for
    Lengths.bytes_in Lengths.tape_from Lengths.is_numeral Lengths.shape_of
    Outcome.scratch_needed
    References.named_in References.named_by References.all_references References.mentions
computed = tt
