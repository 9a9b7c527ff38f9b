-- What the computed cases unfold, by one name: `unfolding computed` opens all of it. A definition that a case goes through is added here.
use Rattle.grammar.specs.Computed as grammar
use Rattle.written.specs.Computed as written
use Rattle.writer.specs.Write

unfoldable pub computed : Unit {0}
unfolding grammar.computed written.computed
    Write.words_for Write.fitted_of Write.by_check Write.write_of Write.output_by Write.output_of Write.used_by Write.used_of
computed = tt
