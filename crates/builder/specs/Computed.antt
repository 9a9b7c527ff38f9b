-- What the computed cases unfold, by one name: `unfolding computed` opens all of it. A definition that a case goes through is added here.
use Rattle.grammar.specs.Computed as grammar
use Rattle.grammar.specs.Way
use Rattle.builder.specs.Build
use Rattle.builder.specs.State
use Rattle.builder.specs.Words

unfoldable pub computed : Unit {0}
unfolding grammar.computed
    Way.way_by Way.way_of
    Build.judge_of Build.fitted_of Build.by_way Build.build_of Build.tape_by Build.tape_after Build.builder_by Build.builder_after
    State.due_of State.code_of State.bit_of State.pushed_of State.behind_of State.push_of State.pop_of State.open_from State.open_of State.moved_by
    Words.pair_at Words.builder_in Words.words_of
computed = tt
