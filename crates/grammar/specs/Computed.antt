-- What the computed cases unfold, by one name: `unfolding computed` opens all of it. A definition that a case goes through is added here.
use Rattle.tape.specs.Computed as tape
use Rattle.grammar.specs.Check
use Rattle.grammar.specs.Said
use Rattle.grammar.specs.Turn

unfoldable pub computed : Unit {0}
unfolding tape.computed
    Check.move_of Check.finish_of Check.check_from Check.check_of
    Said.number_of Said.kinds_of Said.refused_at
    Turn.is_nothing Turn.after_of Turn.unexpected_of Turn.unless_key Turn.end_turn Turn.text_turn Turn.turn_of Turn.stopped_at Turn.turn_by Turn.turn_at
computed = tt
