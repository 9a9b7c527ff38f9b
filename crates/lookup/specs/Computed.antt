-- What the computed cases unfold, by one name: `unfolding computed` opens all of it. A definition that a case goes through is added here.
use Rattle.grammar.specs.Computed as grammar
use Rattle.written.specs.Graph as graph
use Rattle.lookup.specs.Find
use Rattle.lookup.specs.Path
use Rattle.lookup.specs.Value

unfoldable pub computed : Unit {0}
unfolding grammar.computed graph.same_bytes
    Find.placed Find.by_path Find.by_check Find.find_of Find.part_by Find.part_of
    Path.keys_bytes Path.path_of Path.key_in Path.key_at Path.with_key Path.keys_from Path.keys_in Path.keys_of
    Value.deeper Value.value_from Value.behind Value.under_key Value.into Value.from_path Value.first_of Value.value_at
computed = tt
