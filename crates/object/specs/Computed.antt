-- What the computed cases unfold, by one name: `unfolding computed` opens all of it. A definition that a case goes through is added here.
use Rattle.number.specs.Computed as number
use Rattle.utf.specs.Computed as unicode
use Rattle.event.specs.Computed as event
use Rattle.object.specs.Container
use Rattle.object.specs.Content
use Rattle.object.specs.Kind
use Rattle.object.specs.Object
use Rattle.object.specs.Refusal

unfoldable pub computed : Unit {0}
unfolding number.computed unicode.computed event.computed
    Container.container_at Container.container_of Container.array_of Container.dictionary_of
    Content.length_width Content.extent_at Content.is_length_byte Content.has_length Content.head_at Content.ends_before Content.measured
    Content.content_at
    Kind.kind_of
    Object.refused_by Object.fixed_at Object.wide_in Object.date_of Object.data_in Object.utf8_in Object.utf16_in Object.array_in Object.dictionary_in
    Object.by_kind Object.object_at
    Refusal.number_of Refusal.values_of
computed = tt
