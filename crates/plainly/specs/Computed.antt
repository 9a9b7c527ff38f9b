-- What the computed cases unfold, by one name: `unfolding computed` opens all of it. A definition that a case goes through is added here.
use Rattle.reader.specs.Computed as reader
use Rattle.tape.specs.Computed as tape
use Rattle.number.specs.Among
use Rattle.layout.specs.Trailer
use Rattle.plainly.specs.Plain
use Rattle.plainly.specs.Says

unfoldable pub computed : Unit {0}
unfolding reader.computed tape.computed
    Among.among Trailer.trailer_in
    Says.on Says.followed Says.each_of Says.whole_of Says.by_look Says.object_says Says.trailer_says Says.file_says
    Plain.reach_of Plain.put_all Plain.say_onto Plain.last_of Plain.closing Plain.plain_tape
computed = tt
