-- What the keys of events go by.
use mir.Facts.{to_z-of_z}
use Rattle.event.specs.SameLaws.{key_below, key_above, start_array, start_dictionary}

pub ruleset key_steps = (key_below, key_above, start_array, start_dictionary, to_z-of_z)
