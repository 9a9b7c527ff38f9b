-- Laws that proofs of the code take by one name.
use Rattle.object.specs.ContainerLaws.{container_outside, container_inside}
use Rattle.object.specs.ContentLaws.{length_width_pos, length_width_le}
use Rattle.object.specs.KindLaws.{kind_data, kind_utf8, kind_utf16, kind_uid, kind_array, kind_dictionary}
use Rattle.object.proofs.Containers.{array_there, dictionary_there, none_below, none_between, none_above, none_refused}

-- the ranges of markers
pub ruleset kinds = (kind_data, kind_utf8, kind_utf16, kind_uid, kind_array, kind_dictionary)

-- a length's width
pub ruleset lengths = (length_width_pos, length_width_le)

-- the container at a marker
pub ruleset containers = (container_outside, container_inside, array_there, dictionary_there, none_below, none_between, none_above, none_refused)
