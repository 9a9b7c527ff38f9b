-- What is answered for XML, in the writer's words: it is told by the same numbers.
use Rattle.writer.specs.Write as writer
use Rattle.xml.specs.Write.{Said, long, refused}

unfoldable pub as_written : Said → writer.Said
as_written (long n) = writer.long n
as_written (refused number kinds place) = writer.refused number kinds place
