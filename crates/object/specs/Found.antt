-- What an answer of `object_at` says in the numbers and values of docs/FORMAT.md, table N.
use Rattle.object.specs.Object.{Found, outside, refused_by, scalar, bytes, utf8, utf16, array, dictionary}
use Rattle.object.specs.declared.read.Object.{Object}
use Rattle.object.specs.declared.read.Object.TheVariants as object

unfoldable pub found_of : Object → Found
found_of object.Outside = outside
found_of (object.Refused r) = refused_by r
found_of (object.Scalar e) = scalar e
found_of (object.Data p) = bytes p.start p.length
found_of (object.Utf8 p) = utf8 p.start p.length
found_of (object.Utf16 p) = utf16 p.start p.length
found_of (object.Array n) = array n
found_of (object.Dictionary n) = dictionary n
