-- The container at an offset, its room not measured: what an open container is when it is looked at again. docs/FORMAT.md, R21, 4.
use Rattle.std.specs.Prelude.{cond, List, ℕ, ltb, get_or}
use Rattle.object.specs.Content.{trailer_at, head_at}
use Rattle.object.specs.Kind.{kind_of}
use Rattle.object.specs.declared.container.Container.{Container}
use Rattle.object.specs.declared.container.Container.TheVariants.{Array, Dictionary, NoContainer}
use Rattle.object.specs.declared.content.Content.{Content}
use Rattle.object.specs.declared.content.Content.TheVariants.{Fits, Refused}
use Rattle.object.specs.declared.kind.Kind.{Kind}
use Rattle.object.specs.declared.kind.Kind.TheVariants as kind

-- a head that is refused is no container's
unfoldable pub array_of : Content → Container
array_of (Refused r) = NoContainer
array_of (Fits e) = Array e

unfoldable pub dictionary_of : Content → Container
dictionary_of (Refused r) = NoContainer
dictionary_of (Fits e) = Dictionary e

unfoldable pub container_of : List ℕ → ℕ → Kind → Container
container_of file offset kind.Null = NoContainer
container_of file offset kind.False = NoContainer
container_of file offset kind.True = NoContainer
container_of file offset kind.Fill = NoContainer
container_of file offset (kind.Unsigned width) = NoContainer
container_of file offset kind.Signed = NoContainer
container_of file offset kind.Wide = NoContainer
container_of file offset kind.ShortReal = NoContainer
container_of file offset kind.Real = NoContainer
container_of file offset kind.Date = NoContainer
container_of file offset (kind.Data nibble) = NoContainer
container_of file offset (kind.Utf8 nibble) = NoContainer
container_of file offset (kind.Utf16 nibble) = NoContainer
container_of file offset (kind.Uid width) = NoContainer
container_of file offset (kind.Array nibble) = array_of (head_at file offset nibble)
container_of file offset (kind.Dictionary nibble) = dictionary_of (head_at file offset nibble)
container_of file offset (kind.Unknown marker) = NoContainer

-- an offset at or above T has none
unfoldable pub container_at : List ℕ → ℕ → Container
container_at file offset = cond (ltb offset (trailer_at file)) (container_of file offset (kind_of (get_or file offset 0))) NoContainer
