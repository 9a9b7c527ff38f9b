-- Where the object at an offset ends, head and content, by its marker and its length alone. docs/FORMAT.md, R13.
use Rattle.std.specs.Prelude.{List, ℕ, ◌+◌, ◌*◌, get_or}
use Rattle.number.specs.Width.{bytes_in}
use Rattle.number.specs.declared.width.Width.{Width}
use Rattle.object.specs.Content.{extent_at}
use Rattle.object.specs.Kind.{kind_of}
use Rattle.object.specs.declared.content.Extent.{Extent}
use Rattle.object.specs.declared.kind.Kind.{Kind}
use Rattle.object.specs.declared.kind.Kind.TheVariants as kind

-- behind elements of so many bytes each
unfoldable pub behind_all : Extent → ℕ → ℕ
behind_all e each = e.start + e.count * each

unfoldable pub end_by : List ℕ → Width → ℕ → Kind → ℕ
end_by file refs offset kind.Null = offset + 1
end_by file refs offset kind.False = offset + 1
end_by file refs offset kind.True = offset + 1
end_by file refs offset kind.Fill = offset + 1
end_by file refs offset (kind.Unsigned width) = offset + 1 + width
end_by file refs offset kind.Signed = offset + 1 + 8
end_by file refs offset kind.Wide = offset + 1 + 16
end_by file refs offset kind.ShortReal = offset + 1 + 4
end_by file refs offset kind.Real = offset + 1 + 8
end_by file refs offset kind.Date = offset + 1 + 8
end_by file refs offset (kind.Data nibble) = behind_all (extent_at file offset nibble) 1
end_by file refs offset (kind.Utf8 nibble) = behind_all (extent_at file offset nibble) 1
end_by file refs offset (kind.Utf16 nibble) = behind_all (extent_at file offset nibble) 2
end_by file refs offset (kind.Uid width) = offset + 1 + width
end_by file refs offset (kind.Array nibble) = behind_all (extent_at file offset nibble) (bytes_in refs)
end_by file refs offset (kind.Dictionary nibble) = behind_all (extent_at file offset nibble) (2 * bytes_in refs)
end_by file refs offset (kind.Unknown marker) = offset + 1

unfoldable pub end_at : List ℕ → Width → ℕ → ℕ
end_at file refs offset = end_by file refs offset (kind_of (get_or file offset 0))
