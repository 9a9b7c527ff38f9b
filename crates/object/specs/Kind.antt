-- The kinds of objects, by the marker byte. Apple's table of objects; docs/FORMAT.md, R9.
use Rattle.std.specs.Prelude.{Bool, cond, ◌&&◌, ℕ, ◌-◌, leb, eqb}
use Rattle.object.specs.declared.kind.Kind.{Kind}
use Rattle.object.specs.declared.kind.Kind.TheVariants.{Null, False, True, Fill, Unsigned, Signed, Wide, ShortReal, Real, Date, Data, Utf8, Utf16, Uid, Array, Dictionary, Unknown}

-- m is lo to hi
abbrev pub between : ℕ → ℕ → ℕ → Bool
between lo hi m = leb lo m && leb m hi

unfoldable pub kind_of : ℕ → Kind
kind_of m =
    cond (eqb m 0x00) Null
    (cond (eqb m 0x08) False
    (cond (eqb m 0x09) True
    (cond (eqb m 0x0F) Fill
    (cond (eqb m 0x10) (Unsigned 1)
    (cond (eqb m 0x11) (Unsigned 2)
    (cond (eqb m 0x12) (Unsigned 4)
    (cond (eqb m 0x13) Signed
    (cond (eqb m 0x14) Wide
    (cond (eqb m 0x22) ShortReal
    (cond (eqb m 0x23) Real
    (cond (eqb m 0x33) Date
    (cond (between 0x40 0x4F m) (Data (m - 0x40))
    (cond (between 0x50 0x5F m) (Utf8 (m - 0x50))
    (cond (between 0x60 0x6F m) (Utf16 (m - 0x60))
    (cond (between 0x80 0x87 m) (Uid (m - 0x7F))
    (cond (between 0xA0 0xAF m) (Array (m - 0xA0))
    (cond (between 0xD0 0xDF m) (Dictionary (m - 0xD0))
    (Unknown m))))))))))))))))))
