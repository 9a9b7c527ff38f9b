-- Where the words of the columns stand.
use Rattle.std.specs.Prelude.{ℕ, ◌+◌, ◌*◌}
use Rattle.writer.specs.declared.words.Column.{Column}
use Rattle.writer.specs.declared.words.Column.TheVariants.{Off, Rep, Next, Len, Num, At}

-- which word that of event e is, where there are n events
abbrev pub place_of : ℕ → Column → ℕ → ℕ
place_of n Off e = e
place_of n Rep e = n + e
place_of n Next e = n + n + e
place_of n Len e = n * 3 + e
place_of n Num e = n * 4 + e
place_of n At e = n * 5 + e
