-- Which members a walk names, as the numbers by which Path and Refs tell them.
use Rattle.std.specs.Prelude.{ℕ}
use Rattle.writer.specs.declared.members.Members.{Members}
use Rattle.writer.specs.declared.members.Members.TheVariants.{All, Keys, Values}

-- how far the last member of a step is behind its first
abbrev pub last_of : Members → ℕ
last_of All = 0
last_of Keys = 1
last_of Values = 1

-- and the one that is named
abbrev pub named_of : Members → ℕ
named_of All = 0
named_of Keys = 0
named_of Values = 1
