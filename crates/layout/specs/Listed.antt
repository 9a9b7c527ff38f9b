-- Whether the offset table has an offset under a number. docs/FORMAT.md, R27.
use Rattle.std.specs.Prelude.{Bool, false, cond, List, ℕ, ltb, eqb, None, Option, Some}
use Rattle.layout.specs.Layout.{entry_at}
use Rattle.layout.specs.declared.layout.Layout.{Layout}

unfoldable pub is_entry : ℕ → Option ℕ → Bool
is_entry offset None = false
is_entry offset (Some entry) = eqb entry offset

unfoldable pub is_listed : List ℕ → Layout → ℕ → ℕ → Bool
is_listed file l number offset = cond (ltb number l.count) (is_entry offset (entry_at file l number)) false
