-- The levels that an edit lays. Assumes nothing.
use Rattle.std.specs.Prelude.{ℕ, ◌<◌, length, slice_index}
use Rattle.sheet.specs.declared.fill.Fill.{Fill}
use Rattle.sheet.specs.declared.fill.Fill.TheVariants.{Each, All}

-- the level of pixel n, counted row after row
abbrev pub level_at : Fill → ℕ → ℕ
level_at (Each levels) n = slice_index levels.now n
level_at (All level) n = level

-- there is a level for pixel n
abbrev pub Reaches : Fill → ℕ → Type 0
Reaches (Each levels) n = n < length levels.now
Reaches (All level) n = Unit {0}
