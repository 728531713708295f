-- The levels of a page. Assumes nothing.
use Rattle.std.specs.Prelude.{ℕ, ◌&&◌, cond, nat_lt, [], slice_index, slice_index_or}
use Rattle.beside.specs.declared.page.Page.{Page}

-- the level of the pixel at column x of row y, or 0 where there is none
abbrev pub level_at : Page → ℕ → ℕ → ℕ
level_at p x y = cond (nat_lt x 8 && nat_lt y 8) (slice_index (slice_index_or p.levels y []) x) 0
