-- Totals of each row and each column of a rectangle. Assumes nothing.
use Rattle.std.specs.Prelude.{◌≡◌, ℕ, ◌+◌, ◌<◌, ◌≤◌, true, ◌&&◌, List, length, Result, MatchResult, nat_le}
use Rattle.entry.specs.Sums.{plain_sum}
use Rattle.entry.specs.declared.kind.entry.Entry as entry
use Rattle.entry.specs.declared.kind.modular.Modular as modular
use Rattle.raster.specs.Drawn.{laid}
use Rattle.raster.specs.Region.{Bytes}
use Rattle.refusal.specs.Answers.{Answer, accepted, ensuring, told}
use Rattle.refusal.specs.declared.Refusal.{Refusal}
use Rattle.sheet.specs.declared.rectangle.Rectangle.{Rectangle}
use Rattle.sheet.specs.declared.span.Span.{Span}
use Rattle.sheet.specs.Cut.{cut_sum}
use Rattle.sheet.specs.Page.{Levels, columns, lines, on_sheet}
use Rattle.sheet.specs.Sheet.{Holds}
use Rattle.questions.specs.declared.laterals.Strips.{Strips}
use Rattle.questions.specs.declared.laterals.Strips.TheVariants.{Rows, Columns}

-- how many strips a rectangle has, and the columns and rows of strip i
abbrev pub strip_count : Strips → Rectangle → ℕ
strip_count Rows r = lines r
strip_count Columns r = columns r

abbrev pub strip_columns : Strips → Rectangle → ℕ → Span
strip_columns Rows r i = record { start = r.left; end = r.right + 1 }
strip_columns Columns r i = record { start = r.left + i; end = r.left + i + 1 }

abbrev pub strip_rows : Strips → Rectangle → ℕ → Span
strip_rows Rows r i = record { start = r.top + i; end = r.top + i + 1 }
strip_rows Columns r i = record { start = r.top; end = r.bottom + 1 }

-- the total of strip i, from four corners of the table
abbrev pub strip_total : {E : Type 0} → entry.Ghosts E → modular.Ghosts E → (width height : ℕ) → List E → Strips → Rectangle → ℕ → ℕ
strip_total k m width height memory strips r i = m.number (cut_sum k width height memory (strip_columns strips r i) (strip_rows strips r i))

-- A rectangle off the sheet comes before lists that are too short. Accepted, it is how many numbers are written in all.
abbrev pub lateral_answer : (width height : ℕ) → Rectangle → (rows columns : ℕ) → Answer ℕ
lateral_answer width height r row_room column_room = ensuring (on_sheet width height r) 21 0 (ensuring (nat_le (lines r) row_room && nat_le (columns r) column_room) 13 0 (accepted (lines r + columns r)))

-- the totals stand in front of both lists and the rest is as it was; a refusal changes neither
pub record LateralsLaid {E : Type 0} (k : entry.Ghosts E) (m : modular.Ghosts E) (width height : ℕ) (memory : List E) (rect : Rectangle) (r : Result ℕ Refusal) (rows cols rows' cols' : List ℕ) : Type 0 where
  pub answer : told r ≡ lateral_answer width height rect (length rows) (length cols)
  pub effect : MatchResult r
      (λ n. (rows' ≡ laid (strip_total k m width height memory Rows rect) (lines rect) rows) × (cols' ≡ laid (strip_total k m width height memory Columns rect) (columns rect) cols))
      (λ e. (rows' ≡ rows) × (cols' ≡ cols))

-- On the table of any page of bytes, a row total is the plain sum of what the levels of that row of the rectangle count, and a column total that of the column.
pub record LateralLaw {E : Type 0} (k : entry.Ghosts E) (m : modular.Ghosts E) : Type 0 where
  pub rows : (width height : ℕ) → width ≤ 4096 → height ≤ 4096 → (p : Levels) (memory : List E) → Holds k width height height p memory → Bytes width height p → (r : Rectangle) → on_sheet width height r ≡ true →
      (j : ℕ) → j < lines r → strip_total k m width height memory Rows r j ≡ plain_sum (λ i. m.amount (p (r.left + i) (r.top + j))) (columns r)
  pub columns : (width height : ℕ) → width ≤ 4096 → height ≤ 4096 → (p : Levels) (memory : List E) → Holds k width height height p memory → Bytes width height p → (r : Rectangle) → on_sheet width height r ≡ true →
      (i : ℕ) → i < columns r → strip_total k m width height memory Columns r i ≡ plain_sum (λ j. m.amount (p (r.left + i) (r.top + j))) (lines r)
