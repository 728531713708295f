-- What each call of a sheet does, between the state before it and the state after it. Assumes nothing.
use Rattle.std.specs.Prelude.{◌≡◌, ℕ, ◌+◌, ◌-◌, ◌*◌, ◌/◌, ◌%◌, ◌<◌, ◌≤◌, true, cond, List, length, drop, Result, MatchResult, ◌==◌, slice_index}
use Rattle.entry.specs.Sums.{prefix}
use Rattle.entry.specs.declared.kind.entry.Entry.{Ghosts}
use Rattle.refusal.specs.Answers.{Answer, accepted, ensuring, told}
use Rattle.refusal.specs.declared.Refusal.{Refusal}
use Rattle.sheet.specs.declared.fill.Fill.{Fill}
use Rattle.sheet.specs.declared.rectangle.Rectangle.{Rectangle}
use Rattle.sheet.specs.declared.rows.Sign.{Sign}
use Rattle.sheet.specs.declared.span.Span.{Span}
use Rattle.sheet.specs.declared.state.Finished.{Finished}
use Rattle.sheet.specs.declared.state.Growing.{Growing}
use Rattle.sheet.specs.Fill.{level_at}
use Rattle.sheet.specs.Page.{Levels, begin, capped, feed_answer, with_row, with_rest, area, columns, overlaid, on_sheet, wipe_answer, patch_answer}
use Rattle.sheet.specs.Table.{cell, less, Added, Rewritten, TableOf}

-- what a growing sheet holds
pub record GrowingState (E : Type 0) : Type 0 where
  pub width : ℕ
  pub height : ℕ
  pub fed : ℕ
  pub memory : List E

-- what a finished sheet holds
pub record FinishedState (E : Type 0) : Type 0 where
  pub width : ℕ
  pub height : ℕ
  pub edits : ℕ
  pub laid : ℕ
  pub memory : List E

abbrev pub growing : {E : Type 0} → Growing E → GrowingState E
growing s = record { width = s.frame.width; height = s.frame.height; fed = s.fed; memory = s.table.now }

abbrev pub finished : {E : Type 0} → Finished E → FinishedState E
finished s = record { width = s.frame.width; height = s.frame.height; edits = s.edits; laid = s.laid; memory = s.table.now }

-- how many entries the table of a sheet takes; a sheet of height 0 has no table
abbrev pub table_size : (width height : ℕ) → ℕ
table_size width height = cond (height == 0) 0 ((width + 1) * (height + 1))

-- the memory past the table of a sheet is the same before and after
pub record Past {E : Type 0} (width height : ℕ) (before after : List E) : Type 0 where
  pub long : length after ≡ length before
  pub same : drop (table_size width height) after ≡ drop (table_size width height) before

-- the table has the first `rows` rows of these levels, if the sheet has a table
abbrev pub Holds : {E : Type 0} → Ghosts E → (width height rows : ℕ) → Levels → List E → Type 0
Holds k width height rows p memory = 0 < height → TableOf k width height rows (λ x y. k.lifted (p x y)) memory

-- a table of the levels p with `rows` rows becomes the table of the levels `change p` with `rows'`
pub record RenewedTable {E : Type 0} (k : Ghosts E) (width height rows rows' : ℕ) (change : Levels → Levels) (before after : List E) : Type 0 where
  pub past : Past width height before after
  pub table : (p : Levels) → Holds k width height rows p before → Holds k width height rows' (change p) after

-- the same, kept shut: the calls hand it on as it is
unfoldable pub Renewed : {E : Type 0} → Ghosts E → (width height rows rows' : ℕ) → (Levels → Levels) → (before after : List E) → Type 0
Renewed k width height rows rows' change before after = RenewedTable k width height rows rows' change before after

-- memory with the table of a sheet that has no rows yet
pub record Blank {E : Type 0} (k : Ghosts E) (width height : ℕ) (before after : List E) : Type 0 where
  pub past : Past width height before after
  pub table : (p : Levels) → Holds k width height 0 p after

pub record Begun {E : Type 0} (k : Ghosts E) (memory : List E) (width height : ℕ) (t : GrowingState E) : Type 0 where
  pub width_is : t.width ≡ (begin width height (length memory)).width
  pub height_is : t.height ≡ (begin width height (length memory)).height
  pub fed_is : t.fed ≡ 0
  pub blank : Blank k t.width t.height memory t.memory

-- the next row is laid
pub record RowFed {E : Type 0} (k : Ghosts E) (s : GrowingState E) (row : List ℕ) (t : GrowingState E) : Type 0 where
  pub width_is : t.width ≡ s.width
  pub height_is : t.height ≡ s.height
  pub fed_is : t.fed ≡ s.fed + 1
  pub table : Renewed k s.width s.height s.fed (s.fed + 1) (with_row s.fed row) s.memory t.memory

pub record Fed {E : Type 0} (k : Ghosts E) (s : GrowingState E) (row : List ℕ) (r : Result ℕ Refusal) (t : GrowingState E) : Type 0 where
  pub answer : told r ≡ feed_answer s.width s.height s.fed row
  pub effect : MatchResult r (λ n. RowFed k s row t) (λ e. t ≡ s)

pub record Ended {E : Type 0} (k : Ghosts E) (s : GrowingState E) (level : ℕ) (t : FinishedState E) : Type 0 where
  pub width_is : t.width ≡ s.width
  pub height_is : t.height ≡ s.height
  pub edits_is : t.edits ≡ 0
  pub laid_is : t.laid ≡ 0
  pub table : Renewed k s.width s.height s.fed s.height (with_rest s.fed level) s.memory t.memory

-- the rectangle's pixel n, counted row after row, has the level f n
pub record Edited {E : Type 0} (k : Ghosts E) (s : FinishedState E) (r : Rectangle) (f : ℕ → ℕ) (t : FinishedState E) : Type 0 where
  pub width_is : t.width ≡ s.width
  pub height_is : t.height ≡ s.height
  pub edits_is : t.edits ≡ capped (s.edits + 1)
  pub laid_is : t.laid ≡ capped (s.laid + area r)
  pub table : Renewed k s.width s.height s.height s.height (overlaid r f) s.memory t.memory

pub record Wiped {E : Type 0} (k : Ghosts E) (s : FinishedState E) (rect : Rectangle) (level : ℕ) (r : Result ℕ Refusal) (t : FinishedState E) : Type 0 where
  pub answer : told r ≡ wipe_answer s.width s.height rect
  pub effect : MatchResult r (λ n. Edited k s rect (λ n. level) t) (λ e. t ≡ s)

pub record Patched {E : Type 0} (k : Ghosts E) (s : FinishedState E) (rect : Rectangle) (levels : List ℕ) (r : Result ℕ Refusal) (t : FinishedState E) : Type 0 where
  pub answer : told r ≡ patch_answer s.width s.height rect levels
  pub effect : MatchResult r (λ n. Edited k s rect (λ n. slice_index levels n) t) (λ e. t ≡ s)

-- what lies between two columns and two rows of a table, from the four entries where they meet
abbrev pub corners : {E : Type 0} → Ghosts E → (ℕ → ℕ → E) → (left right top bottom : ℕ) → E
corners k at left right top bottom = k.joined (less k (less k (at right bottom) (at left bottom)) (at right top)) (at left top)

-- the entry of a rectangle, from four entries of the table
abbrev pub four_corners : {E : Type 0} → Ghosts E → ℕ → List E → Rectangle → E
four_corners k width memory r =
    let at = cell k (width + 1) memory in
    k.joined (less k (less k (at (r.right + 1) (r.bottom + 1)) (at r.left (r.bottom + 1))) (at (r.right + 1) r.top)) (at r.left r.top)

abbrev pub sum_answer : {E : Type 0} → Ghosts E → (width height : ℕ) → List E → Rectangle → Answer E
sum_answer k width height memory r = ensuring (on_sheet width height r) 21 0 (accepted (four_corners k width memory r))

-- the lifted levels of a rectangle, joined one by one from the identity on, in reading order
abbrev pub reading : {E : Type 0} → Ghosts E → Levels → Rectangle → E
reading k p r = prefix k (λ n. k.lifted (p (r.left + n % columns r) (r.top + n / columns r))) (area r)

-- the sum of a rectangle of these levels, on a sheet of that size
abbrev pub level_sum : {E : Type 0} → Ghosts E → (width height : ℕ) → Levels → Rectangle → Answer E
level_sum k width height p r = ensuring (on_sheet width height r) 21 0 (accepted (reading k p r))

-- The four corners of every rectangle, on the table of any levels, give those levels joined in reading order.
pub record SumLaw {E : Type 0} (k : Ghosts E) : Type 0 where
  pub reads : (width height : ℕ) (p : Levels) (memory : List E) → Holds k width height height p memory → (r : Rectangle) → on_sheet width height r ≡ true → four_corners k width memory r ≡ reading k p r
  pub sums : (width height : ℕ) (p : Levels) (memory : List E) → Holds k width height height p memory → (r : Rectangle) → sum_answer k width height memory r ≡ level_sum k width height p r

-- the counts, edits first
abbrev pub filed : {E : Type 0} → FinishedState E → ℕ × ℕ
filed s = (s.edits, s.laid)

-- columns and rows of a sheet whose table lies in n entries
pub record OnTable (width height : ℕ) (columns rows : Span) (n : ℕ) : Type 0 where
  pub room : (width + 1) * (height + 1) ≤ n
  pub across : columns.start < columns.end
  pub right : columns.end ≤ width
  pub bottom : rows.end ≤ height

-- the table rows below the rectangle, right of its left side, joined with its last table row or with the inverse of that
pub record Carried {E : Type 0} (k : Ghosts E) (width height : ℕ) (r : Rectangle) (sign : Sign) (before after : List E) : Type 0 where
  pub rows : Added k (width + 1) before (r.left + 1) (r.bottom + 2) (height + 1) (r.bottom + 1) sign after

-- these page rows with new levels in these columns, listed row after row
pub record Laid {E : Type 0} (k : Ghosts E) (width : ℕ) (across down : Span) (fill : Fill) (before after : List E) : Type 0 where
  pub rows : Rewritten k (width + 1) before across.start across.end down.start down.end (λ i j. k.lifted (level_at fill ((j - down.start) * (across.end - across.start) + (i - across.start)))) after
