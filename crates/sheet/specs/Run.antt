-- Runs: any succession of calls on one sheet, beside the plain page that the same calls give. Each step is what the call promises. Assumes nothing.
use Rattle.std.specs.Prelude.{◌≡◌, ℕ, true, List, length, Result}
use Rattle.entry.specs.declared.kind.entry.Entry.{Ghosts}
use Rattle.refusal.specs.declared.Refusal.{Refusal}
use Rattle.sheet.specs.declared.rectangle.Rectangle.{Rectangle}
use Rattle.sheet.specs.Page.{Page, begin, feed, finish, wipe, patch, on_sheet}
use Rattle.sheet.specs.Sheet.{GrowingState, FinishedState, Begun, Fed, Ended, Wiped, Patched, Holds, four_corners, reading, sum_answer, level_sum}

-- a growing sheet and its plain page, after the same calls
pub data GrowingRun {E : Type 0} (k : Ghosts E) : GrowingState E → Page → Type 0 where
  begun : (memory : List E) (width height : ℕ) {t : GrowingState E} → Begun k memory width height t → GrowingRun k t (begin width height (length memory))
  fed : {s t : GrowingState E} {p : Page} (row : List ℕ) (r : Result ℕ Refusal) → GrowingRun k s p → Fed k s row r t → GrowingRun k t (feed row p)

-- a finished sheet and its plain page, after the same calls
pub data FinishedRun {E : Type 0} (k : Ghosts E) : FinishedState E → Page → Type 0 where
  ended : {s : GrowingState E} {t : FinishedState E} {p : Page} (level : ℕ) → GrowingRun k s p → Ended k s level t → FinishedRun k t (finish level p)
  wiped : {s t : FinishedState E} {p : Page} (rect : Rectangle) (level : ℕ) (r : Result ℕ Refusal) → FinishedRun k s p → Wiped k s rect level r t → FinishedRun k t (wipe rect level p)
  patched : {s t : FinishedState E} {p : Page} (rect : Rectangle) (levels : List ℕ) (r : Result ℕ Refusal) → FinishedRun k s p → Patched k s rect levels r t → FinishedRun k t (patch rect levels p)

-- what a finished sheet and its plain page have in common
pub record Agree {E : Type 0} (k : Ghosts E) (s : FinishedState E) (p : Page) : Type 0 where
  pub width_is : s.width ≡ p.width
  pub height_is : s.height ≡ p.height
  pub edits_is : s.edits ≡ p.edits
  pub laid_is : s.laid ≡ p.laid
  -- every entry of the table is the joining of the lifted levels left of it and above it
  pub table : Holds k p.width p.height p.height p.level s.memory
  -- every rectangle's four corners give its levels, joined in reading order
  pub sums : (r : Rectangle) → on_sheet p.width p.height r ≡ true → four_corners k s.width s.memory r ≡ reading k p.level r
  pub answers : (r : Rectangle) → sum_answer k s.width s.height s.memory r ≡ level_sum k p.width p.height p.level r

-- After any run, of any length and with any arguments, refused calls among them, the sheet and its plain page agree.
pub record RunsAgree {E : Type 0} (k : Ghosts E) : Type 0 where
  pub agree : (s : FinishedState E) (p : Page) → FinishedRun k s p → Agree k s p
