-- Totals of rectangles. Assumes nothing.
use Rattle.std.specs.Prelude.{◌≡◌, ℕ, ◌+◌, ◌*◌, ◌/◌, ◌%◌, ◌<◌, ◌≤◌, true, List, nat_le}
use Rattle.entry.specs.Sums.{plain_sum, limit_of}
use Rattle.entry.specs.declared.kind.entry.Entry as entry
use Rattle.entry.specs.declared.kind.modular.Modular as modular
use Rattle.refusal.specs.Answers.{Answer, accepted, ensuring}
use Rattle.sheet.specs.declared.rectangle.Rectangle.{Rectangle}
use Rattle.sheet.specs.Page.{Levels, area, columns, on_sheet}
use Rattle.sheet.specs.Sheet.{Holds, four_corners}

-- a number for a rectangle, if it is on the sheet and has no more pixels than words of this kind add up exactly
abbrev pub within_limit : {E : Type 0} → modular.Ghosts E → (width height : ℕ) → Rectangle → ℕ → Answer ℕ
within_limit m width height r number = ensuring (on_sheet width height r) 21 0 (ensuring (nat_le (area r) (limit_of m.bits m.most)) 25 0 (accepted number))

-- the four-corner answer as a number
abbrev pub total_answer : {E : Type 0} → entry.Ghosts E → modular.Ghosts E → (width height : ℕ) → List E → Rectangle → Answer ℕ
total_answer k m width height memory r = within_limit m width height r (m.number (four_corners k width memory r))

-- what the levels of a rectangle count, added up with no wrap
abbrev pub plain_total : {E : Type 0} → modular.Ghosts E → Levels → Rectangle → ℕ
plain_total m p r = plain_sum (λ n. m.amount (p (r.left + n % columns r) (r.top + n / columns r))) (area r)

-- the levels of a sheet of this size are bytes
abbrev pub Bytes : (width height : ℕ) → Levels → Type 0
Bytes width height p = (x y : ℕ) → x < width → y < height → p x y < 256

-- On the table of any levels the total is their plain sum. Where words hold as many levels as the largest sheet has, as those of 32 bits do, no total is refused for its pixels.
pub record TotalLaw {E : Type 0} (k : entry.Ghosts E) (m : modular.Ghosts E) : Type 0 where
  pub exact : (width height : ℕ) (p : Levels) (memory : List E) → Holds k width height height p memory → Bytes width height p → (r : Rectangle) → on_sheet width height r ≡ true → area r ≤ limit_of m.bits m.most → m.number (four_corners k width memory r) ≡ plain_total m p r
  pub totals : (width height : ℕ) (p : Levels) (memory : List E) → Holds k width height height p memory → Bytes width height p → (r : Rectangle) → total_answer k m width height memory r ≡ within_limit m width height r (plain_total m p r)
  pub unlimited : 4096 * 4096 ≤ limit_of m.bits m.most → (width height : ℕ) → width ≤ 4096 → height ≤ 4096 → (memory : List E) (r : Rectangle) → total_answer k m width height memory r ≡ ensuring (on_sheet width height r) 21 0 (accepted (m.number (four_corners k width memory r)))
