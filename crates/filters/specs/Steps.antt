-- The filters by corners of the table of an ink sheet. Assumes nothing.
use Rattle.std.specs.Prelude.{◌≡◌, ℕ, ◌*◌, ◌<◌, ◌≤◌, Bool, not, List, map, length, Result, MatchResult, ◌==◌, nat_le, nat_lt}
use Rattle.std.specs.List.{list_any, range_with_len}
use Rattle.entry.specs.Kinds.{Ink, ink}
use Rattle.entry.specs.Numbers.{ink_numbers}
use Rattle.raster.specs.Drawn.{laid, page_byte, room_answer}
use Rattle.raster.specs.Region.{cut_sum_at, cut_area_at, reflected, window_byte, Bytes}
use Rattle.raster.specs.declared.offsets.Offsets.{Offsets}
use Rattle.raster.specs.declared.offsets.Window.{Window}
use Rattle.refusal.specs.Answers.{Answer, accepted, and_then, ensuring, told}
use Rattle.refusal.specs.declared.Refusal.{Refusal}
use Rattle.sheet.specs.Page.{Levels}
use Rattle.sheet.specs.PageTable.{PageTable}
use Rattle.sheet.specs.Sheet.{Holds, table_size}
use Rattle.filters.specs.declared.step.Step.{Step}
use Rattle.filters.specs.declared.step.Step.TheVariants.{Erode, Dilate}
use Rattle.filters.specs.Filters.{ink_byte, median_of, eroded, dilated}

-- ink where more than half of the window is
abbrev pub majority : (level total count : ℕ) → ℕ
majority level total count = ink_byte (nat_lt count (2 * total))

-- On the table of any page of bytes, the majority in the window from corners of the table is the median.
pub record MedianLaw : Type 0 where
  pub bytes : (width height : ℕ) → width ≤ 4096 → height ≤ 4096 → (p : Levels) (memory : List Ink) → Holds ink width height height p memory → Bytes width height p → (w : Window) (x y : ℕ) → x < width → y < height →
      window_byte ink ink_numbers majority width height memory w x y ≡ median_of width height w p x y

-- A rectangle settles the pixel: erosion, where it is not all ink; dilation, where its reflection has ink.
abbrev pub settles : Step → (width height : ℕ) → List Ink → Offsets → (x y : ℕ) → Bool
settles Erode width height memory o x y = not (ink_numbers.number (cut_sum_at ink width height memory o x y) == cut_area_at width height o x y)
settles Dilate width height memory o x y = nat_lt 0 (ink_numbers.number (cut_sum_at ink width height memory (reflected o) x y))

-- one of the rectangles does
abbrev pub settled : Step → (width height : ℕ) → List Ink → List Offsets → (x y : ℕ) → Bool
settled step width height memory e x y = list_any (λ o. settles step width height memory o x y) e

-- the byte of a pixel, eroded or dilated
abbrev pub step_byte : Step → (width height : ℕ) → List Ink → List Offsets → (x y : ℕ) → ℕ
step_byte Erode width height memory e x y = ink_byte (not (settled Erode width height memory e x y))
step_byte Dilate width height memory e x y = ink_byte (settled Dilate width height memory e x y)

-- the page that a step gives
abbrev pub stepped : Step → (width height : ℕ) → List Offsets → Levels → Levels
stepped Erode = eroded
stepped Dilate = dilated

-- On the table of any page of bytes, a step from corners of the table is that of the pixels.
pub record StepLaw : Type 0 where
  pub bytes : (width height : ℕ) → width ≤ 4096 → height ≤ 4096 → (p : Levels) (memory : List Ink) → Holds ink width height height p memory → Bytes width height p → (step : Step) (e : List Offsets) (x y : ℕ) → x < width → y < height →
      step_byte step width height memory e x y ≡ stepped step width height e p x y

-- a page that is too short comes before an element without a rectangle
abbrev pub step_answer : (width height long : ℕ) → List Offsets → Answer ℕ
step_answer width height long e = and_then (room_answer width height long) (λ n. ensuring (nat_lt 0 (length e)) 33 0 (accepted n))

-- a second memory that is too short for the table comes before both; the 0 by 0 sheet has no table
abbrev pub two_step_answer : (width height room long : ℕ) → List Offsets → Answer ℕ
two_step_answer width height room long e = ensuring (nat_le (table_size width height) room) 12 0 (step_answer width height long e)

-- the bytes between two steps, row after row
abbrev pub bytes_between : Step → (width height : ℕ) → List Ink → List Offsets → List ℕ
bytes_between step width height memory e = map (page_byte width (step_byte step width height memory e)) (range_with_len 0 (width * height))

-- One step after the other: the second memory holds the table of the page between them, and the page is the second step on that table. What stands past both is as it was, and a refusal changes nothing.
pub record TwoSteps (first second : Step) (width height : ℕ) (memory : List Ink) (e : List Offsets) (r : Result ℕ Refusal) (between between' : List Ink) (page page' : List ℕ) : Type 0 where
  pub answer : told r ≡ two_step_answer width height (length between) (length page) e
  pub table : MatchResult r (λ n. PageTable ink width height height (bytes_between first width height memory e) between between') (λ e. between' ≡ between)
  pub drawn : MatchResult r (λ n. page' ≡ laid (page_byte width (step_byte second width height between' e)) (width * height) page) (λ e. page' ≡ page)

-- On the table of any page of bytes, and with the table of the page between in the second memory, the two steps are those of the pixels.
pub record TwoStepLaw : Type 0 where
  pub bytes : (width height : ℕ) → width ≤ 4096 → height ≤ 4096 → (p : Levels) (memory : List Ink) → Holds ink width height height p memory → Bytes width height p → (first second : Step) (e : List Offsets) (between between' : List Ink) →
      PageTable ink width height height (bytes_between first width height memory e) between between' → (x y : ℕ) → x < width → y < height →
      step_byte second width height between' e x y ≡ stepped second width height e (stepped first width height e p) x y
