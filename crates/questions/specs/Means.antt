-- Mean levels. Assumes nothing.
use Rattle.std.specs.Prelude.{◌≡◌, ℕ, ◌+◌, ◌/◌, ◌≤◌, min, true, List}
use Rattle.entry.specs.Kinds.{Whole, whole}
use Rattle.entry.specs.Numbers.{whole_numbers}
use Rattle.raster.specs.Region.{Bytes}
use Rattle.refusal.specs.Answers.{Answer, accepted, ensuring}
use Rattle.sheet.specs.declared.rectangle.Rectangle.{Rectangle}
use Rattle.sheet.specs.Page.{Levels, area, on_sheet}
use Rattle.sheet.specs.Sheet.{Holds, four_corners}
use Rattle.questions.specs.Totals.{plain_total}

-- a total over n pixels, with half of n added and divided by n, both rounded down
abbrev pub rounded_mean : (total n : ℕ) → ℕ
rounded_mean total n = (total + n / 2) / n

-- the mean of a rectangle, from its four corners
abbrev pub mean_answer : (width height : ℕ) → List Whole → Rectangle → Answer ℕ
mean_answer width height memory r = ensuring (on_sheet width height r) 21 0 (accepted (rounded_mean (whole_numbers.number (four_corners whole width memory r)) (area r)))

-- the mean as a byte, whatever the table holds
abbrev pub mean_byte : (level total count : ℕ) → ℕ
mean_byte level total count = min (rounded_mean total count) 255

-- On the table of any page of bytes, the mean is that of the levels in the rectangle, and no more than 255.
pub record MeanLaw : Type 0 where
  pub means : (width height : ℕ) → width ≤ 4096 → height ≤ 4096 → (p : Levels) (memory : List Whole) → Holds whole width height height p memory → Bytes width height p → (r : Rectangle) →
      mean_answer width height memory r ≡ ensuring (on_sheet width height r) 21 0 (accepted (rounded_mean (plain_total whole_numbers p r) (area r)))
  pub levels : (width height : ℕ) (p : Levels) → Bytes width height p → (r : Rectangle) → on_sheet width height r ≡ true → rounded_mean (plain_total whole_numbers p r) (area r) ≤ 255
