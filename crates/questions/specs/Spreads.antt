-- How widely the levels of a rectangle spread. Assumes nothing.
use Rattle.std.specs.Prelude.{◌≡◌, ℕ, ◌-◌, ◌*◌, ◌^◌, ◌≤◌, min, List}
use Rattle.entry.specs.Kinds.{Energy, Whole, whole, energy, pair}
use Rattle.entry.specs.Numbers.{whole_numbers, energy_numbers}
use Rattle.entry.specs.declared.kinds.pair.Pair.{Pair}
use Rattle.raster.specs.Region.{Bytes}
use Rattle.refusal.specs.Answers.{Answer, accepted, ensuring}
use Rattle.sheet.specs.declared.rectangle.Rectangle.{Rectangle}
use Rattle.sheet.specs.Page.{Levels, area, on_sheet}
use Rattle.sheet.specs.Sheet.{Holds, four_corners}
use Rattle.questions.specs.Totals.{plain_total}

-- n × energy − total × total, from 0 to 2 ^ 64 - 1 whatever the table holds
abbrev pub spread_of : (n squares total : ℕ) → ℕ
spread_of n squares total = min (n * squares - total * total) (2 ^ 64 - 1)

-- the spread of a rectangle, from its four corners
abbrev pub spread_answer : (width height : ℕ) → List (Pair Whole Energy) → Rectangle → Answer ℕ
spread_answer width height memory r =
    let sum = four_corners (pair whole energy) width memory r in
    ensuring (on_sheet width height r) 21 0 (accepted (spread_of (area r) (energy_numbers.number sum.second) (whole_numbers.number sum.first)))

-- On the table of any page of bytes the spread is exact, and the difference is not negative.
pub record SpreadLaw : Type 0 where
  pub spreads : (width height : ℕ) → width ≤ 4096 → height ≤ 4096 → (p : Levels) (memory : List (Pair Whole Energy)) → Holds (pair whole energy) width height height p memory → Bytes width height p → (r : Rectangle) →
      spread_answer width height memory r ≡ ensuring (on_sheet width height r) 21 0 (accepted (area r * plain_total energy_numbers p r - plain_total whole_numbers p r * plain_total whole_numbers p r))
  pub positive : (p : Levels) (r : Rectangle) → plain_total whole_numbers p r * plain_total whole_numbers p r ≤ area r * plain_total energy_numbers p r
