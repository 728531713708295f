-- Questions on the window about each pixel of a whole sheet. Assumes nothing.
use Rattle.std.specs.Prelude.{◌≡◌, ℕ, ◌<◌, ◌≤◌, List}
use Rattle.entry.specs.Kinds.{Whole, whole}
use Rattle.entry.specs.Numbers.{whole_numbers}
use Rattle.raster.specs.Region.{Bytes, window_byte, window_total, window_count}
use Rattle.raster.specs.declared.offsets.Window.{Window}
use Rattle.sheet.specs.Page.{Levels}
use Rattle.sheet.specs.Sheet.{Holds}

-- On the table of any page of bytes, the byte that a rule gives from corners of the table is `plain` of the pixel's own level, and of the sum and the number of those pixels of its window that are on the sheet.
pub record RuleLaw (rule plain : (level total count : ℕ) → ℕ) : Type 0 where
  pub bytes : (width height : ℕ) → width ≤ 4096 → height ≤ 4096 → (p : Levels) (memory : List Whole) → Holds whole width height height p memory → Bytes width height p → (w : Window) (x y : ℕ) → x < width → y < height →
      window_byte whole whole_numbers rule width height memory w x y ≡ plain (p x y) (window_total (λ g. g) width height p w x y) (window_count width height w x y)
