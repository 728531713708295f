-- Rectangles about a pixel, cut at the frame of a sheet. Assumes nothing.
use Rattle.std.specs.Prelude.{◌≡◌, ℕ, ◌+◌, ◌<◌, ◌≤◌, Bool, cond, ◌&&◌, List, ℤ, pos, negsuc, ◌+ℤ◌, neg_ℤ, ◌≤ℤ◌, int_le}
use Rattle.entry.specs.declared.kind.entry.Entry.{Ghosts}
use Rattle.entry.specs.declared.kind.modular.Modular as modular
use Rattle.sheet.specs.declared.span.Span.{Span}
use Rattle.sheet.specs.Cut.{cut_area, cut_sum, count_pixels, frame_sum, join_pixels}
use Rattle.sheet.specs.Page.{Levels}
use Rattle.sheet.specs.Sheet.{Holds}
use Rattle.raster.specs.declared.offsets.Offsets.{Offsets}
use Rattle.raster.specs.declared.offsets.Window.{Window}

-- x + from ≤ i ≤ x + to
abbrev pub between : (from to : ℤ) → (x i : ℕ) → Bool
between from to x i = int_le (pos x +ℤ from) (pos i) && int_le (pos i) (pos x +ℤ to)

-- (i, j) is a pixel of the rectangle at (x, y)
abbrev pub covers : Offsets → (x y i j : ℕ) → Bool
covers o x y i j = between o.left o.right x i && between o.up o.down y j

-- the offsets of a window
abbrev pub window_offsets : Window → Offsets
window_offsets w = record { left = neg_ℤ (pos w.left); right = pos w.right; up = neg_ℤ (pos w.up); down = pos w.down }

-- The offsets turned about the pixel: (i, j) is a pixel of the rectangle at (x, y) where (x, y) is one of the reflected rectangle at (i, j).
abbrev pub reflected : Offsets → Offsets
reflected o = record { left = neg_ℤ o.right; right = neg_ℤ o.left; up = neg_ℤ o.down; down = neg_ℤ o.up }

-- no offset is further off than that
abbrev pub Near : ℤ → Type 0
Near z = (negsuc 65535 ≤ℤ z) × (z ≤ℤ pos 65536)

-- the first number that is z or more, and the first above z
abbrev pub first_from : ℤ → ℕ
first_from (pos n) = n
first_from (negsuc n) = 0

abbrev pub first_above : ℤ → ℕ
first_above (pos n) = n + 1
first_above (negsuc n) = 0

-- the numbers from x + from to x + to
abbrev pub span_at : (from to : ℤ) → ℕ → Span
span_at from to x = record { start = first_from (pos x +ℤ from); end = first_above (pos x +ℤ to) }

abbrev pub columns_at : Offsets → ℕ → Span
columns_at o x = span_at o.left o.right x

abbrev pub rows_at : Offsets → ℕ → Span
rows_at o y = span_at o.up o.down y

-- the entry of the rectangle at (x, y), cut at the frame, from four corners of the table
abbrev pub cut_sum_at : {E : Type 0} → Ghosts E → (width height : ℕ) → List E → Offsets → (x y : ℕ) → E
cut_sum_at k width height memory o x y = cut_sum k width height memory (columns_at o x) (rows_at o y)

-- how many of its pixels are on the sheet
abbrev pub cut_area_at : (width height : ℕ) → Offsets → (x y : ℕ) → ℕ
cut_area_at width height o x y = cut_area width height (columns_at o x) (rows_at o y)

-- the window of a pixel alone
abbrev pub point : Window
point = record { left = 0; right = 0; up = 0; down = 0 }

-- What a rule gives the pixel (x, y), from corners of the table: by its level, and by the total and the number of the pixels of its window that are on the sheet.
abbrev pub window_byte : {E : Type 0} → Ghosts E → modular.Ghosts E → ((level total count : ℕ) → ℕ) → (width height : ℕ) → List E → Window → (x y : ℕ) → ℕ
window_byte k m rule width height memory w x y =
    rule (m.number (cut_sum_at k width height memory (window_offsets point) x y)) (m.number (cut_sum_at k width height memory (window_offsets w) x y)) (cut_area_at width height (window_offsets w) x y)

-- On the table of any levels, a rectangle about any pixel has the levels of those of its pixels that are on the sheet.
pub record RegionLaw {E : Type 0} (k : Ghosts E) : Type 0 where
  pub sums : (width height : ℕ) (p : Levels) (memory : List E) → Holds k width height height p memory → (o : Offsets) (x y : ℕ) → cut_sum_at k width height memory o x y ≡ join_pixels k width height (covers o x y) p
  pub areas : (width height : ℕ) (o : Offsets) (x y : ℕ) → cut_area_at width height o x y ≡ count_pixels width height (covers o x y)

-- the levels of a sheet of this size are bytes
abbrev pub Bytes : (width height : ℕ) → Levels → Type 0
Bytes width height p = (x y : ℕ) → x < width → y < height → p x y < 256

-- what the pixels of the sheet in the window at (x, y) count together
abbrev pub window_total : (ℕ → ℕ) → (width height : ℕ) → Levels → Window → (x y : ℕ) → ℕ
window_total amount width height p w x y = frame_sum width height (λ i j. cond (covers (window_offsets w) x y i j) (amount (p i j)) 0)

-- how many they are
abbrev pub window_count : (width height : ℕ) → Window → (x y : ℕ) → ℕ
window_count width height w x y = count_pixels width height (covers (window_offsets w) x y)

-- On the table of any page of bytes, a rule is given what the pixels themselves say: the level, the total of the window and the number of its pixels, and there is one at least.
pub record WindowLaw {E : Type 0} (k : Ghosts E) (m : modular.Ghosts E) : Type 0 where
  pub bytes : (width height : ℕ) → width ≤ 4096 → height ≤ 4096 → (p : Levels) (memory : List E) → Holds k width height height p memory → Bytes width height p →
      (rule : (level total count : ℕ) → ℕ) (w : Window) (x y : ℕ) → x < width → y < height →
      window_byte k m rule width height memory w x y ≡ rule (m.amount (p x y)) (window_total m.amount width height p w x y) (window_count width height w x y)
  pub some : (width height : ℕ) (w : Window) (x y : ℕ) → x < width → y < height → 0 < window_count width height w x y
