-- The pixels of a rectangle, listed row after row. Assumes nothing.
use Rattle.std.specs.Prelude.{ℕ, zero, suc, ◌+◌, ◌-◌, ◌&&◌, cond, nat_le, List, [], ◌∷◌, ◌++◌, Some, None}
use Rattle.sheet.specs.declared.rectangle.Rectangle.{Rectangle}
use Rattle.beside.specs.declared.pixels.Pixels.{Pixels}

-- the pixel at (x, y), and n more to its right
abbrev pub row_of : (x y n : ℕ) → List (ℕ × ℕ)
row_of x y zero = (x, y) ∷ []
row_of x y (suc n) = (x, y) ∷ row_of (x + 1) y n

-- n rows from row y on
abbrev pub rows_of : (left right y n : ℕ) → List (ℕ × ℕ)
rows_of left right y zero = []
rows_of left right y (suc n) = row_of left y (right - left) ++ rows_of left right (y + 1) n

-- the pixels from (x, y) on
abbrev pub from_pixel : Rectangle → (x y : ℕ) → List (ℕ × ℕ)
from_pixel r x y = row_of x y (r.right - x) ++ rows_of r.left r.right (y + 1) (r.bottom - y)

-- all pixels of a rectangle, of which a turned one has none
abbrev pub pixels_of : Rectangle → List (ℕ × ℕ)
pixels_of r = cond (nat_le r.left r.right && nat_le r.top r.bottom) (from_pixel r r.left r.top) []

-- the pixels that are still to come
abbrev pub left_of : Pixels → List (ℕ × ℕ)
left_of p = elim p.at [ Some q ↦ from_pixel p.rect q.0 q.1 | None ↦ [] ]
