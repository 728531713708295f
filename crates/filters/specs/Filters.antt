-- Ink pages and the five filters, by their pixels. Assumes nothing.
use Rattle.std.specs.Prelude.{◌≡◌, ℕ, zero, suc, ◌*◌, ◌<◌, Bool, true, false, cond, not, ◌&&◌, ◌||◌, List, [], ◌∷◌, ◌==◌, nat_lt}
use Rattle.raster.specs.Region.{covers, window_offsets, window_count}
use Rattle.raster.specs.declared.offsets.Offsets.{Offsets}
use Rattle.raster.specs.declared.offsets.Window.{Window}
use Rattle.sheet.specs.Cut.{count_pixels}
use Rattle.sheet.specs.Page.{Levels}

-- ink is any level but 0
abbrev pub is_ink : ℕ → Bool
is_ink g = not (g == 0)

-- what a filter writes: 1 for ink and 0 for paper
abbrev pub ink_byte : Bool → ℕ
ink_byte b = cond b 1 0

-- every ink pixel of the first page is ink in the second; both are of this size
abbrev pub Within : (width height : ℕ) → (p q : Levels) → Type 0
Within width height p q = (x y : ℕ) → x < width → y < height → is_ink (p x y) ≡ true → is_ink (q x y) ≡ true

-- a test passes at each of 0 .. n - 1, or at one of them
abbrev pub each : (ℕ → Bool) → ℕ → Bool
each test zero = true
each test (suc n) = test n && each test n

abbrev pub any : (ℕ → Bool) → ℕ → Bool
any test zero = false
any test (suc n) = test n || any test n

-- the same for the pixels of a sheet
abbrev pub everywhere : (width height : ℕ) → (ℕ → ℕ → Bool) → Bool
everywhere width height test = each (λ y. each (λ x. test x y) width) height

abbrev pub somewhere : (width height : ℕ) → (ℕ → ℕ → Bool) → Bool
somewhere width height test = any (λ y. any (λ x. test x y) width) height

-- (i, j) is an element pixel of (x, y): one of the rectangles at (x, y) covers it
abbrev pub reaches : List Offsets → (x y i j : ℕ) → Bool
reaches [] x y i j = false
reaches (o ∷ os) x y i j = covers o x y i j || reaches os x y i j

module _ (width height : ℕ) where
  -- more than half of the window's pixels on the sheet are ink
  abbrev pub median_at : Window → Levels → (x y : ℕ) → Bool
  median_at w p x y = nat_lt (window_count width height w x y) (2 * count_pixels width height (λ i j. covers (window_offsets w) x y i j && is_ink (p i j)))

  -- every element pixel on the sheet is ink
  abbrev pub erosion_at : List Offsets → Levels → (x y : ℕ) → Bool
  erosion_at e p x y = everywhere width height (λ i j. not (reaches e x y i j) || is_ink (p i j))

  -- some ink pixel has (x, y) among its element pixels
  abbrev pub dilation_at : List Offsets → Levels → (x y : ℕ) → Bool
  dilation_at e p x y = somewhere width height (λ i j. reaches e i j x y && is_ink (p i j))

  -- the pages that the filters give
  abbrev pub median_of : Window → Levels → Levels
  median_of w p x y = ink_byte (median_at w p x y)

  abbrev pub eroded : List Offsets → Levels → Levels
  eroded e p x y = ink_byte (erosion_at e p x y)

  abbrev pub dilated : List Offsets → Levels → Levels
  dilated e p x y = ink_byte (dilation_at e p x y)

  abbrev pub opened : List Offsets → Levels → Levels
  opened e p = dilated e (eroded e p)

  abbrev pub closed : List Offsets → Levels → Levels
  closed e p = eroded e (dilated e p)
