-- What holds of the five filters on all pages of one size. Assumes nothing.
use Rattle.std.specs.Prelude.{◌≡◌, ℕ, ◌<◌, List}
use Rattle.raster.specs.declared.offsets.Offsets.{Offsets}
use Rattle.raster.specs.declared.offsets.Window.{Window}
use Rattle.sheet.specs.Page.{Levels}
use Rattle.filters.specs.Filters.{Within, median_of, eroded, dilated, opened, closed}

-- what lies within a page still does after the filter: ink that is added loses none
abbrev pub Monotone : (width height : ℕ) → (Levels → Levels) → Type 0
Monotone width height filter = (p q : Levels) → Within width height p q → Within width height (filter p) (filter q)

-- a second time changes no byte
abbrev pub Idempotent : (width height : ℕ) → (Levels → Levels) → Type 0
Idempotent width height filter = (p : Levels) (x y : ℕ) → x < width → y < height → filter (filter p) x y ≡ filter p x y

-- The first page dilated lies within the second exactly when the first lies within the second eroded.
pub record Adjoint (width height : ℕ) (e : List Offsets) : Type 0 where
  pub to_eroded : (p q : Levels) → Within width height (dilated width height e p) q → Within width height p (eroded width height e q)
  pub to_dilated : (p q : Levels) → Within width height p (eroded width height e q) → Within width height (dilated width height e p) q

pub record ElementLaws (width height : ℕ) (e : List Offsets) : Type 0 where
  pub adjoint : Adjoint width height e
  pub erosion : Monotone width height (eroded width height e)
  pub dilation : Monotone width height (dilated width height e)
  pub opening : Monotone width height (opened width height e)
  pub closing : Monotone width height (closed width height e)
  pub opening_twice : Idempotent width height (opened width height e)
  pub closing_twice : Idempotent width height (closed width height e)
  pub opened_within : (p : Levels) → Within width height (opened width height e p) p
  pub within_closed : (p : Levels) → Within width height p (closed width height e p)

-- the laws of the filters, on sheets of every size, with every window and every element
pub record FilterLaws : Type 0 where
  pub median : (width height : ℕ) (w : Window) → Monotone width height (median_of width height w)
  pub element : (width height : ℕ) (e : List Offsets) → ElementLaws width height e
