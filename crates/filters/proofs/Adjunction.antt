-- The laws of the five filters. Those of erosion, dilation, opening and closing follow from one fact, that erosion and dilation are adjoint. Assumes nothing.
use Rattle.std.proofs.Common.{◌≡◌, ℕ, ◌*◌, ◌<◌, ◌≤◌, Bool, true, false, not, ◌&&◌, ◌||◌, List, sym, refl, ap, ◌∙◌, arith}
use Rattle.std.proofs.lemmas.Bool.{and_from, and_parts, ltb-true, lt-ltb, true≢false}
use Rattle.std.proofs.lemmas.Bool.Decides.{same_from_decides}
use Rattle.raster.specs.Region.{covers, window_offsets, window_count}
use Rattle.raster.specs.declared.offsets.Offsets.{Offsets}
use Rattle.raster.specs.declared.offsets.Window.{Window}
use Rattle.sheet.specs.Cut.{count_pixels}
use Rattle.sheet.specs.Page.{Levels}
use Rattle.filters.specs.Filters.{is_ink, ink_byte, Within, reaches, median_at, erosion_at, dilation_at, median_of, eroded, dilated, opened, closed}
use Rattle.filters.specs.Laws.{Monotone, Idempotent, Adjoint, ElementLaws, FilterLaws}
use Rattle.filters.proofs.Frames.{Somewhere, everywhere_decides, somewhere_decides, count_le, byte_is_ink}

pub implies : (b c : Bool) → (b ≡ true → c ≡ true) → (not b || c) ≡ true
implies true c h = h refl
implies false c h = refl

pub implied : (b c : Bool) → (not b || c) ≡ true → b ≡ true → c ≡ true
implied true c h e = h
implied false c h e = absurd (true≢false (sym e))

-- bytes of filters, each ink where the other is, are equal
pub same_bytes : (b c : Bool) → (is_ink (ink_byte b) ≡ true → is_ink (ink_byte c) ≡ true) → (is_ink (ink_byte c) ≡ true → is_ink (ink_byte b) ≡ true) → ink_byte b ≡ ink_byte c
same_bytes b c to from =
    ap ink_byte (same_from_decides b c (λ e. e, λ e. e) ((λ e. sym (byte_is_ink b) ∙ from (byte_is_ink c ∙ e)), (λ e. sym (byte_is_ink c) ∙ to (byte_is_ink b ∙ e))))

module _ (w h : ℕ) (e : List Offsets) where
  in_eroded : (p : Levels) (x y : ℕ) → ((i j : ℕ) → i < w → j < h → reaches e x y i j ≡ true → is_ink (p i j) ≡ true) → is_ink (eroded w h e p x y) ≡ true
  in_eroded p x y all =
      byte_is_ink (erosion_at w h e p x y)
      ∙ (everywhere_decides w h (λ i j. not (reaches e x y i j) || is_ink (p i j))).1 (λ j hj i hi. implies (reaches e x y i j) (is_ink (p i j)) (all i j hi hj))

  of_eroded : (p : Levels) (x y : ℕ) → is_ink (eroded w h e p x y) ≡ true → (i j : ℕ) → i < w → j < h → reaches e x y i j ≡ true → is_ink (p i j) ≡ true
  of_eroded p x y is i j hi hj r =
      implied (reaches e x y i j) (is_ink (p i j)) ((everywhere_decides w h (λ i j. not (reaches e x y i j) || is_ink (p i j))).0 (sym (byte_is_ink (erosion_at w h e p x y)) ∙ is) j hj i hi) r

  in_dilated : (p : Levels) (x y : ℕ) (i j : ℕ) → i < w → j < h → reaches e i j x y ≡ true → is_ink (p i j) ≡ true → is_ink (dilated w h e p x y) ≡ true
  in_dilated p x y i j hi hj r is =
      byte_is_ink (dilation_at w h e p x y) ∙ (somewhere_decides w h (λ i j. reaches e i j x y && is_ink (p i j))).1 (j, hj, (i, hi, and_from _ _ r is))

  of_dilated : (p : Levels) (x y : ℕ) → is_ink (dilated w h e p x y) ≡ true → Somewhere w h (λ i j. reaches e i j x y && is_ink (p i j))
  of_dilated p x y is = (somewhere_decides w h (λ i j. reaches e i j x y && is_ink (p i j))).0 (sym (byte_is_ink (dilation_at w h e p x y)) ∙ is)

  adjoint : Adjoint w h e
  adjoint = record {
    to_eroded = λ p q within x y hx hy is. in_eroded q x y (λ i j hi hj r. within i j hi hj (in_dilated p i j x y hx hy r is));
    to_dilated = λ p q within x y hx hy is.
        let s = of_dilated p x y is in
        let both = and_parts (reaches e s.2.0 s.0 x y) (is_ink (p s.2.0 s.0)) s.2.2 in
        of_eroded q s.2.0 s.0 (within s.2.0 s.0 s.2.1 s.1 both.1) x y hx hy both.0;
  }

  same : (p : Levels) → Within w h p p
  same p x y hx hy is = is

  step : (p q r : Levels) → Within w h p q → Within w h q r → Within w h p r
  step p q r a b x y hx hy is = b x y hx hy (a x y hx hy is)

  -- the rest is from the adjunction

  opened_within : (p : Levels) → Within w h (opened w h e p) p
  opened_within p = adjoint.to_dilated (eroded w h e p) p (same (eroded w h e p))

  within_closed : (p : Levels) → Within w h p (closed w h e p)
  within_closed p = adjoint.to_eroded p (dilated w h e p) (same (dilated w h e p))

  pub erosion : Monotone w h (eroded w h e)
  erosion p q a = adjoint.to_eroded (eroded w h e p) q (step (opened w h e p) p q (opened_within p) a)

  pub dilation : Monotone w h (dilated w h e)
  dilation p q a = adjoint.to_dilated p (dilated w h e q) (step p q (closed w h e q) a (within_closed q))

  opening_twice : Idempotent w h (opened w h e)
  opening_twice p x y hx hy =
      same_bytes (dilation_at w h e (eroded w h e (opened w h e p)) x y) (dilation_at w h e (eroded w h e p) x y)
      (opened_within (opened w h e p) x y hx hy)
      (dilation (eroded w h e p) (eroded w h e (opened w h e p)) (within_closed (eroded w h e p)) x y hx hy)

  closing_twice : Idempotent w h (closed w h e)
  closing_twice p x y hx hy =
      same_bytes (erosion_at w h e (dilated w h e (closed w h e p)) x y) (erosion_at w h e (dilated w h e p) x y)
      (erosion (dilated w h e (closed w h e p)) (dilated w h e p) (opened_within (dilated w h e p)) x y hx hy)
      (within_closed (closed w h e p) x y hx hy)

  element_laws : ElementLaws w h e
  element_laws = record {
    adjoint = adjoint;
    erosion = erosion;
    dilation = dilation;
    opening = λ p q a. dilation (eroded w h e p) (eroded w h e q) (erosion p q a);
    closing = λ p q a. erosion (dilated w h e p) (dilated w h e q) (dilation p q a);
    opening_twice = opening_twice;
    closing_twice = closing_twice;
    opened_within = opened_within;
    within_closed = within_closed;
  }

median_monotone : (w h : ℕ) (win : Window) → Monotone w h (median_of w h win)
median_monotone w h win p q within x y hx hy is =
    let about : ℕ → ℕ → Bool = covers (window_offsets win) x y in
    let old : ℕ = count_pixels w h (λ i j. about i j && is_ink (p i j)) in
    let new : ℕ = count_pixels w h (λ i j. about i j && is_ink (q i j)) in
    let size : ℕ = window_count w h win x y in
    let most : size < 2 * old = ltb-true size (2 * old) (sym (byte_is_ink (median_at w h win p x y)) ∙ is) in
    let more : old ≤ new = count_le w h (λ i j. about i j && is_ink (p i j)) (λ i j. about i j && is_ink (q i j)) (λ i j hi hj s.
    let both = and_parts (about i j) (is_ink (p i j)) s in and_from _ _ both.0 (within i j hi hj both.1)) in
    byte_is_ink (median_at w h win q x y) ∙ lt-ltb size (2 * new) (omega arith)

pub filter_laws_lem : FilterLaws
filter_laws_lem = record { median = median_monotone; element = element_laws }
