-- The filters from corners are those of the pixels. Assumes nothing.
use Rattle.std.proofs.Common.{◌≡◌, ℕ, ◌*◌, ◌<◌, ◌≤◌, min, Bool, true, false, cond, not, ◌&&◌, ◌||◌, eqb, ltb, List, [], ◌∷◌, ℤ, pos, ◌+ℤ◌, neg_ℤ, Decides, sym, refl, ap, ◌∙◌, inl, inr, ⊎_elim, arith}
use lib.Signed.{le_z}
use Rattle.std.proofs.lemmas.Nat.{mul-le}
use Rattle.std.proofs.lemmas.Int.{ints}
use Rattle.std.proofs.lemmas.Bool.{and_from, and_parts, or_cases, or_left, or_right, true≢false}
use Rattle.std.proofs.lemmas.Bool.Decides.{Decides-and, Decides-at, Decides-eqb, Decides-like, Decides-ltb, Decides-or, same_from_decides, nat_tests}
use Rattle.entry.specs.Exactness.{Exact}
use Rattle.entry.specs.Kinds.{Ink, ink}
use Rattle.entry.specs.Numbers.{ink_numbers}
use Rattle.entry.proofs.ModularSums.{sum_same}
use Rattle.raster.specs.Region.{between, covers, reflected, cut_sum_at, cut_area_at, window_offsets, window_count, Bytes, RegionLaw, WindowLaw}
use Rattle.raster.specs.declared.offsets.Offsets.{Offsets}
use Rattle.raster.proofs.Windows.{pixel_numbers}
use Rattle.sheet.specs.Cut.{count_pixels, frame_sum}
use Rattle.sheet.specs.Page.{Levels}
use Rattle.sheet.specs.Sheet.{Holds}
use Rattle.filters.specs.declared.step.Step.{Step}
use Rattle.filters.specs.declared.step.Step.TheVariants.{Erode, Dilate}
use Rattle.filters.specs.Filters.{is_ink, ink_byte, reaches, erosion_at, dilation_at}
use Rattle.filters.specs.Steps.{majority, settled, step_byte, stepped, MedianLaw, StepLaw}
use Rattle.filters.proofs.Adjunction.{implies, implied}
use Rattle.filters.proofs.Frames.{Somewhere, everywhere_decides, somewhere_decides, count_le, count_tight, count_some, some_count}

-- ink pixels count one each
ink_amount : (b : Bool) (g : ℕ) → cond b (min g 1) 0 ≡ ink_byte (b && is_ink g)
ink_amount true g = grind (arith, nat_tests)
ink_amount false g = refl

ink_count : (w h : ℕ) (t : ℕ → ℕ → Bool) (p : Levels) → frame_sum w h (λ i j. cond (t i j) (min (p i j) 1) 0) ≡ count_pixels w h (λ i j. t i j && is_ink (p i j))
ink_count w h t p = sum_same _ _ h (λ j hj. sum_same _ _ w (λ i hi. ink_amount (t i j) (p i j)))

pub median_law_lem : WindowLaw ink ink_numbers → MedianLaw
median_law_lem windows = record {
  bytes = λ width height hw hh p memory holds bytes w x y hx hy.
      windows.bytes width height hw hh p memory holds bytes majority w x y hx hy
      ∙ ap (λ n. ink_byte (ltb (window_count width height w x y) (2 * n))) (ink_count width height (covers (window_offsets w) x y) p);
}

-- a pixel that a rectangle covers sees it reflected
and_comm : (a b : Bool) → (a && b) ≡ (b && a)
and_comm true true = refl
and_comm true false = refl
and_comm false true = refl
and_comm false false = refl

le_reflected : (z : ℤ) (x i : ℕ) → le_z (pos i +ℤ z) (pos x) ≡ le_z (pos i) (pos x +ℤ neg_ℤ z)
le_reflected z x i = grind (arith, ints)

ge_reflected : (z : ℤ) (x i : ℕ) → le_z (pos x) (pos i +ℤ z) ≡ le_z (pos x +ℤ neg_ℤ z) (pos i)
ge_reflected z x i = grind (arith, ints)

between_reflected : (from to : ℤ) (x i : ℕ) → between from to i x ≡ between (neg_ℤ to) (neg_ℤ from) x i
between_reflected from to x i =
    let a = le_reflected from x i in
    let b = ge_reflected to x i in
    rw (a, b) (and_comm (le_z (pos i) (pos x +ℤ neg_ℤ from)) (le_z (pos x +ℤ neg_ℤ to) (pos i)))

covers_reflected : (o : Offsets) (x y i j : ℕ) → covers o i j x y ≡ covers (reflected o) x y i j
covers_reflected o x y i j = let a = between_reflected o.left o.right x i in let b = between_reflected o.up o.down y j in cc

not_or : (a b : Bool) → not (not a || b) ≡ (a && not b)
not_or true b = refl
not_or false b = refl

module _ (regions : RegionLaw ink) (exact : Exact ink ink_numbers) (w h : ℕ) (hw : w ≤ 4096) (hh : h ≤ 4096) (p : Levels) (memory : List Ink) (holds : Holds ink w h h p memory) (bytes : Bytes w h p) (x y : ℕ) where
  -- the ink of a rectangle
  cut_ink : (o : Offsets) → ink_numbers.number (cut_sum_at ink w h memory o x y) ≡ count_pixels w h (λ i j. covers o x y i j && is_ink (p i j))
  cut_ink o =
      ap ink_numbers.number (regions.sums w h p memory holds o x y)
      ∙ pixel_numbers exact w h p bytes (omega (arith, mul-le w h 4096 4096 hw hh)) (covers o x y)
      ∙ ink_count w h (covers o x y) p

  -- a rectangle is all ink where each of its pixels on the sheet is
  full_decides : (o : Offsets) → Decides (eqb (ink_numbers.number (cut_sum_at ink w h memory o x y)) (cut_area_at w h o x y)) ((j : ℕ) → j < h → (i : ℕ) → i < w → covers o x y i j ≡ true → is_ink (p i j) ≡ true)
  full_decides o =
      let inked : ℕ → ℕ → Bool = λ i j. covers o x y i j && is_ink (p i j) in
      let weaker : (i j : ℕ) → i < w → j < h → inked i j ≡ true → covers o x y i j ≡ true = λ i j hi hj s. (and_parts (covers o x y i j) (is_ink (p i j)) s).0 in
      let area = regions.areas w h o x y in
      Decides-like _
      (λ e j hj i hi c. (and_parts (covers o x y i j) (is_ink (p i j)) (count_tight w h inked (covers o x y) weaker (sym (cut_ink o) ∙ e ∙ area) i j hi hj c)).1)
      (λ all.
      let less = count_le w h inked (covers o x y) weaker in
      let more = count_le w h (covers o x y) inked (λ i j hi hj c. and_from _ _ c (all j hj i hi c)) in
      omega (arith, less, more, cut_ink o, area))
      (Decides-eqb _ _)

  -- each element pixel on the sheet is ink
  abbrev Held : List Offsets → Type 0
  Held e = (j : ℕ) → j < h → (i : ℕ) → i < w → reaches e x y i j ≡ true → is_ink (p i j) ≡ true

  held_decides : (e : List Offsets) → Decides (not (settled Erode w h memory e x y)) (Held e)
  held_decides [] = (λ _ j hj i hi r. absurd (true≢false (sym r)), λ _. refl)
  held_decides (o ∷ os) =
      let here = eqb (ink_numbers.number (cut_sum_at ink w h memory o x y)) (cut_area_at w h o x y) in
      let rest = settled Erode w h memory os x y in
      Decides-at _ (here && not rest) (not_or here rest)
      (Decides-like _
      (λ both j hj i hi r. ⊎_elim (both.0 j hj i hi) (both.1 j hj i hi) (or_cases (covers o x y i j) (reaches os x y i j) r))
      (λ all. (λ j hj i hi r. all j hj i hi (or_left _ _ r), λ j hj i hi r. all j hj i hi (or_right _ _ r)))
      (Decides-and _ _ (full_decides o) (held_decides os)))

  erosion_pixels : (e : List Offsets) → not (settled Erode w h memory e x y) ≡ erosion_at w h e p x y
  erosion_pixels e =
      same_from_decides (not (settled Erode w h memory e x y)) (erosion_at w h e p x y) (held_decides e)
      (Decides-like _
      (λ all j hj i hi r. implied (reaches e x y i j) (is_ink (p i j)) (all j hj i hi) r)
      (λ all j hj i hi. implies (reaches e x y i j) (is_ink (p i j)) (all j hj i hi))
      (everywhere_decides w h (λ i j. not (reaches e x y i j) || is_ink (p i j))))

  -- some ink pixel has (x, y) among its pixels of one rectangle
  struck_decides : (o : Offsets) → Decides (ltb 0 (ink_numbers.number (cut_sum_at ink w h memory (reflected o) x y))) (Somewhere w h (λ i j. covers o i j x y && is_ink (p i j)))
  struck_decides o =
      let seen : ℕ → ℕ → Bool = λ i j. covers (reflected o) x y i j && is_ink (p i j) in
      let number = cut_ink (reflected o) in
      Decides-like _
      (λ lt.
      let s = count_some w h seen (omega (arith, number)) in
      let both = and_parts (covers (reflected o) x y s.2.0 s.0) (is_ink (p s.2.0 s.0)) s.2.2 in
      (s.0, s.1, (s.2.0, s.2.1, and_from _ _ (covers_reflected o x y s.2.0 s.0 ∙ both.0) both.1)))
      (λ s.
      let both = and_parts (covers o s.2.0 s.0 x y) (is_ink (p s.2.0 s.0)) s.2.2 in
      let some = some_count w h seen (s.0, s.1, (s.2.0, s.2.1, and_from _ _ (sym (covers_reflected o x y s.2.0 s.0) ∙ both.0) both.1)) in
      omega (arith, number, some))
      (Decides-ltb 0 _)

  hit_decides : (e : List Offsets) → Decides (settled Dilate w h memory e x y) (Somewhere w h (λ i j. reaches e i j x y && is_ink (p i j)))
  hit_decides [] = (λ f. absurd (true≢false (sym f)), λ s. s.2.2)
  hit_decides (o ∷ os) =
      Decides-like _
      (⊎_elim
      (λ s. let b = and_parts (covers o s.2.0 s.0 x y) (is_ink (p s.2.0 s.0)) s.2.2 in (s.0, s.1, (s.2.0, s.2.1, and_from _ _ (or_left _ _ b.0) b.1)))
      (λ s. let b = and_parts (reaches os s.2.0 s.0 x y) (is_ink (p s.2.0 s.0)) s.2.2 in (s.0, s.1, (s.2.0, s.2.1, and_from _ _ (or_right _ _ b.0) b.1))))
      (λ s.
      let b = and_parts (covers o s.2.0 s.0 x y || reaches os s.2.0 s.0 x y) (is_ink (p s.2.0 s.0)) s.2.2 in
      ⊎_elim
      (λ a. inl (s.0, s.1, (s.2.0, s.2.1, and_from _ _ a b.1)))
      (λ a. inr (s.0, s.1, (s.2.0, s.2.1, and_from _ _ a b.1)))
      (or_cases (covers o s.2.0 s.0 x y) (reaches os s.2.0 s.0 x y) b.0))
      (Decides-or _ _ (struck_decides o) (hit_decides os))

  dilation_pixels : (e : List Offsets) → settled Dilate w h memory e x y ≡ dilation_at w h e p x y
  dilation_pixels e = same_from_decides (settled Dilate w h memory e x y) (dilation_at w h e p x y) (hit_decides e) (somewhere_decides w h (λ i j. reaches e i j x y && is_ink (p i j)))

  step_pixels : (step : Step) (e : List Offsets) → step_byte step w h memory e x y ≡ stepped step w h e p x y
  step_pixels Erode e = ap ink_byte (erosion_pixels e)
  step_pixels Dilate e = ap ink_byte (dilation_pixels e)

pub step_law_lem : RegionLaw ink → Exact ink ink_numbers → StepLaw
step_law_lem regions exact = record { bytes = λ w h hw hh p memory holds bytes step e x y hx hy. step_pixels regions exact w h hw hh p memory holds bytes x y step e }
