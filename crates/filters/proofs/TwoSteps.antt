-- One step after the other. Assumes nothing.
use Rattle.std.proofs.Common.{◌≡◌, ℕ, ◌+◌, ◌*◌, ◌<◌, Bool, true, false, List, map, sym, ◌∙◌, subst, arith}
use Rattle.std.specs.List.{range_with_len}
use Rattle.std.proofs.lemmas.Nat.{mul-add-lt}
use Rattle.std.proofs.lemmas.List.FromFn.{get_or-map-range_with_len}
use Rattle.raster.specs.Drawn.{page_byte}
use Rattle.raster.specs.declared.offsets.Offsets.{Offsets}
use Rattle.raster.proofs.Pages.{byte_at}
use Rattle.sheet.specs.Page.{Levels}
use Rattle.sheet.specs.PageTable.{page_levels}
use Rattle.filters.specs.declared.step.Step.{Step}
use Rattle.filters.specs.declared.step.Step.TheVariants.{Erode, Dilate}
use Rattle.filters.specs.Filters.{ink_byte, is_ink, Within, erosion_at, dilation_at}
use Rattle.filters.specs.Steps.{bytes_between, step_byte, stepped, StepLaw, TwoStepLaw}
use Rattle.filters.proofs.Adjunction.{same_bytes, erosion, dilation}

-- pages that agree on the sheet are filtered alike
module _ (w h : ℕ) (e : List Offsets) (p q : Levels) (same : (x y : ℕ) → x < w → y < h → p x y ≡ q x y) where
  to : Within w h p q
  to x y hx hy is = subst (λ g. is_ink g ≡ true) (same x y hx hy) is

  from : Within w h q p
  from x y hx hy is = subst (λ g. is_ink g ≡ true) (sym (same x y hx hy)) is

  stepped_same : (step : Step) (x y : ℕ) → x < w → y < h → stepped step w h e p x y ≡ stepped step w h e q x y
  stepped_same Erode x y hx hy = same_bytes (erosion_at w h e p x y) (erosion_at w h e q x y) (erosion w h e p q to x y hx hy) (erosion w h e q p from x y hx hy)
  stepped_same Dilate x y hx hy = same_bytes (dilation_at w h e p x y) (dilation_at w h e q x y) (dilation w h e p q to x y hx hy) (dilation w h e q p from x y hx hy)

small : (b : Bool) → ink_byte b < 256
small true = omega arith
small false = omega arith

stepped_small : (step : Step) (w h : ℕ) (e : List Offsets) (p : Levels) (x y : ℕ) → stepped step w h e p x y < 256
stepped_small Erode w h e p x y = small (erosion_at w h e p x y)
stepped_small Dilate w h e p x y = small (dilation_at w h e p x y)

-- the page that lies in a list of bytes
listed : (w h : ℕ) (f : ℕ → ℕ → ℕ) (x y : ℕ) → x < w → y < h → page_levels w (map (page_byte w f) (range_with_len 0 (w * h))) x y ≡ f x y
listed w h f x y hx hy =
    get_or-map-range_with_len (page_byte w f) 0 (w * h) (y * w + x) (y * w + x) 0 (mul-add-lt y w x h hy hx) (omega arith) ∙ byte_at w f x y hx

pub two_step_law_lem : StepLaw → TwoStepLaw
two_step_law_lem step = record {
  bytes = λ w h hw hh p memory holds bytes first second e between between' laid x y hx hy.
      let q = page_levels w (bytes_between first w h memory e) in
      let same : (i j : ℕ) → i < w → j < h → q i j ≡ stepped first w h e p i j = λ i j hi hj. listed w h (step_byte first w h memory e) i j hi hj ∙ step.bytes w h hw hh p memory holds bytes first e i j hi hj in
      step.bytes w h hw hh q between' laid.table (λ i j hi hj. subst (λ g. g < 256) (sym (same i j hi hj)) (stepped_small first w h e p i j)) second e x y hx hy
      ∙ stepped_same w h e q (stepped first w h e p) same second x y hx hy;
}
