-- Means are those of the levels, and bytes. Assumes nothing.
use Rattle.std.proofs.Common.{◌≡◌, ℕ, zero, suc, ◌+◌, ◌*◌, ◌/◌, ◌<◌, ◌≤◌, min, Bool, true, false, cond, sym, ap, ◌∙◌, inl, inr, add-mul, arith}
use Rattle.std.proofs.lemmas.Nat.{div_below, mul-le}
use Rattle.std.proofs.lemmas.Bool.{cases_Bool, cond-false}
use Rattle.entry.specs.Kinds.{whole}
use Rattle.entry.specs.Numbers.{whole_numbers}
use Rattle.entry.specs.Sums.{plain_sum}
use Rattle.entry.proofs.ModularSums.{sum_bounded}
use Rattle.raster.specs.Region.{covers, window_offsets, window_total, window_count, Bytes, WindowLaw}
use Rattle.raster.specs.declared.offsets.Window.{Window}
use Rattle.refusal.specs.Answers.{accepted, ensuring}
use Rattle.sheet.specs.declared.rectangle.Rectangle.{Rectangle}
use Rattle.sheet.specs.Page.{Levels, area, columns, lines, on_sheet}
use Rattle.sheet.proofs.FourCorners.{on_parts}
use Rattle.questions.specs.Means.{rounded_mean, mean_byte, MeanLaw}
use Rattle.questions.specs.Totals.{plain_total, TotalLaw}
use Rattle.questions.specs.Windows.{RuleLaw}
use Rattle.questions.proofs.Exactness.{area_within, on_sheet_bytes}

-- the mean of levels up to 255 is at most 255
mean_small : (total n : ℕ) → 0 < n → total ≤ n * 255 → rounded_mean total n ≤ 255
mean_small total n some le = let below : rounded_mean total n < 256 = div_below (total + n / 2) n 256 some (omega arith) in omega arith

sum_scaled : (f g : ℕ → ℕ) (m n : ℕ) → ((i : ℕ) → i < n → f i ≤ g i * m) → plain_sum f n ≤ plain_sum g n * m
sum_scaled f g m zero le = omega arith
sum_scaled f g m (suc n) le = omega (arith, add-mul (plain_sum g n) (g n) m, sum_scaled f g m n (λ i h. le i (omega arith)), le n (omega arith))

level_scaled : (b : Bool) (g : ℕ) → g < 256 → cond b g 0 ≤ cond b 1 0 * 255
level_scaled true g lt = omega arith
level_scaled false g lt = omega arith

window_small : (width height : ℕ) (p : Levels) → Bytes width height p → (w : Window) (x y : ℕ) → window_total (λ g. g) width height p w x y ≤ window_count width height w x y * 255
window_small width height p bytes w x y =
    let in_window : ℕ → ℕ → Bool = covers (window_offsets w) x y in
    sum_scaled _ (λ j. plain_sum (λ i. cond (in_window i j) 1 0) width) 255 height (λ j hj.
    sum_scaled _ (λ i. cond (in_window i j) 1 0) 255 width (λ i hi. level_scaled (in_window i j) (p i j) (bytes i j hi hj)))

pub mean_page_lem : WindowLaw whole whole_numbers → RuleLaw mean_byte (λ level total count. rounded_mean total count)
mean_page_lem windows = record {
  bytes = λ width height hw hh p memory holds bytes w x y hx hy.
      let total = window_total (λ g. g) width height p w x y in
      let count = window_count width height w x y in
      let small : rounded_mean total count ≤ 255 = mean_small total count (windows.some width height w x y hx hy) (window_small width height p bytes w x y) in
      let same : min (rounded_mean total count) 255 ≡ rounded_mean total count = omega arith in
      windows.bytes width height hw hh p memory holds bytes mean_byte w x y hx hy ∙ same;
}

area_some : (w h : ℕ) (r : Rectangle) → on_sheet w h r ≡ true → 0 < area r
area_some w h r on =
    let parts = on_parts w h r on in
    let least : 1 * 1 ≤ area r = mul-le 1 1 (columns r) (lines r) (omega arith) (omega arith) in
    omega arith

pub means : TotalLaw whole whole_numbers → MeanLaw
means totals = record {
  means = λ w h hw hh p memory holds bytes r.
      let b = on_sheet w h r in
      elim (cases_Bool b) [
        | inl on ↦
            let few : area r ≤ 16843009 = omega (arith, area_within w h hw hh r on) in
            ap (λ t. ensuring b 21 0 (accepted (rounded_mean t (area r)))) (totals.exact w h p memory holds bytes r on few)
        | inr off ↦ cond-false b _ _ off ∙ sym (cond-false b _ _ off)
      ];
  levels = λ w h p bytes r on. mean_small (plain_total whole_numbers p r) (area r) (area_some w h r on) (sum_bounded _ 255 (area r) (λ n hn. let lt = on_sheet_bytes w h p bytes r on n hn in omega arith));
}
