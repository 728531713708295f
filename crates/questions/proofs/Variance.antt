-- Spreads are exact and not negative. Assumes nothing.
use Rattle.std.proofs.Common.{◌≡◌, ℕ, zero, suc, ◌+◌, ◌-◌, ◌*◌, ◌/◌, ◌%◌, ◌≤◌, true, List, sym, refl, ap, ◌∙◌, subst, inl, inr, suc-mul, mul_comm, add-mul, mul-zero, mul-add, arith}
use Rattle.std.proofs.lemmas.Nat.{mul-le}
use Rattle.std.proofs.lemmas.Bool.{cases_Bool, cases_lt, cond-false}
use Rattle.entry.specs.Exactness.{Exact}
use Rattle.entry.specs.Kinds.{Energy, Whole, whole, energy, pair}
use Rattle.entry.specs.Numbers.{whole_numbers, energy_numbers}
use Rattle.entry.specs.Sums.{plain_sum, prefix}
use Rattle.entry.specs.declared.kind.entry.Entry.{Ghosts}
use Rattle.entry.specs.declared.kinds.pair.Pair.{Pair}
use Rattle.entry.proofs.ModularSums.{sum_bounded}
use Rattle.raster.specs.Region.{Bytes}
use Rattle.refusal.specs.Answers.{accepted, ensuring}
use Rattle.sheet.specs.declared.rectangle.Rectangle.{Rectangle}
use Rattle.sheet.specs.Page.{Levels, area, columns, on_sheet}
use Rattle.sheet.specs.Sheet.{Holds, SumLaw, four_corners}
use Rattle.questions.specs.Spreads.{spread_of, SpreadLaw}
use Rattle.questions.specs.Totals.{plain_total}
use Rattle.questions.proofs.Exactness.{area_within, on_sheet_bytes}

-- twice a product is no more than the two squares
product_le : (g d : ℕ) → 2 * (g * (g + d)) ≤ g * g + (g + d) * (g + d)
product_le g d = omega (arith, mul-add g g d, add-mul g d (g + d), mul-add d g d, mul_comm d g)

twice_product : (g x : ℕ) → 2 * (g * x) ≤ g * g + x * x
twice_product g x = elim (cases_lt g x) [
  | inl lt ↦ let e : g + (x - g) ≡ x = omega arith in subst (λ m. 2 * (g * m) ≤ g * g + m * m) e (product_le g (x - g))
  | inr ge ↦ let e : x + (g - x) ≡ g = omega arith in let le = subst (λ m. 2 * (x * m) ≤ x * x + m * m) e (product_le x (g - x)) in omega (arith, le, mul_comm g x)
]

module _ (f : ℕ → ℕ) where
  cross : (g n : ℕ) → 2 * (g * plain_sum f n) ≤ plain_sum (λ i. f i * f i) n + n * (g * g)
  cross g zero = omega (arith, mul-zero g)
  cross g (suc n) = omega (arith, mul-add g (plain_sum f n) (f n), suc-mul n (g * g), cross g n, twice_product g (f n))

  -- the square of a sum is no more than the number of its parts times the sum of their squares
  square_of_sum : (n : ℕ) → plain_sum f n * plain_sum f n ≤ n * plain_sum (λ i. f i * f i) n
  square_of_sum zero = omega arith
  square_of_sum (suc n) =
      let s = plain_sum f n in
      let q = plain_sum (λ i. f i * f i) n in
      let x = f n in
      omega (arith, add-mul s x (s + x), mul-add s s x, mul-add x s x, mul_comm s x, suc-mul n (q + x * x), mul-add n q (x * x), square_of_sum n, cross x n)

-- a pair is joined part by part
module _ {A B : Type 0} (a : Ghosts A) (b : Ghosts B) (f : ℕ → Pair A B) where
  first_parts : (n : ℕ) → (prefix (pair a b) f n).first ≡ prefix a (λ i. (f i).first) n
  first_parts zero = refl
  first_parts (suc n) = ap (λ v. a.joined v (f n).first) (first_parts n)

  second_parts : (n : ℕ) → (prefix (pair a b) f n).second ≡ prefix b (λ i. (f i).second) n
  second_parts zero = refl
  second_parts (suc n) = ap (λ v. b.joined v (f n).second) (second_parts n)

module _ (wholes : Exact whole whole_numbers) (energies : Exact energy energy_numbers) (sums : SumLaw (pair whole energy)) where
  spread_exact : (w h : ℕ) → w ≤ 4096 → h ≤ 4096 → (p : Levels) (memory : List (Pair Whole Energy)) → Holds (pair whole energy) w h h p memory → Bytes w h p → (r : Rectangle) → on_sheet w h r ≡ true →
      spread_of (area r) (energy_numbers.number (four_corners (pair whole energy) w memory r).second) (whole_numbers.number (four_corners (pair whole energy) w memory r).first) ≡ area r * plain_total energy_numbers p r - plain_total whole_numbers p r * plain_total whole_numbers p r
  spread_exact w h hw hh p memory holds bytes r on =
      let n = area r in
      let level : ℕ → ℕ = λ i. p (r.left + i % columns r) (r.top + i / columns r) in
      let lifted : ℕ → Pair Whole Energy = λ i. (pair whole energy).lifted (level i) in
      let read = sums.reads w h p memory holds r on in
      let each = on_sheet_bytes w h p bytes r on in
      let few = area_within w h hw hh r on in
      let total : whole_numbers.number (four_corners (pair whole energy) w memory r).first ≡ plain_total whole_numbers p r =
      ap (λ v. whole_numbers.number v.first) read ∙ ap whole_numbers.number (first_parts whole energy lifted n) ∙ wholes.exact level n each (wholes.fits level n each (omega arith)) in
      let squares : energy_numbers.number (four_corners (pair whole energy) w memory r).second ≡ plain_total energy_numbers p r =
      ap (λ v. energy_numbers.number v.second) read ∙ ap energy_numbers.number (second_parts whole energy lifted n) ∙ energies.exact level n each (energies.fits level n each (omega arith)) in
      let most : plain_total energy_numbers p r ≤ n * 65025 = sum_bounded (λ i. level i * level i) 65025 n (λ i hi. energies.bounded (level i) (each i hi)) in
      let top : n * plain_total energy_numbers p r ≤ 16777216 * (16777216 * 65025) = mul-le n (plain_total energy_numbers p r) 16777216 (16777216 * 65025) few (omega arith) in
      let small : spread_of n (plain_total energy_numbers p r) (plain_total whole_numbers p r) ≡ n * plain_total energy_numbers p r - plain_total whole_numbers p r * plain_total whole_numbers p r = omega arith in
      ap (λ q. spread_of n q (whole_numbers.number (four_corners (pair whole energy) w memory r).first)) squares ∙ ap (spread_of n (plain_total energy_numbers p r)) total ∙ small

  pub spread_law_lem : SpreadLaw
  spread_law_lem = record {
    spreads = λ w h hw hh p memory holds bytes r.
        let b = on_sheet w h r in
        elim (cases_Bool b) [
          | inl on ↦ ap (λ v. ensuring b 21 0 (accepted v)) (spread_exact w h hw hh p memory holds bytes r on)
          | inr off ↦ cond-false b _ _ off ∙ sym (cond-false b _ _ off)
        ];
    positive = λ p r. square_of_sum (λ i. p (r.left + i % columns r) (r.top + i / columns r)) (area r);
  }
