-- How many pixels a rectangle lists. Assumes nothing.
use Rattle.std.proofs.Common.{◌≡◌, ℕ, zero, suc, ◌+◌, ◌-◌, ◌*◌, ◌≤◌, Bool, true, false, cond, ◌&&◌, leb, ltb, List, [], ◌∷◌, length, refl, ap, ◌∙◌, suc-mul, add-mul, mul_comm, arith, length-append}
use Rattle.std.proofs.lemmas.Bool.{and_parts, cond-true, leb-true, ltb-true}
use Rattle.std.proofs.lemmas.Nat.{mul-le}
use Rattle.std.specs.Iterator.{Drains, Yields, YieldsFirst}
use Rattle.sheet.specs.declared.rectangle.Rectangle.{Rectangle}
use Rattle.sheet.specs.Page.{area, on_sheet}
use Rattle.beside.specs.Pixels.{row_of, rows_of, from_pixel, pixels_of}

row_length : (x y n : ℕ) → length (row_of x y n) ≡ n + 1
row_length x y zero = refl
row_length x y (suc n) = omega (arith, row_length (x + 1) y n)

rows_length : (left right y n : ℕ) → length (rows_of left right y n) ≡ n * (right - left + 1)
rows_length left right y zero = omega arith
rows_length left right y (suc n) =
    omega (arith, suc-mul n (right - left + 1), length-append (row_of left y (right - left)) (rows_of left right (y + 1) n), row_length left y (right - left), rows_length left right (y + 1) n)

-- the first row and the rows below it
from_length : (r : Rectangle) → length (from_pixel r r.left r.top) ≡ (r.bottom - r.top + 1) * (r.right - r.left + 1)
from_length r =
    omega (
      arith,
      suc-mul (r.bottom - r.top) (r.right - r.left + 1),
      length-append (row_of r.left r.top (r.right - r.left)) (rows_of r.left r.right (r.top + 1) (r.bottom - r.top)),
      row_length r.left r.top (r.right - r.left),
      rows_length r.left r.right (r.top + 1) (r.bottom - r.top),
      add-mul (r.bottom - r.top) 1 (r.right - r.left + 1),
    )

few_where : (test : Bool) (xs : List (ℕ × ℕ)) (n : ℕ) → length xs ≤ n → length (cond test xs []) ≤ n
few_where true xs n l = l
few_where false xs n l = omega arith

-- no more than a column and a row beyond a page of 8 by 8
pub few : (r : Rectangle) → r.right ≤ 8 → r.bottom ≤ 8 → length (pixels_of r) ≤ 81
few r a b =
    few_where (leb r.left r.right && leb r.top r.bottom) (from_pixel r r.left r.top) 81
    (omega (arith, from_length r, mul-le (r.bottom - r.top + 1) (r.right - r.left + 1) 9 9 (omega arith) (omega arith)))

module _ (w h : ℕ) (r : Rectangle) (on : on_sheet w h r ≡ true) where
  last : ((leb r.left r.right && leb r.top r.bottom && ltb r.right w) ≡ true) × (ltb r.bottom h ≡ true)
  last = and_parts (leb r.left r.right && leb r.top r.bottom && ltb r.right w) (ltb r.bottom h) on

  third : ((leb r.left r.right && leb r.top r.bottom) ≡ true) × (ltb r.right w ≡ true)
  third = and_parts (leb r.left r.right && leb r.top r.bottom) (ltb r.right w) last.0

  first : (leb r.left r.right ≡ true) × (leb r.top r.bottom ≡ true)
  first = and_parts (leb r.left r.right) (leb r.top r.bottom) third.0

  pub listed : length (pixels_of r) ≡ area r
  listed =
      let l = leb-true r.left r.right first.0 in
      let t = leb-true r.top r.bottom first.1 in
      let columns : r.right - r.left + 1 ≡ r.right + 1 - r.left = omega arith in
      let lines : r.bottom - r.top + 1 ≡ r.bottom + 1 - r.top = omega arith in
      ap length (cond-true (leb r.left r.right && leb r.top r.bottom) _ _ third.0) ∙ from_length r ∙ ap (λ n. n * (r.right - r.left + 1)) lines ∙ ap (λ n. (r.bottom + 1 - r.top) * n) columns
      ∙ mul_comm (r.bottom + 1 - r.top) (r.right + 1 - r.left)

  pub on_page : w ≤ 8 → h ≤ 8 → length (pixels_of r) ≤ 81
  on_page a b =
      let x = ltb-true r.right w third.1 in
      let y = ltb-true r.bottom h last.1 in
      few r (omega arith) (omega arith)

-- an iterator that is drained gave what was left
module _ {S A : Type 0} (rest : S → List A) where
  yields_length : (xs : List A) (s t : S) → Yields (YieldsFirst rest) s xs t → length (rest s) ≡ length xs + length (rest t)
  yields_length [] s t y = ap (λ u. length (rest u)) y ∙ omega arith
  yields_length (x ∷ xs) s t y = omega (arith, ap length y.1, yields_length xs y.0 t y.2)

  pub drained_length : (xs : List A) (s : S) → Drains (YieldsFirst rest) s xs → length (rest s) ≡ length xs
  drained_length xs s d = omega (arith, yields_length xs s d.1.0 d.1.1, ap length d.1.2.0)
