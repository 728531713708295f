-- Sums of rectangles on the table of any levels. Assumes nothing.
use Rattle.std.proofs.Common.{◌≡◌, ℕ, ◌+◌, ◌<◌, ◌≤◌, true, ◌&&◌, ltb, leb, List, sym, ap, ◌∙◌, inl, inr, arith}
use Rattle.std.proofs.lemmas.Bool.{and_parts, cases_Bool, cond-false, leb-true, ltb-true}
use Rattle.entry.specs.Group.{Group}
use Rattle.entry.specs.declared.kind.entry.Entry.{Ghosts}
use Rattle.refusal.specs.Answers.{accepted, ensuring}
use Rattle.sheet.specs.declared.rectangle.Rectangle.{Rectangle}
use Rattle.sheet.specs.Page.{Levels, on_sheet, columns, lines}
use Rattle.sheet.specs.Sheet.{Holds, corners, four_corners, sum_answer, reading, level_sum, SumLaw}
use Rattle.sheet.specs.Table.{cell, corner_sum}
use Rattle.sheet.proofs.Prefixes.{four_corners_lem}

module _ {E : Type 0} {k : Ghosts E} (w h : ℕ) (p : Levels) (memory : List E) (holds : Holds k w h h p memory) where
  -- corners of the table are sums of levels
  pub corners_read : (a b c d : ℕ) → a ≤ b → b ≤ w → c ≤ d → d ≤ h → 0 < h → corners k (cell k (w + 1) memory) a b c d ≡ corners k (corner_sum k (λ x y. k.lifted (p x y))) a b c d
  corners_read a b c d ab bw cd dh some =
      let has = (holds some).entry in
      let c1 = has b d (omega arith) (omega arith) in
      let c2 = has a d (omega arith) (omega arith) in
      let c3 = has b c (omega arith) (omega arith) in
      let c4 = has a c (omega arith) (omega arith) in
      cc

-- a rectangle on the sheet, by its sides
pub on_parts : (w h : ℕ) (r : Rectangle) → on_sheet w h r ≡ true → (r.left ≤ r.right) × (r.top ≤ r.bottom) × (r.right < w) × (r.bottom < h)
on_parts w h r is =
    let a = and_parts (leb r.left r.right && leb r.top r.bottom && ltb r.right w) (ltb r.bottom h) is in
    let b = and_parts (leb r.left r.right && leb r.top r.bottom) (ltb r.right w) a.0 in
    let d = and_parts (leb r.left r.right) (leb r.top r.bottom) b.0 in
    (leb-true r.left r.right d.0, leb-true r.top r.bottom d.1, ltb-true r.right w b.1, ltb-true r.bottom h a.1)

-- sums on the table of any levels
module _ {E : Type 0} {k : Ghosts E} (laws : Group k) (w h : ℕ) (p : Levels) (memory : List E) (holds : Holds k w h h p memory) (r : Rectangle) where
  pub sums_read : on_sheet w h r ≡ true → four_corners k w memory r ≡ reading k p r
  sums_read is =
      let on = on_parts w h r is in
      let e : ℕ → ℕ → E = λ x y. k.lifted (p x y) in
      let right : r.right + 1 ≡ r.left + columns r = omega arith in
      let bottom : r.bottom + 1 ≡ r.top + lines r = omega arith in
      corners_read w h p memory holds r.left (r.right + 1) r.top (r.bottom + 1) (omega arith) (omega arith) (omega arith) (omega arith) (omega arith)
      ∙ ap (λ n. corners k (corner_sum k e) r.left n r.top (r.bottom + 1)) right
      ∙ ap (corners k (corner_sum k e) r.left (r.left + columns r) r.top) bottom
      ∙ four_corners_lem laws e r.left r.top (columns r) (lines r) (omega arith)

  pub sums_answered : sum_answer k w h memory r ≡ level_sum k w h p r
  sums_answered =
      let b = on_sheet w h r in
      elim (cases_Bool b) [
        | inl on ↦ ap (λ v. ensuring b 21 0 (accepted v)) (sums_read on)
        | inr off ↦ cond-false b _ _ off ∙ sym (cond-false b _ _ off)
      ]

pub sum_law_lem : {E : Type 0} {k : Ghosts E} → Group k → SumLaw k
sum_law_lem laws = record { reads = λ w h p memory holds r. sums_read laws w h p memory holds r; sums = λ w h p memory holds r. sums_answered laws w h p memory holds r }
