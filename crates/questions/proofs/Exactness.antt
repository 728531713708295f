-- Totals are exact up to the limit of their words. Assumes nothing.
use Rattle.std.proofs.Common.{◌≡◌, ℕ, ◌+◌, ◌*◌, ◌/◌, ◌%◌, ◌<◌, ◌≤◌, true, leb, List, sym, ap, ◌∙◌, inl, inr, mod-lt, mul_comm, arith}
use Rattle.std.proofs.lemmas.Nat.{div_below, mul-le}
use Rattle.std.proofs.lemmas.Bool.{cases_Bool, cond-false, cond-true, leb-true, le-leb}
use Rattle.entry.specs.Exactness.{Exact}
use Rattle.entry.specs.Group.{Group}
use Rattle.entry.specs.Sums.{limit_of}
use Rattle.entry.specs.declared.kind.entry.Entry as entry
use Rattle.entry.specs.declared.kind.modular.Modular as modular
use Rattle.refusal.specs.Answers.{accepted, ensuring}
use Rattle.raster.specs.Region.{Bytes}
use Rattle.sheet.specs.declared.rectangle.Rectangle.{Rectangle}
use Rattle.sheet.specs.Page.{Levels, area, columns, lines, on_sheet}
use Rattle.sheet.specs.Sheet.{Holds, four_corners}
use Rattle.sheet.proofs.FourCorners.{on_parts, sums_read}
use Rattle.questions.specs.Totals.{within_limit, total_answer, plain_total, TotalLaw}

-- pixel n of a rectangle, counted row after row
module _ (w h : ℕ) (p : Levels) (bytes : Bytes w h p) (r : Rectangle) where
  pub on_sheet_bytes : on_sheet w h r ≡ true → (n : ℕ) → n < area r → p (r.left + n % columns r) (r.top + n / columns r) < 256
  on_sheet_bytes is n lt =
      let on = on_parts w h r is in
      let column : n % columns r < columns r = mod-lt n (omega arith) in
      let line : n / columns r < lines r = div_below n (columns r) (lines r) (omega arith) (omega (arith, mul_comm (columns r) (lines r))) in
      bytes (r.left + n % columns r) (r.top + n / columns r) (omega arith) (omega arith)

pub area_within : (w h : ℕ) → w ≤ 4096 → h ≤ 4096 → (r : Rectangle) → on_sheet w h r ≡ true → area r ≤ 4096 * 4096
area_within w h hw hh r on = let parts = on_parts w h r on in mul-le (columns r) (lines r) 4096 4096 (omega arith) (omega arith)

module _ {E : Type 0} {k : entry.Ghosts E} {m : modular.Ghosts E} (laws : Group k) (exact : Exact k m) (w h : ℕ) (p : Levels) (memory : List E) (holds : Holds k w h h p memory) (bytes : Bytes w h p) (r : Rectangle) where
  pub total_exact : on_sheet w h r ≡ true → area r ≤ limit_of m.bits m.most → m.number (four_corners k w memory r) ≡ plain_total m p r
  total_exact on few =
      let each = on_sheet_bytes w h p bytes r on in
      ap m.number (sums_read laws w h p memory holds r on) ∙ exact.exact (λ n. p (r.left + n % columns r) (r.top + n / columns r)) (area r) each (exact.fits (λ n. p (r.left + n % columns r) (r.top + n / columns r)) (area r) each few)

  pub total_is_plain : total_answer k m w h memory r ≡ within_limit m w h r (plain_total m p r)
  total_is_plain =
      let b = on_sheet w h r in
      let few = leb (area r) (limit_of m.bits m.most) in
      elim (cases_Bool b) [
        | inr off ↦ cond-false b _ _ off ∙ sym (cond-false b _ _ off)
        | inl on ↦ elim (cases_Bool few) [
          | inl le ↦ ap (within_limit m w h r) (total_exact on (leb-true (area r) (limit_of m.bits m.most) le))
          | inr gt ↦ ap (ensuring b 21 0) (cond-false few _ _ gt ∙ sym (cond-false few _ _ gt))
        ]
      ]

unlimited : {E : Type 0} (k : entry.Ghosts E) (m : modular.Ghosts E) → 4096 * 4096 ≤ limit_of m.bits m.most → (w h : ℕ) → w ≤ 4096 → h ≤ 4096 → (memory : List E) (r : Rectangle) → total_answer k m w h memory r ≡ ensuring (on_sheet w h r) 21 0 (accepted (m.number (four_corners k w memory r)))
unlimited k m wide w h hw hh memory r =
    let b = on_sheet w h r in
    elim (cases_Bool b) [
      | inr off ↦ cond-false b _ _ off ∙ sym (cond-false b _ _ off)
      | inl on ↦ ap (ensuring b 21 0) (cond-true (leb (area r) (limit_of m.bits m.most)) _ _ (le-leb (area r) (limit_of m.bits m.most) (omega (arith, area_within w h hw hh r on))))
    ]

pub total_law : {E : Type 0} {k : entry.Ghosts E} {m : modular.Ghosts E} → Group k → Exact k m → TotalLaw k m
total_law {k = k} {m = m} laws exact = record { exact = λ w h p memory holds bytes r. total_exact laws exact w h p memory holds bytes r; totals = λ w h p memory holds bytes r. total_is_plain laws exact w h p memory holds bytes r; unlimited = unlimited k m }
