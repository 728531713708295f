use Rattle.std.proofs.Common.{◌≡◌, ℕ, ◌+◌, ◌-◌, ◌*◌, ◌<◌, ◌≤◌, sym, ap, ◌∙◌, arith}
use Rattle.sheet.specs.Fill.{level_at}
use Rattle.sheet.specs.declared.fill.Fill.TheVariants.{Each}
use Rattle.sheet.specs.Page.{with_row}
use Rattle.sheet.proofs.Calls.{laid_renewed, row_above, row_here}
use Rattle.sheet.proofs.Laws.{group}
use Rattle.sheet.proofs.RowSteps.{rewritten_same}
use Rattle.sheet.proofs.whole.lay_next.Goals as goal

pub returns : goal.returns
returns g c =
    let k = g.E.Entry in
    let met = g.met.E.Entry in
    let laws = group k met.associative met.commutative met.identity met.inverses in
    let w = c.args.frame.width in
    let y = c.args.y in
    let row = c.args.row.now in
    let fill = Each c.args.row in
    -- the levels of one row are numbered from 0
    let number : (n j : ℕ) → y ≤ j → j < y + 1 → 0 + (0 + n - 0) ≡ (j - y) * (w - 0) + (0 + n - 0) = λ n j lo up.
    let first : j - y ≡ 0 = omega arith in
    let none : 0 * (w - 0) + (0 + n - 0) ≡ 0 + (0 + n - 0) = omega arith in
    sym (ap (λ (m : ℕ). m * (w - 0) + (0 + n - 0)) first ∙ none) in
    let one = rewritten_same k (w + 1) c.args.table.now 0 w y (y + 1) _ _ _ (λ n j lo up. ap (λ (m : ℕ). k.lifted (level_at fill m)) (number n j lo up)) c.rewrite_row.ensures in
    laid_renewed laws w c.args.frame.height y (y + 1) fill _ _ (omega arith) (omega arith) (record { rows = one }) (with_row y row) (row_above y row) (row_here w y row)
