use Rattle.std.proofs.Common.{◌≡◌, ◌-◌, length, drop, ◌∙◌, arith, length-drop}
use Rattle.std.proofs.lemmas.List.{length-take-le}
use Rattle.raster.proofs.Pages.{laid_part}
use Rattle.questions.specs.Laterals.{strip_count, strip_total}
use Rattle.sheet.specs.View.{of_table}
use Rattle.questions.proofs.laterals.lay_totals.Goals as goal

pub returns : goal.returns
returns g c =
    let old = c.args.totals.now in
    let part = c.total_strips.new.totals in
    let n = strip_count c.args.stripped.strips c.args.stripped.rect in
    let m = c.count-count.result - 0 in
    let same : m ≡ n = omega (arith, c.count-count.ensures.count) in
    let long : length part ≡ m = c.total_strips.auto.totals ∙ length-take-le m (drop 0 old) (omega (arith, length-drop 0 old, same)) in
    laid_part (of_table c.args.table.now (strip_total g.T.Entry g.T.Modular) c.args.stripped.strips c.args.stripped.rect) n old m part same long (omega arith) (λ i lt. c.total_strips.ensures i (omega (arith, long, same, c.total_strips.auto.totals)))
