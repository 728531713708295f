use Rattle.std.proofs.Common.{◌-◌, ap, ◌∙◌, arith}
use Rattle.entry.specs.Kinds.{whole}
use Rattle.entry.specs.Numbers.{whole_numbers}
use Rattle.questions.specs.Totals.{total_answer}
use Rattle.sheet.specs.View.{width_of, height_of, entries_of}
use Rattle.plots.proofs.Totals.{surveyed}
use Rattle.plots.proofs.survey.survey.Goals as goal

pub returns : goal.returns
returns c =
    let t = c.in_ok-table.table in
    let asked = total_answer whole whole_numbers (width_of t) (height_of t) (entries_of t) in
    surveyed c.args.width c.args.height _ c.in_ok-lay_page.field-0 c.args.levels.now c.args.memory.now c.lay_page.new.memory (entries_of t) (width_of t) (height_of t) _
    c.in_ok-lay_page.ensures.answer c.in_ok-lay_page.ensures.effect c.in_ok-table.ensures c.total.ensures.law (λ i. omega (arith, c.type_inv.levels i))
    (c.total.ensures.answer
    ∙ ap (λ right. asked (record { left = 0; top = 0; right = right; bottom = c.saturating_sub-2.result })) c.saturating_sub.ensures
    ∙ ap (λ bottom. asked (record { left = 0; top = 0; right = c.args.width - 1; bottom = bottom })) c.saturating_sub-2.ensures)
