use Rattle.std.proofs.Common.{arith}
use Rattle.filters.proofs.MiddlePage.{with_table}
use Rattle.filters.proofs.two_steps.draw_two_steps.Goals as goal

pub returns : goal.returns
returns c =
    let t = c.args.table.now in
    let m = c.in_ok-middle.middle in
    with_table c.args.first c.args.second t.frame.width t.frame.height t.entries.now c.args.element.now c.args.between.now c.args.page.now c.draw_step.new.page c.in_ok-n.n (omega arith) c.in_ok-n.ensures
    c.lay_page.new.memory c.in_ok-lay_page.ensures.effect c.draw_step-2.new.page (omega arith) m.entries.now m.frame.width m.frame.height c.in_ok-middle.ensures c.draw_step-2.result c.draw_step-2.ensures
