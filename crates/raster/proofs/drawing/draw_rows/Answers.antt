use Rattle.std.proofs.Common.{◌≡◌, ◌+◌, ◌-◌, ◌*◌, ◌≤◌, length, drop, ◌∙◌, mul-le-mul_right, mul_comm, arith, length-drop}
use Rattle.std.proofs.lemmas.List.{length-take-le}
use Rattle.raster.proofs.Pages.{row_more}
use Rattle.raster.proofs.drawing.draw_rows.Goals as goal

pub loop-y-preserved : goal.loop-y-preserved
loop-y-preserved g c =
    let w = c.args.width in
    let h = c.args.height in
    let y = c.loop-y.y in
    let page = c.loop-y.page in
    let n = y * w + w - y * w in
    let rows : (y + 1) * w ≤ h * w = mul-le-mul_right w (omega arith) in
    let room : y * w + w ≤ length page = omega (arith, rows, mul_comm w h) in
    let long : length c.draw_row.new.row ≡ n = c.draw_row.auto.row ∙ length-take-le n (drop (y * w) page) (omega (arith, length-drop (y * w) page)) in
    row_more (goal.F-post g c.args.value.now) w y n c.args.page.now page c.draw_row.new.row (omega arith) long room (λ x lt. c.draw_row.ensures x (omega (arith, long, c.draw_row.auto.row))) c.loop-y.invariant
