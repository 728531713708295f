use Rattle.std.proofs.Common.{◌≡◌, ℕ, ◌+◌, ◌-◌, ap, arith}
use Rattle.sheet.specs.Fill.{level_at}
use Rattle.sheet.specs.Table.{cell, less}
use Rattle.sheet.proofs.RowSteps.{row_rewritten}
use Rattle.sheet.proofs.rows.rewrite_row.Goals as goal

pub returns : goal.returns
returns g c =
    let k = g.E.Entry in
    let s = c.args.stride in
    let y = c.args.y in
    let left = c.args.columns.start in
    let right = c.args.columns.end in
    let change : c.join.result ≡ less k (cell k s c.rewrite_columns.new.table right (y + 1)) (cell k s c.args.table.now right (y + 1)) = cc in
    row_rewritten k s y left right c.args.table.now c.rewrite_columns.new.table c.shift_row.new.table _ _ _ (omega arith) (omega arith)
    c.rewrite_columns.ensures change c.shift_row.ensures
    (λ n. let e : n ≡ left + n - left = omega arith in ap (λ (m : ℕ). k.lifted (level_at c.args.fill (c.args.first + m))) e)
