use Rattle.std.proofs.Common.{◌≡◌, ℕ, ◌+◌, ◌-◌, ap, ◌∙◌, arith}
use Rattle.sheet.specs.Fill.{level_at}
use Rattle.sheet.specs.Table.{cell, less, prefix_from}
use Rattle.sheet.proofs.Parts.{joined_at, part_long, above_part, row_part}
use Rattle.sheet.proofs.rows.rewrite_columns.Goals as goal

pub returns : goal.returns
returns g c =
    let k = g.E.Entry in
    let s = c.args.stride in
    let t = c.args.table.now in
    let y = c.args.y in
    let a = c.args.columns.start in
    let e = c.split_at_mut-upper.ensures in
    let long = part_long k s (y + 1) _ _ _ e.value e.front_len (a + 1) (c.args.columns.end + 1) (omega arith) (omega arith) (omega arith) in
    let h = λ (n : ℕ). k.lifted (level_at c.args.fill (c.args.first + n)) in
    let start : c.join-start.result ≡ less k (cell k s t a (y + 1)) (cell k s t a y) = cc in
    row_part k s (y + 1) _ _ _ e.value e.front_len (a + 1) (c.args.columns.end + 1) c.accumulate.new.row _ (omega arith) (omega arith) (omega arith) (c.accumulate.auto.row ∙ long)
    (λ i lt.
    let at : i + 1 ≡ a + 1 + i - a = omega arith in
    joined_at k (c.accumulate.ensures i (omega arith)) (above_part k s (y + 1) _ _ _ e.value e.front_len y (a + 1) i (omega arith) (omega arith)) (ap (λ v. prefix_from k v h (i + 1)) start ∙ ap (prefix_from k (less k (cell k s t a (y + 1)) (cell k s t a y)) h) at))
