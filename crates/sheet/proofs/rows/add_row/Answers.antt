use Rattle.std.proofs.Common.{◌-◌, ap, ◌∙◌, arith}
use Rattle.sheet.specs.Table.{signed}
use Rattle.sheet.proofs.Parts.{joined_at, part_long, in_part, above_part, row_part}
use Rattle.sheet.proofs.rows.add_row.Goals as goal

pub returns : goal.returns
returns g c =
    let k = g.E.Entry in
    let s = c.args.stride in
    let y = c.args.y in
    let left = c.args.left in
    let e = c.split_at_mut-upper.ensures in
    let long = part_long k s y _ _ _ e.value e.front_len left s (omega arith) (omega arith) (omega arith) in
    row_part k s y _ _ _ e.value e.front_len left s c.add.new.row _ (omega arith) (omega arith) (omega arith) (c.add.auto.row ∙ long)
    (λ i lt.
    let here = in_part k s y _ _ _ e.value e.front_len left (s - left) i lt in
    let other = above_part k s y _ _ _ e.value e.front_len c.args.base left i (omega arith) lt in
    joined_at k (c.add.ensures i (omega arith)) here (ap (signed k c.args.sign) other))
