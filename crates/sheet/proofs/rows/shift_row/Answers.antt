use Rattle.std.proofs.Common.{◌-◌, refl, ◌∙◌, arith}
use Rattle.sheet.proofs.Parts.{joined_at, part_long, in_part, row_part}
use Rattle.sheet.proofs.rows.shift_row.Goals as goal

pub returns : goal.returns
returns g c =
    let k = g.E.Entry in
    let s = c.args.stride in
    let y = c.args.y in
    let left = c.args.left in
    let e = c.split_at_mut-lower.ensures in
    let long = part_long k s y _ _ _ e.value e.front_len left s (omega arith) (omega arith) (omega arith) in
    row_part k s y _ _ _ e.value e.front_len left s c.shift.new.row _ (omega arith) (omega arith) (omega arith) (c.shift.auto.row ∙ long)
    (λ i lt. joined_at k (c.shift.ensures i (omega arith)) (in_part k s y _ _ _ e.value e.front_len left (s - left) i lt) refl)
