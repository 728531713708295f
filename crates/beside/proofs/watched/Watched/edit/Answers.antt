use Rattle.std.proofs.Common.{◌≤◌, length, ap, inl, arith}
use Rattle.beside.specs.Pixels.{pixels_of}
use Rattle.beside.proofs.Counting.{few}
use Rattle.beside.proofs.watched.Watched.edit.Goals as goal

pub count-requires-clause-fits : goal.count-requires-clause-fits
count-requires-clause-fits g c =
    let few_pixels : length (pixels_of c.rectangle-rect.result) ≤ 81 = few c.rectangle-rect.result (omega arith) (omega arith) in
    inl (omega (arith, ap length c.of.ensures, few_pixels))

pub overflow_add-count : goal.overflow_add-count
overflow_add-count g c =
    let few_pixels : length (pixels_of c.rectangle-rect.result) ≤ 81 = few c.rectangle-rect.result (omega arith) (omega arith) in
    omega (arith, ap length c.of.ensures, few_pixels, c.count.ensures.bound)
