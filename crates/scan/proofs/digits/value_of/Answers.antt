use Rattle.std.proofs.Common.{arith}
use Rattle.scan.proofs.Decimal.{five_bytes}
use Rattle.scan.proofs.digits.value_of.Goals as goal

pub overflow_mul-number : goal.overflow_mul-number
overflow_mul-number c = omega (arith, five_bytes c.loop-d.d-index c.loop-d.number (omega arith) c.loop-d.invariant.1)
