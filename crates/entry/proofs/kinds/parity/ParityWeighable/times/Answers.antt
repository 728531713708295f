use Rattle.std.proofs.Common.{◌∙◌, arith}
use Rattle.entry.specs.Xor.{taken_even, taken_odd}
use Rattle.entry.proofs.kinds.parity.ParityWeighable.times.Goals as goal

pub returns-then-cast_unsigned-eq0 : goal.returns-then-cast_unsigned-eq0
returns-then-cast_unsigned-eq0 c = c.zero.ensures ∙ taken_even c.args.w c.args.self _ c.ranges.w c.cast_unsigned.ensures c.if-cast_unsigned-eq0.true

pub returns-else-cast_unsigned-eq0 : goal.returns-else-cast_unsigned-eq0
returns-else-cast_unsigned-eq0 c = taken_odd c.args.w c.args.self c.cast_unsigned.result c.ranges.w c.cast_unsigned.ensures (omega arith)
