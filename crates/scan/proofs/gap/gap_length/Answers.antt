use Rattle.std.proofs.Common.{arith}
use Rattle.scan.proofs.GapSteps.{gap_goes_on, gap_stops, gap_ends}
use Rattle.scan.proofs.gap.gap_length.Goals as goal

pub loop-i-preserved : goal.loop-i-preserved
loop-i-preserved c =
    omega (arith, c.loop-i.invariant, gap_goes_on c.args.bytes.now c.loop-i.i c.loop-i.state c.in-Some.next c.loop-i-test.true c.in-Some.ensures)

pub returns-in-None : goal.returns-in-None
returns-in-None c =
    record { count = omega (arith, c.loop-i.invariant, gap_stops c.args.bytes.now c.loop-i.i c.loop-i.state c.loop-i-test.true c.in-None.ensures); within = omega arith }

pub returns : goal.returns
returns c =
    record { count = omega (arith, c.loop-i.invariant, gap_ends c.args.bytes.now c.loop-i.i c.loop-i.state c.loop-i-test.false); within = omega arith }
