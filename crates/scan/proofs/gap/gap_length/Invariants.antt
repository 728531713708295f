use Rattle.std.proofs.Common.{◌≡◌, ◌+◌, drop}
use Rattle.scan.specs.Reading.{gap_length}
use Rattle.scan.specs.declared.gap.GapState.TheVariants.{Start}
use Rattle.scan.proofs.gap.gap_length.Given as goal

abbrev pub invariant-loop-i : goal.invariant-loop-i
invariant-loop-i l = l.i + gap_length l.state (drop l.i l.bytes) ≡ gap_length Start l.bytes
