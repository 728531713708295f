use Rattle.std.proofs.Common.{◌≡◌, ◌^◌, ◌<◌, take}
use Rattle.scan.specs.Reading.{value}
use Rattle.scan.proofs.digits.value_of.Given as goal

abbrev pub invariant-loop-d : goal.invariant-loop-d
invariant-loop-d l = (l.number ≡ value (take l.d-index l.digits)) × (l.number < 256 ^ l.d-index)
