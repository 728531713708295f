use Rattle.std.proofs.Common.{◌≡◌, ℕ, ◌+◌, ◌<◌}
use Rattle.sheet.specs.Fill.{level_at}
use Rattle.sheet.specs.Table.{entry_at, prefix_from}
use Rattle.sheet.proofs.rows.accumulate.Given as goal

abbrev pub invariant-loop-x : goal.invariant-loop-x
invariant-loop-x g l =
    let k = g.E.Entry in
    let sums = prefix_from k l.fn.start (λ n. k.lifted (level_at l.fill (l.first + n))) in
    record {
      sum : l.sum ≡ sums l.x;
      done : (i : ℕ) → i < l.x → entry_at k l.row i ≡ k.joined (entry_at k l.above i) (sums (i + 1));
    }
