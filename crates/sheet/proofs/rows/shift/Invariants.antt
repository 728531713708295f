use Rattle.std.proofs.Common.{◌≡◌, ℕ, ◌<◌, ◌≤◌}
use Rattle.sheet.specs.Table.{entry_at}
use Rattle.sheet.proofs.rows.shift.Given as goal

abbrev pub invariant-loop-entry : goal.invariant-loop-entry
invariant-loop-entry g l =
    let k = g.E.Entry in
    let row = l.initial.row in
    record {
      done : (i : ℕ) → i < l.entry-index → entry_at k l.row i ≡ k.joined (entry_at k row i) l.change;
      rest : (i : ℕ) → l.entry-index ≤ i → entry_at k l.row i ≡ entry_at k row i;
    }
