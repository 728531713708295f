use Rattle.std.proofs.Common.{◌≡◌, ℕ, ◌<◌, ◌≤◌}
use Rattle.sheet.specs.Table.{entry_at, signed}
use Rattle.sheet.proofs.rows.add.Given as goal

abbrev pub invariant-loop-x : goal.invariant-loop-x
invariant-loop-x g l =
    let k = g.E.Entry in
    let row = l.initial.row in
    record {
      done : (i : ℕ) → i < l.x → entry_at k l.row i ≡ k.joined (entry_at k row i) (signed k l.sign (entry_at k l.other i));
      rest : (i : ℕ) → l.x ≤ i → entry_at k l.row i ≡ entry_at k row i;
    }
