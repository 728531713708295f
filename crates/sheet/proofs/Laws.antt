-- The laws of a kind as its `impl` owes them, put together; as one law of the trait, lemmas over a group would no longer find its kind (tried). Assumes nothing.
use Rattle.std.proofs.Common.{◌≡◌}
use Rattle.entry.specs.Group.{Group}
use Rattle.entry.specs.declared.kind.entry.Entry.{Ghosts}

module _ {E : Type 0} (k : Ghosts E) where
  pub group : ((x y z : E) → k.joined (k.joined x y) z ≡ k.joined x (k.joined y z)) → ((x y : E) → k.joined x y ≡ k.joined y x) → ((x : E) → k.joined x k.neutral ≡ x) → ((x : E) → k.joined x (k.inverted x) ≡ k.neutral) → Group k
  group a c i n = record { associative = a; commutative = c; identity = i; inverses = n }
