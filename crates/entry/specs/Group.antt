-- The laws of a kind of entry: it is a commutative group. Assumes nothing.
use Rattle.std.specs.Prelude.{◌≡◌}
use Rattle.entry.specs.declared.kind.entry.Entry.{Ghosts}

pub record Group {E : Type 0} (k : Ghosts E) : Type 0 where
  pub associative : (x y z : E) → k.joined (k.joined x y) z ≡ k.joined x (k.joined y z)
  pub commutative : (x y : E) → k.joined x y ≡ k.joined y x
  pub identity : (x : E) → k.joined x k.neutral ≡ x
  pub inverses : (x : E) → k.joined x (k.inverted x) ≡ k.neutral
