-- Entries joined one by one, numbers added one by one. Assumes nothing.
use Rattle.std.specs.Prelude.{ℕ, zero, suc, ◌+◌, ◌-◌, ◌/◌, ◌^◌}
use Rattle.entry.specs.declared.kind.entry.Entry.{Ghosts}

-- f 0, f 1, .. f (n - 1) joined, from the identity on
abbrev pub prefix : {E : Type 0} → Ghosts E → (ℕ → E) → ℕ → E
prefix k f zero = k.neutral
prefix k f (suc n) = k.joined (prefix k f n) (f n)

-- f 0 + f 1 + .. + f (n - 1)
abbrev pub plain_sum : (ℕ → ℕ) → ℕ → ℕ
plain_sum f zero = 0
plain_sum f (suc n) = plain_sum f n + f n

-- how many numbers of at most m have a sum below 2 ^ k, whatever they are
abbrev pub limit_of : (k m : ℕ) → ℕ
limit_of k m = (2 ^ k - 1) / m
