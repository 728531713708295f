-- When the number of a joined entry is the plain sum. Assumes nothing.
use Rattle.std.specs.Prelude.{◌≡◌, ℕ, ◌%◌, ◌^◌, ◌<◌, ◌≤◌}
use Rattle.entry.specs.Sums.{prefix, plain_sum, limit_of}
use Rattle.entry.specs.declared.kind.entry.Entry as entry
use Rattle.entry.specs.declared.kind.modular.Modular as modular

-- the first n of these levels are bytes
abbrev pub Bytes : (ℕ → ℕ) → ℕ → Type 0
Bytes level n = (i : ℕ) → i < n → level i < 256

pub record Exact {E : Type 0} (k : entry.Ghosts E) (m : modular.Ghosts E) : Type 0 where
  -- the number of the identity, and of a level
  pub empty : m.number k.neutral ≡ 0
  pub counts : (g : ℕ) → g < 256 → m.number (k.lifted g) ≡ m.amount g
  pub bounded : (g : ℕ) → g < 256 → m.amount g ≤ m.most
  -- entries joined one by one have the sum of their numbers, modulo 2 ^ bits
  pub wraps : (f : ℕ → E) (n : ℕ) → m.number (prefix k f n) ≡ plain_sum (λ i. m.number (f i)) n % 2 ^ m.bits
  -- so lifted levels have the plain sum of their amounts, if it fits
  pub exact : (level : ℕ → ℕ) (n : ℕ) → Bytes level n → plain_sum (λ i. m.amount (level i)) n < 2 ^ m.bits → m.number (prefix k (λ i. k.lifted (level i)) n) ≡ plain_sum (λ i. m.amount (level i)) n
  -- and it fits up to the limit
  pub fits : (level : ℕ → ℕ) (n : ℕ) → Bytes level n → n ≤ limit_of m.bits m.most → plain_sum (λ i. m.amount (level i)) n < 2 ^ m.bits
