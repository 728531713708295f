-- Words of k bits, whatever struct holds them. Assumes nothing.
use Rattle.std.specs.Prelude.{◌≡◌, ℕ, ◌+◌, ◌-◌, ◌%◌, ◌^◌, ◌<◌}
use Rattle.std.proofs.Common.{mod-lt, pow_pos}

-- W holds the numbers below 2 ^ k, each in one way
pub record Words (k : ℕ) (W : Type 0) : Type 0 where
  pub value : W → ℕ
  pub fits : (w : W) → value w < 2 ^ k
  pub make : (n : ℕ) → n < 2 ^ k → W
  pub made : (w : W) → make (value w) (fits w) ≡ w
  pub holds : (n : ℕ) (h : n < 2 ^ k) → value (make n h) ≡ n

module _ {k : ℕ} {W : Type 0} (words : Words k W) where
  -- the word of n, multiples of 2 ^ k dropped
  abbrev pub word : ℕ → W
  word n = words.make (n % 2 ^ k) (mod-lt n (pow_pos k))

  abbrev pub plus : W → W → W
  plus x y = word (words.value x + words.value y)

  abbrev pub minus : W → W
  minus x = word (2 ^ k - words.value x)
