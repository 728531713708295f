-- Where column x of row y stands, in rows of s entries. Assumes nothing.
use Rattle.std.proofs.Common.{ℕ, ◌+◌, ◌*◌, ◌/◌, ◌%◌, ◌<◌, ◌≤◌, ◌≢◌, ◌⊎◌, sym, ap, ◌∙◌, inl, inr, arith}
use Rattle.std.proofs.lemmas.Nat.{mul-add-lt, mul-le, div-mul-add, mod-mul-add}

pub apart : (s x y i j : ℕ) → x < s → i < s → (i ≢ x) ⊎ (j ≢ y) → (j * s + i) ≢ (y * s + x)
apart s x y i j hx hi (inl ne) e = ne (sym (mod-mul-add j s i hi) ∙ ap (λ n. n % s) e ∙ mod-mul-add y s x hx)
apart s x y i j hx hi (inr ne) e = ne (sym (div-mul-add j s i hi) ∙ ap (λ n. n / s) e ∙ div-mul-add y s x hx)

-- within the first r rows
pub inside : (s x y r n : ℕ) → x < s → y < r → s * r ≤ n → y * s + x < n
inside s x y r n hx hy room = omega (arith, mul-add-lt y s x r hy hx)

-- fewer rows take less room
pub room : (s a b n : ℕ) → a ≤ b → s * b ≤ n → s * a ≤ n
room s a b n h all = omega (arith, mul-le s a s b (omega arith) h)
