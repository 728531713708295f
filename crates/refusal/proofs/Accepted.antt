-- What an accepted answer tells of the steps that led to it. Assumes nothing.
use Rattle.std.proofs.Common.{◌≡◌, ℕ, Bool, true, false, refl, arith}
use Rattle.refusal.specs.Answers.{Answer, accepted, refused, and_then, ensuring}

pub never : {A : Type 0} (n p : ℕ) (a : A) → refused n p ≡ accepted a → ⊥
never n p a e = let z : ◌≡◌ {A = ℕ} 0 1 = cc in omega arith

pub accepted_same : {A : Type 0} (a b : A) → accepted a ≡ accepted b → a ≡ b
accepted_same a b e = cc

pub both_accepted : {A B : Type 0} (a : Answer A) (next : A → Answer B) (b : B) → and_then a next ≡ accepted b → (x : A) × (a ≡ accepted x) × (next x ≡ accepted b)
both_accepted (accepted x) next b e = (x, refl, e)
both_accepted (refused n p) next b e = absurd (never n p b e)

pub test_passed : {A : Type 0} (test : Bool) (n p : ℕ) (next : Answer A) (a : A) → ensuring test n p next ≡ accepted a → (test ≡ true) × (next ≡ accepted a)
test_passed true n p next a e = (refl, e)
test_passed false n p next a e = absurd (never n p a e)
