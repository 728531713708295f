-- A map that keeps the joining keeps what is taken a number of times. Assumes nothing.
use Rattle.std.proofs.Common.{◌≡◌, ℕ, zero, suc, ℤ, pos, negsuc, sym, ap, ◌∙◌, w8, SFits, to_z, of_z}
use Rattle.std.proofs.lemmas.Int.{to_z-of_z}
use Rattle.entry.specs.Taken.{copies, taken}
use Rattle.entry.specs.declared.kind.entry.Entry.{Ghosts}

module _ {E F : Type 0} (k : Ghosts E) (k' : Ghosts F) (f : E → F)
    (on_neutral : f k.neutral ≡ k'.neutral) (on_joined : (x y : E) → f (k.joined x y) ≡ k'.joined (f x) (f y)) (on_inverted : (x : E) → f (k.inverted x) ≡ k'.inverted (f x)) where
  copies_map : (n : ℕ) (x : E) → f (copies k n x) ≡ copies k' n (f x)
  copies_map zero x = on_neutral
  copies_map (suc n) x = on_joined _ x ∙ ap (λ (e : F). k'.joined e (f x)) (copies_map n x)

  pub taken_map : (z : ℤ) (x : E) → f (taken k z x) ≡ taken k' z (f x)
  taken_map (pos n) x = copies_map n x
  taken_map (negsuc n) x = copies_map (suc n) (k.inverted x) ∙ ap (copies k' (suc n)) (on_inverted x)

  -- the code of `times`: a part r is taken by a weight of 8 bits, as it is passed on
  pub taken_part : (z : ℤ) (x : E) (r : F) → SFits w8 z → r ≡ taken k' (to_z w8 (of_z w8 z)) (f x) → r ≡ f (taken k z x)
  taken_part z x r small e = e ∙ ap (λ (y : ℤ). taken k' y (f x)) (to_z-of_z w8 z small) ∙ sym (taken_map z x)
