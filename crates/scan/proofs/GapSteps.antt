-- A gap byte by byte. Assumes nothing.
use Rattle.std.proofs.Common.{◌≡◌, ℕ, ◌+◌, ◌<◌, ◌≤◌, true, false, eqb, List, ◌∷◌, length, get_or, drop, Some, None, Option, sym, refl, ap, ◌∙◌}
use Rattle.std.proofs.lemmas.List.{at_drop_more, at_drop_all}
use Rattle.std.proofs.lemmas.Bool.{cond-true, cond-false}
use Rattle.scan.specs.declared.gap.GapState.{GapState}
use Rattle.scan.specs.declared.gap.GapState.TheVariants.{Start, White, Comment}
use Rattle.scan.specs.Reading.{white, next_state, gap_length}

-- a gap by what its first byte does to the state
abbrev after : Option GapState → List ℕ → ℕ
after (Some t) bs = 1 + gap_length t bs
after None bs = 0

first_byte : (s : GapState) (b : ℕ) (bs : List ℕ) (o : Option GapState) → next_state s b ≡ o → gap_length s (b ∷ bs) ≡ after o bs
unfolding gap_length
first_byte s b bs o e =
    elim (next_state s b) as (λ p. elim p [ Some t ↦ 1 + gap_length t bs | None ↦ 0 ] ≡ after p bs) [ Some t ↦ refl | None ↦ refl ] ∙ ap (λ p. after p bs) e

-- in the reader's loop
module _ (xs : List ℕ) (i : ℕ) (s : GapState) where
  pub gap_goes_on : (t : GapState) → i < length xs → Some t ≡ next_state s (get_or xs i 0) → gap_length s (drop i xs) ≡ 1 + gap_length t (drop (i + 1) xs)
  gap_goes_on t l e = at_drop_more (gap_length s) xs i 0 l ∙ first_byte s (get_or xs i 0) (drop (i + 1) xs) (Some t) (sym e)

  pub gap_stops : i < length xs → None ≡ next_state s (get_or xs i 0) → gap_length s (drop i xs) ≡ 0
  gap_stops l e = at_drop_more (gap_length s) xs i 0 l ∙ first_byte s (get_or xs i 0) (drop (i + 1) xs) None (sym e)

  pub gap_ends : length xs ≤ i → gap_length s (drop i xs) ≡ 0
  unfolding gap_length
  gap_ends l = at_drop_all (gap_length s) xs i l

-- by the kind of the byte
module _ (b : ℕ) (bs : List ℕ) where
  pub white_first : white b ≡ true → gap_length Start (b ∷ bs) ≡ 1 + gap_length White bs
  white_first w = first_byte Start b bs (Some White) (cond-true (white b) _ _ w)

  pub white_next : white b ≡ true → gap_length White (b ∷ bs) ≡ 1 + gap_length White bs
  white_next w = first_byte White b bs (Some White) (cond-true (white b) _ _ w)

  pub comment_opens : white b ≡ false → eqb b 35 ≡ true → gap_length White (b ∷ bs) ≡ 1 + gap_length Comment bs
  comment_opens w h = first_byte White b bs (Some Comment) (cond-false (white b) _ _ w ∙ cond-true (eqb b 35) _ _ h)

  pub gap_over : white b ≡ false → eqb b 35 ≡ false → gap_length White (b ∷ bs) ≡ 0
  gap_over w h = first_byte White b bs None (cond-false (white b) _ _ w ∙ cond-false (eqb b 35) _ _ h)

  pub comment_closes : eqb b 10 ≡ true → gap_length Comment (b ∷ bs) ≡ 1 + gap_length White bs
  comment_closes e = first_byte Comment b bs (Some White) (cond-true (eqb b 10) _ _ e)

  pub comment_goes_on : eqb b 10 ≡ false → gap_length Comment (b ∷ bs) ≡ 1 + gap_length Comment bs
  comment_goes_on e = first_byte Comment b bs (Some Comment) (cond-false (eqb b 10) _ _ e)
