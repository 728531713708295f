-- A number of the header, from its parts. Assumes nothing.
use Rattle.std.proofs.Common.{◌≡◌, ℕ, ◌+◌, true, ◌&&◌, ltb, List, length, get_or, take, drop, sym, ap, ◌∙◌, add-zero, arith}
use Rattle.std.proofs.lemmas.List.{get_or-drop, length-drop}
use Rattle.std.proofs.lemmas.Bool.{cond-true}
use Rattle.std.proofs.lemmas.Bool.Decides.{nat_tests}
use Rattle.refusal.specs.Answers.{refused}
use Rattle.scan.specs.declared.gap.GapState.TheVariants.{Start}
use Rattle.scan.specs.Reading.{white, white_at, gap_length, digits_of, numeral_answer, number_answer}

-- a place of a file, as the front of what stands from there on
pub white_at_drop : (bytes : List ℕ) (at : ℕ) → white_at bytes at ≡ white_at (drop at bytes) 0
white_at_drop bytes at =
    let there : ltb at (length bytes) ≡ ltb 0 (length (drop at bytes)) = rw length-drop (grind (arith, nat_tests)) in
    let same : get_or bytes at 0 ≡ get_or (drop at bytes) 0 0 = ap (λ k. get_or bytes k 0) (sym (add-zero at)) ∙ sym (get_or-drop at bytes 0 0) in
    ap (λ t. t && white (get_or bytes at 0)) there ∙ ap (λ b. ltb 0 (length (drop at bytes)) && white b) same

module _ (bytes : List ℕ) (at gap : ℕ) (digits : List ℕ) where
  pub number_from_parts : white_at bytes at ≡ true → gap ≡ gap_length Start (drop at bytes) → digits ≡ digits_of (take 5 (drop (at + gap) bytes)) → numeral_answer bytes (at + gap) digits ≡ number_answer bytes at
  number_from_parts starts is-gap is-digits =
      ap (numeral_answer bytes (at + gap)) is-digits ∙ ap (λ g. numeral_answer bytes (at + g) (digits_of (take 5 (drop (at + g) bytes)))) is-gap
      ∙ sym (cond-true (white_at bytes at) _ (refused 2 at) starts)
