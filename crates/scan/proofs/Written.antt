-- What is written is read back. Assumes nothing.
use Rattle.std.proofs.Common.{◌≡◌, ℕ, zero, suc, ◌+◌, ◌-◌, ◌*◌, ◌<◌, ◌≤◌, true, false, ◌&&◌, eqb, ltb, leb, List, [], ◌∷◌, ◌++◌, length, take, drop, sym, refl, ap, ◌∙◌, append_assoc, arith}
use Rattle.std.specs.List.{prefix_len, AllByRecursion}
use Rattle.std.proofs.lemmas.List.{drop_at, drop-drop, take_at, length-append, length-drop, take-take}
use Rattle.std.proofs.lemmas.Bool.{lt-ltb, le-leb, eq-eqb, and_from, cond-true}
use Rattle.std.proofs.lemmas.Bool.Decides.{nat_tests}
use Rattle.scan.specs.declared.gap.GapState.TheVariants.{Start, White, Comment}
use Rattle.refusal.specs.Answers.{accepted, and_then}
use Rattle.scan.specs.declared.numeral.Numeral.{Numeral}
use Rattle.scan.specs.Reading.{Image, white, digit, white_at, gap_length, digits_of, numeral_answer, number_answer, side_answer, maxval_answer, levels_answer, header_answer, magic, scan_answer}
use Rattle.scan.specs.Format.{Gap, last, more, comment, Decimal, Number, Side, Written}
use Rattle.scan.proofs.Numbers.{white_at_drop, number_from_parts}
use Rattle.scan.proofs.GapSteps.{white_first, white_next, comment_opens, gap_over, comment_closes, comment_goes_on}

-- a comment goes on up to its byte 10
in_comment : (text gap : List ℕ) → AllByRecursion (λ t. eqb t 10 ≡ false) text → gap_length Comment (text ++ (10 ∷ gap)) ≡ length text + gap_length White (10 ∷ gap)
in_comment [] gap a = omega (arith, comment_closes 10 gap refl, white_next 10 gap refl)
in_comment (t ∷ text) gap a = omega (arith, comment_goes_on t (text ++ (10 ∷ gap)) a.0, in_comment text gap a.1)

-- a gap before what is none
gap_after_white : {g : List ℕ} (xs : List ℕ) → Gap g → gap_length White xs ≡ 0 → gap_length White (g ++ xs) ≡ length g
gap_after_white xs (last b w) e = omega (arith, white_next b xs w, e)
gap_after_white xs (more b g w r) e = omega (arith, white_next b (g ++ xs) w, gap_after_white xs r e)
gap_after_white xs (comment b text g w t r) e =
    let rest : gap_length White (10 ∷ (g ++ xs)) ≡ length (10 ∷ g) = gap_after_white xs r e in
    let same : (text ++ (10 ∷ g)) ++ xs ≡ text ++ (10 ∷ (g ++ xs)) = append_assoc text (10 ∷ g) xs in
    let inside : gap_length Comment ((text ++ (10 ∷ g)) ++ xs) ≡ length text + gap_length White (10 ∷ (g ++ xs)) = ap (gap_length Comment) same ∙ in_comment text (g ++ xs) t in
    let long : length (text ++ (10 ∷ g)) ≡ length text + length (10 ∷ g) = length-append text (10 ∷ g) in
    omega (arith, white_next b (35 ∷ ((text ++ (10 ∷ g)) ++ xs)) w, comment_opens 35 ((text ++ (10 ∷ g)) ++ xs) refl refl)

gap_written : {g : List ℕ} (xs : List ℕ) → Gap g → gap_length White xs ≡ 0 → gap_length Start (g ++ xs) ≡ length g
gap_written xs (last b w) e = white_first b xs w ∙ sym (white_next b xs w) ∙ gap_after_white xs (last b w) e
gap_written xs (more b g w r) e = white_first b (g ++ xs) w ∙ sym (white_next b (g ++ xs) w) ∙ gap_after_white xs (more b g w r) e
gap_written xs (comment b text g w t r) e =
    let ys : List ℕ = 35 ∷ ((text ++ (10 ∷ g)) ++ xs) in white_first b ys w ∙ sym (white_next b ys w) ∙ gap_after_white xs (comment b text g w t r) e

-- digits end a gap
digits_end_gap : (ds xs : List ℕ) → AllByRecursion (λ d. digit d ≡ true) ds → 0 < length ds → gap_length White (ds ++ xs) ≡ 0
digits_end_gap [] xs a l = absurd (omega arith)
digits_end_gap (d ∷ ds) xs a l =
    let is = a.0 in
    let w : white d ≡ false = grind (arith, nat_tests) in
    let h : eqb d 35 ≡ false = grind (arith, nat_tests) in
    gap_over d (ds ++ xs) w h

white_at_head : (b : ℕ) (bs : List ℕ) → white b ≡ true → white_at (b ∷ bs) 0 ≡ true
white_at_head b bs w = and_from (ltb 0 (length (b ∷ bs))) (white b) (lt-ltb 0 (length (b ∷ bs)) (omega arith)) w

gap_starts_white : {g : List ℕ} (xs : List ℕ) → Gap g → white_at (g ++ xs) 0 ≡ true
gap_starts_white xs (last b w) = white_at_head b xs w
gap_starts_white xs (more b g w r) = white_at_head b (g ++ xs) w
gap_starts_white xs (comment b text g w t r) = white_at_head b (35 ∷ ((text ++ (10 ∷ g)) ++ xs)) w

-- digits end at a white byte
no_digit_first : (xs : List ℕ) (k : ℕ) → white_at xs 0 ≡ true → prefix_len digit (take k xs) ≡ 0
no_digit_first xs zero w = refl
no_digit_first [] (suc k) w = refl
no_digit_first (x ∷ xs) (suc k) w = grind (arith, nat_tests)

digits_counted_in : (ds : List ℕ) (k : ℕ) (xs : List ℕ) → AllByRecursion (λ d. digit d ≡ true) ds → length ds ≤ k → white_at xs 0 ≡ true → prefix_len digit (take k (ds ++ xs)) ≡ length ds
digits_counted_in [] k xs a l w = no_digit_first xs k w
digits_counted_in (d ∷ ds) zero xs a l w = absurd (omega arith)
digits_counted_in (d ∷ ds) (suc k) xs a l w = rw a.0 (let rest : prefix_len digit (take k (ds ++ xs)) ≡ length ds = digits_counted_in ds k xs a.1 (omega arith) w in omega arith)

digits_written : (ds xs : List ℕ) (n : ℕ) → Decimal ds n → white_at xs 0 ≡ true → digits_of (take 5 (ds ++ xs)) ≡ ds
unfolding digits_of
digits_written ds xs n d w =
    ap (λ k. take k (take 5 (ds ++ xs))) (digits_counted_in ds 5 xs d.each d.few w) ∙ take-take (length ds) 5 (ds ++ xs) d.few ∙ take_at ds xs (length ds) refl

-- one number of the header
module _ (bytes : List ℕ) (at : ℕ) (text xs : List ℕ) (n : ℕ) (is : drop at bytes ≡ text ++ xs) (num : Number text n) (follows : white_at xs 0 ≡ true) where
  abbrev first : ℕ
  first = at + length num.gap

  abbrev numeral : Numeral
  numeral = record { value = n; first = first; after = first + length num.digits }

  -- what follows the gap, and what follows the number
  parts : drop at bytes ≡ num.gap ++ (num.digits ++ xs)
  parts = is ∙ ap (λ t. t ++ xs) num.is_text ∙ append_assoc num.gap num.digits xs

  from_digits : drop first bytes ≡ num.digits ++ xs
  from_digits = sym (drop-drop (length num.gap) at bytes) ∙ ap (drop (length num.gap)) parts ∙ drop_at num.gap (num.digits ++ xs) (length num.gap) refl

  pub after_number : drop numeral.after bytes ≡ xs
  after_number = sym (drop-drop (length num.digits) first bytes) ∙ ap (drop (length num.digits)) from_digits ∙ drop_at num.digits xs (length num.digits) refl

  judged : numeral_answer bytes first num.digits ≡ accepted numeral
  judged =
      let ends : white_at bytes numeral.after ≡ true = white_at_drop bytes numeral.after ∙ ap (λ t. white_at t 0) after_number ∙ follows in
      cond-true (ltb 0 (length num.digits) && white_at bytes numeral.after) _ _ (and_from (ltb 0 (length num.digits)) _ (lt-ltb 0 (length num.digits) num.is_decimal.some) ends)
      ∙ ap (λ v. accepted (record { value = v; first = first; after = numeral.after })) num.is_decimal.worth

  pub number_written : number_answer bytes at ≡ accepted numeral
  number_written =
      let d = num.is_decimal in
      sym (number_from_parts bytes at (length num.gap) num.digits
      (white_at_drop bytes at ∙ ap (λ t. white_at t 0) parts ∙ gap_starts_white (num.digits ++ xs) num.is_gap)
      (sym (ap (gap_length Start) parts ∙ gap_written (num.digits ++ xs) num.is_gap (digits_end_gap num.digits xs d.each d.some)))
      (sym (ap (λ t. digits_of (take 5 t)) from_digits ∙ digits_written num.digits xs n d follows)))
      ∙ judged

side_written : (bytes : List ℕ) (at : ℕ) (n : Numeral) → Side n.value → number_answer bytes at ≡ accepted n → side_answer bytes at ≡ accepted n
side_written bytes at n s e = rw e (cond-true (ltb 0 n.value && leb n.value 4096) _ _ (and_from (ltb 0 n.value) (leb n.value 4096) (lt-ltb 0 n.value s.low) (le-leb n.value 4096 s.high)))

maxval_written : (bytes : List ℕ) (at : ℕ) (n : Numeral) → n.value ≡ 255 → number_answer bytes at ≡ accepted n → maxval_answer bytes at ≡ accepted n
maxval_written bytes at n s e = rw e (cond-true (eqb n.value 255) _ _ (eq-eqb n.value 255 s))

number_starts_white : (text xs : List ℕ) (n : ℕ) → Number text n → white_at (text ++ xs) 0 ≡ true
number_starts_white text xs n num = ap (λ t. white_at t 0) (ap (λ t. t ++ xs) num.is_text ∙ append_assoc num.gap num.digits xs) ∙ gap_starts_white (num.digits ++ xs) num.is_gap

pub written_is_read : (bytes : List ℕ) (image : Image) → Written bytes image → scan_answer bytes ≡ accepted image
unfolding header_answer
written_is_read bytes image f =
    let w = image.width in
    let h = image.height in
    let xs3 : List ℕ = f.end ∷ (image.levels ++ f.extra) in
    let xs2 : List ℕ = f.maxval ++ xs3 in
    let xs1 : List ℕ = f.height ++ xs2 in
    let ends1 : white_at xs1 0 ≡ true = number_starts_white f.height xs2 h f.is_height in
    let ends2 : white_at xs2 0 ≡ true = number_starts_white f.maxval xs3 255 f.is_maxval in
    let ends3 : white_at xs3 0 ≡ true = white_at_head f.end (image.levels ++ f.extra) f.is_end in
    let e0 : drop 2 bytes ≡ f.width ++ xs1 = ap (drop 2) f.is_bytes in
    let n1 : Numeral = numeral bytes 2 f.width xs1 w e0 f.is_width ends1 in
    let e1 : drop n1.after bytes ≡ xs1 = after_number bytes 2 f.width xs1 w e0 f.is_width ends1 in
    let n2 : Numeral = numeral bytes n1.after f.height xs2 h e1 f.is_height ends2 in
    let e2 : drop n2.after bytes ≡ xs2 = after_number bytes n1.after f.height xs2 h e1 f.is_height ends2 in
    let n3 : Numeral = numeral bytes n2.after f.maxval xs3 255 e2 f.is_maxval ends3 in
    let e3 : drop n3.after bytes ≡ xs3 = after_number bytes n2.after f.maxval xs3 255 e2 f.is_maxval ends3 in
    let from : ℕ = n3.after + 1 in
    let s1 : side_answer bytes 2 ≡ accepted n1 = side_written bytes 2 n1 f.wide (number_written bytes 2 f.width xs1 w e0 f.is_width ends1) in
    let s2 : side_answer bytes n1.after ≡ accepted n2 = side_written bytes n1.after n2 f.high (number_written bytes n1.after f.height xs2 h e1 f.is_height ends2) in
    let s3 : maxval_answer bytes n2.after ≡ accepted n3 = maxval_written bytes n2.after n3 refl (number_written bytes n2.after f.maxval xs3 255 e2 f.is_maxval ends3) in
    let left : drop from bytes ≡ image.levels ++ f.extra = sym (drop-drop 1 n3.after bytes) ∙ ap (drop 1) e3 in
    let long : length bytes - from ≡ length image.levels + length f.extra = sym (length-drop from bytes) ∙ ap length left ∙ length-append image.levels f.extra in
    let levels : take (w * h) (drop from bytes) ≡ image.levels = ap (take (w * h)) left ∙ take_at image.levels f.extra (w * h) f.is_levels in
    let last : levels_answer bytes w h from ≡ accepted image =
    cond-true (leb (w * h) (length bytes - from)) _ _ (le-leb _ _ (omega (arith, f.is_levels))) ∙ ap (λ l. accepted (record { width = w; height = h; levels = l })) levels in
    let three : header_answer bytes 2 ≡ accepted image =
    ap (λ a. and_then a (λ width. and_then (side_answer bytes width.after) (λ height. and_then (maxval_answer bytes height.after) (λ maxval. levels_answer bytes width.value height.value (maxval.after + 1))))) s1
    ∙ ap (λ a. and_then a (λ height. and_then (maxval_answer bytes height.after) (λ maxval. levels_answer bytes w height.value (maxval.after + 1)))) s2
    ∙ ap (λ a. and_then a (λ maxval. levels_answer bytes w h (maxval.after + 1))) s3
    ∙ last in
    let starts : magic bytes ≡ true = rw f.is_bytes (and_from _ true (and_from _ true (lt-ltb 1 _ (omega arith)) refl) refl) in
    cond-true (magic bytes) _ _ starts ∙ three
