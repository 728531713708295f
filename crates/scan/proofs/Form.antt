-- What is accepted was written so. Assumes nothing.
use Rattle.std.proofs.Common.{◌≡◌, ℕ, ◌+◌, ◌-◌, ◌*◌, ◌<◌, ◌≤◌, true, false, ◌&&◌, eqb, ltb, leb, List, [], ◌∷◌, ◌++◌, length, get_or, take, drop, sym, refl, ap, ◌∙◌, subst, ⊎_elim, append_assoc, one-add, arith}
use Rattle.std.specs.List.{prefix_len, AllByRecursion}
use Rattle.std.proofs.lemmas.Bool.{cases_Bool, eqb-true, ltb-true, leb-true, and_parts, cond-true, cond-false, false≢true, and_right}
use Rattle.std.proofs.lemmas.List.{take-append-drop, length-take-le, length-take, length-drop, take-take, drop-drop, drop_more}
use Rattle.std.proofs.lemmas.List.Sums.{prefix_len-le-length}
use Rattle.scan.specs.declared.gap.GapState.{GapState}
use Rattle.scan.specs.declared.gap.GapState.TheVariants.{Start, White, Comment}
use Rattle.scan.specs.declared.numeral.Numeral.{Numeral}
use Rattle.refusal.specs.Answers.{accepted}
use Rattle.refusal.proofs.Accepted.{accepted_same, both_accepted, test_passed}
use Rattle.scan.specs.Reading.{Image, white, digit, value, white_at, gap_length, digits_of, numeral_answer, number_answer, side_answer, maxval_answer, header_answer, magic, scan_answer}
use Rattle.scan.specs.Format.{Gap, last, more, comment, Decimal, Number, Side, Written}
use Rattle.scan.proofs.Numbers.{white_at_drop}
use Rattle.scan.proofs.GapSteps.{white_first, white_next, comment_opens, gap_over, comment_closes, comment_goes_on}

-- the rest of a gap, by the state that it goes on from
abbrev GapFrom : GapState → List ℕ → Type 0
GapFrom Start ys = Unit {0}
GapFrom White ys = (b : ℕ) → white b ≡ true → Gap (b ∷ ys)
GapFrom Comment ys = (text : List ℕ) × (gap : List ℕ) × (ys ≡ text ++ (10 ∷ gap)) × AllByRecursion (λ t. eqb t 10 ≡ false) text × Gap (10 ∷ gap)

-- one byte more, taken as the reader counts it
taken : (s : GapState) (c : ℕ) (cs : List ℕ) (t : GapState) → gap_length s (c ∷ cs) ≡ 1 + gap_length t cs → take (gap_length s (c ∷ cs)) (c ∷ cs) ≡ c ∷ take (gap_length t cs) cs
taken s c cs t e = ap (λ k. take k (c ∷ cs)) (e ∙ one-add (gap_length t cs))

-- a gap that does not go on to the end of the file is one, since its last comment is closed
gap_from : (s : GapState) (xs : List ℕ) → gap_length s xs < length xs → GapFrom s (take (gap_length s xs) xs)
gap_from s [] l = absurd (omega arith)
gap_from Start (c ∷ cs) l = tt
gap_from White (c ∷ cs) l =
    ⊎_elim
    (λ w. let on = white_next c cs w in subst (GapFrom White) (sym (taken White c cs White on)) (λ b wb. more b _ wb (gap_from White cs (omega arith) c w)))
    (λ w. ⊎_elim
    (λ h. let on = comment_opens c cs w h in let is = gap_from Comment cs (omega arith) in
    subst (GapFrom White) (sym (taken White c cs Comment on)) (λ b wb.
    subst (λ ys. Gap (b ∷ ys)) (sym (ap (λ x. x ∷ take (gap_length Comment cs) cs) (eqb-true c 35 h) ∙ ap (λ ys. 35 ∷ ys) is.2)) (comment b is.0 is.1 wb is.3 is.4)))
    (λ h. subst (GapFrom White) (sym (ap (λ k. take k (c ∷ cs)) (gap_over c cs w h))) last)
    (cases_Bool (eqb c 35)))
    (cases_Bool (white c))
gap_from Comment (c ∷ cs) l =
    ⊎_elim
    (λ e. let on = comment_closes c cs e in
    ([], take (gap_length White cs) cs, taken Comment c cs White on ∙ ap (λ x. x ∷ take (gap_length White cs) cs) (eqb-true c 10 e), tt, gap_from White cs (omega arith) 10 refl))
    (λ e. let on = comment_goes_on c cs e in let is = gap_from Comment cs (omega arith) in
    (c ∷ is.0, is.1, taken Comment c cs Comment on ∙ ap (λ ys. c ∷ ys) is.2, (e, is.3), is.4))
    (cases_Bool (eqb c 10))

-- where a white byte stands
pub white_there : (bytes : List ℕ) (at : ℕ) → white_at bytes at ≡ true → (at < length bytes) × (white (get_or bytes at 0) ≡ true)
white_there bytes at e = let p = and_parts (ltb at (length bytes)) (white (get_or bytes at 0)) e in (ltb-true at (length bytes) p.0, p.1)

gap_form : (xs : List ℕ) → white_at xs 0 ≡ true → gap_length Start xs < length xs → Gap (take (gap_length Start xs) xs)
gap_form [] w l = absurd (omega arith)
gap_form (b ∷ bs) w l =
    let is : white b ≡ true = (white_there (b ∷ bs) 0 w).1 in
    let on = white_first b bs is in
    subst Gap (sym (taken Start b bs White on)) (gap_from White bs (omega arith) b is)

digits_each : (xs : List ℕ) → AllByRecursion (λ d. digit d ≡ true) (take (prefix_len digit xs) xs)
digits_each [] = tt
digits_each (x ∷ xs) =
    let P : ℕ → Type 0 = λ k. AllByRecursion (λ d. digit d ≡ true) (take k (x ∷ xs)) in
    ⊎_elim
    (λ e. subst P (sym (cond-true (digit x) (1 + prefix_len digit xs) 0 e ∙ one-add (prefix_len digit xs))) (e, digits_each xs))
    (λ e. subst P (sym (cond-false (digit x) (1 + prefix_len digit xs) 0 e)) tt)
    (cases_Bool (digit x))

-- the digits that the reader takes, at the front of what stands there
module _ (xs : List ℕ) where
  abbrev digits : List ℕ
  digits = digits_of (take 5 xs)

  few_counted : prefix_len digit (take 5 xs) ≤ 5
  few_counted = omega (arith, prefix_len-le-length digit (take 5 xs), length-take 5 xs)

  digits_length : length digits ≡ prefix_len digit (take 5 xs)
  unfolding digits_of
  digits_length = length-take-le (prefix_len digit (take 5 xs)) (take 5 xs) (prefix_len-le-length digit (take 5 xs))

  digits_front : xs ≡ digits ++ drop (length digits) xs
  unfolding digits_of
  digits_front =
      sym (take-append-drop (prefix_len digit (take 5 xs)) xs)
      ∙ ap (λ t. t ++ drop (prefix_len digit (take 5 xs)) xs) (sym (take-take (prefix_len digit (take 5 xs)) 5 xs few_counted))
      ∙ ap (λ k. digits ++ drop k xs) (sym digits_length)

  digits_decimal : 0 < length digits → Decimal digits (value digits)
  unfolding digits_of
  digits_decimal l = record { each = digits_each (take 5 xs); some = l; few = omega (arith, few_counted, digits_length); worth = refl }

-- a number that was read, as it stands in the file
pub record Read (bytes : List ℕ) (at : ℕ) (n : Numeral) : Type 0 where
  pub text : List ℕ
  pub is_number : Number text n.value
  pub is_part : drop at bytes ≡ text ++ drop n.after bytes
  pub ends : white_at bytes n.after ≡ true

module _ (bytes : List ℕ) (at : ℕ) where
  abbrev gap : ℕ
  gap = gap_length Start (drop at bytes)

  abbrev found : List ℕ
  found = digits (drop (at + gap) bytes)

  parts_read : white_at bytes at ≡ true → 0 < length found → white_at bytes ((at + gap) + length found) ≡ true → Read bytes at (record { value = value found; first = at + gap; after = (at + gap) + length found })
  parts_read starts some ends =
      let there = (white_there bytes ((at + gap) + length found) ends).0 in
      let short : gap < length (drop at bytes) = omega (arith, length-drop at bytes) in
      let front : drop at bytes ≡ take gap (drop at bytes) ++ drop (at + gap) bytes = sym (take-append-drop gap (drop at bytes)) ∙ ap (λ t. take gap (drop at bytes) ++ t) (drop-drop gap at bytes) in
      let back : drop (at + gap) bytes ≡ found ++ drop ((at + gap) + length found) bytes = digits_front (drop (at + gap) bytes) ∙ ap (λ t. found ++ t) (drop-drop (length found) (at + gap) bytes) in
      record {
        text = take gap (drop at bytes) ++ found;
        is_number = record {
          gap = take gap (drop at bytes);
          digits = found;
          is_text = refl;
          is_gap = gap_form (drop at bytes) (sym (white_at_drop bytes at) ∙ starts) short;
          is_decimal = digits_decimal (drop (at + gap) bytes) some;
        };
        is_part = front ∙ ap (λ t. take gap (drop at bytes) ++ t) back ∙ sym (append_assoc (take gap (drop at bytes)) found (drop ((at + gap) + length found) bytes));
        ends = ends;
      }

  number_form : (n : Numeral) → number_answer bytes at ≡ accepted n → Read bytes at n
  number_form n e =
      let after : ℕ = (at + gap) + length found in
      let outer = test_passed (white_at bytes at) 2 at (numeral_answer bytes (at + gap) found) n e in
      let inner = test_passed (ltb 0 (length found) && white_at bytes after) 2 after (accepted (record { value = value found; first = at + gap; after = after })) n outer.1 in
      let tests = and_parts (ltb 0 (length found)) (white_at bytes after) inner.0 in
      subst (Read bytes at) (accepted_same _ _ inner.1) (parts_read outer.0 (ltb-true 0 (length found) tests.0) tests.1)

side_form : (bytes : List ℕ) (at : ℕ) (n : Numeral) → side_answer bytes at ≡ accepted n → Side n.value × Read bytes at n
side_form bytes at n e =
    let both = both_accepted (number_answer bytes at) _ n e in
    let m = both.0 in
    let tests = test_passed (ltb 0 m.value && leb m.value 4096) 3 m.first (accepted m) n both.2 in
    let limits = and_parts (ltb 0 m.value) (leb m.value 4096) tests.0 in
    let is : m ≡ n = accepted_same m n tests.1 in
    let P : Numeral → Type 0 = λ k. Side k.value × Read bytes at k in
    subst P is (record { low = ltb-true 0 m.value limits.0; high = leb-true m.value 4096 limits.1 }, number_form bytes at m both.1)

maxval_form : (bytes : List ℕ) (at : ℕ) (n : Numeral) → maxval_answer bytes at ≡ accepted n → (n.value ≡ 255) × Read bytes at n
maxval_form bytes at n e =
    let both = both_accepted (number_answer bytes at) _ n e in
    let m = both.0 in
    let tests = test_passed (eqb m.value 255) 4 m.first (accepted m) n both.2 in
    let P : Numeral → Type 0 = λ k. (k.value ≡ 255) × Read bytes at k in
    subst P (accepted_same m n tests.1) (eqb-true m.value 255 tests.0, number_form bytes at m both.1)

-- the levels, with the white byte before them and what follows them
levels_form : (bytes : List ℕ) (w h after : ℕ) → white_at bytes after ≡ true → w * h ≤ length bytes - (after + 1) →
    (extra : List ℕ) × (drop after bytes ≡ get_or bytes after 0 ∷ (take (w * h) (drop (after + 1) bytes) ++ extra)) × (length (take (w * h) (drop (after + 1) bytes)) ≡ w * h)
levels_form bytes w h after ends enough =
    let from = after + 1 in
    let left = drop from bytes in
    let long : w * h ≤ length left = simp length-drop enough in
    (drop (w * h) left, drop_more bytes after 0 (white_there bytes after ends).0 ∙ ap (λ t. get_or bytes after 0 ∷ t) (sym (take-append-drop (w * h) left)), length-take-le (w * h) left long)

magic_form : (bytes : List ℕ) → magic bytes ≡ true → bytes ≡ 80 ∷ (53 ∷ drop 2 bytes)
magic_form [] e = absurd (false≢true e)
magic_form (p ∷ []) e = absurd (false≢true (sym (and_right (ltb 1 (length (p ∷ [])) && eqb p 80) false refl) ∙ e))
magic_form (p ∷ (q ∷ rest)) e =
    let tests = and_parts (ltb 1 (length (p ∷ (q ∷ rest))) && eqb p 80) (eqb q 53) e in
    let first = and_parts (ltb 1 (length (p ∷ (q ∷ rest)))) (eqb p 80) tests.0 in
    ap (λ x. x ∷ (q ∷ rest)) (eqb-true p 80 first.1) ∙ ap (λ x. 80 ∷ (x ∷ rest)) (eqb-true q 53 tests.1)

-- the parts of an accepted file, put together
module _ (bytes : List ℕ) (w h m : Numeral) (starts : magic bytes ≡ true) (is_w : Side w.value × Read bytes 2 w) (is_h : Side h.value × Read bytes w.after h) (is_m : (m.value ≡ 255) × Read bytes h.after m)
    (enough : w.value * h.value ≤ length bytes - (m.after + 1)) where
  abbrev image : Image
  image = record { width = w.value; height = h.value; levels = take (w.value * h.value) (drop (m.after + 1) bytes) }

  whole : Written bytes image
  whole =
      let tail = levels_form bytes w.value h.value m.after is_m.1.ends enough in
      let P : ℕ → Type 0 = Number is_m.1.text in
      record {
        width = is_w.1.text;
        height = is_h.1.text;
        maxval = is_m.1.text;
        end = get_or bytes m.after 0;
        extra = tail.0;
        is_bytes = magic_form bytes starts
            ∙ ap (λ t. 80 ∷ (53 ∷ t)) (is_w.1.is_part ∙ ap (λ t. is_w.1.text ++ t) (is_h.1.is_part ∙ ap (λ t. is_h.1.text ++ t) (is_m.1.is_part ∙ ap (λ t. is_m.1.text ++ t) tail.1)));
        is_width = is_w.1.is_number;
        is_height = is_h.1.is_number;
        is_maxval = subst P is_m.0 is_m.1.is_number;
        is_end = (white_there bytes m.after is_m.1.ends).1;
        wide = is_w.0;
        high = is_h.0;
        is_levels = tail.2;
      }

pub accepted_is_written : (bytes : List ℕ) (image : Image) → scan_answer bytes ≡ accepted image → Written bytes image
unfolding header_answer
accepted_is_written bytes i e =
    let starts = test_passed (magic bytes) 1 0 (header_answer bytes 2) i e in
    let one = both_accepted (side_answer bytes 2) _ i starts.1 in
    let w = one.0 in
    let two = both_accepted (side_answer bytes w.after) _ i one.2 in
    let h = two.0 in
    let three = both_accepted (maxval_answer bytes h.after) _ i two.2 in
    let m = three.0 in
    let count = w.value * h.value in
    let from = m.after + 1 in
    let four = test_passed (leb count (length bytes - from)) 5 (length bytes) (accepted (record { width = w.value; height = h.value; levels = take count (drop from bytes) })) i three.2 in
    subst (Written bytes) (accepted_same _ _ four.1)
    (whole bytes w h m starts.0 (side_form bytes 2 w one.1) (side_form bytes w.after h two.1) (maxval_form bytes h.after m three.1) (leb-true count (length bytes - from) four.0))
