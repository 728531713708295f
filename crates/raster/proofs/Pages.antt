-- Lists written from the front, pages drawn row after row. Assumes nothing.
use Rattle.std.proofs.Common.{◌≡◌, ℕ, ◌+◌, ◌-◌, ◌*◌, ◌/◌, ◌%◌, ◌<◌, ◌≤◌, List, ◌++◌, map, length, get_or, take, drop, Ok, Err, Result, sym, ap, ◌∙◌, subst, inl, inr, mul_comm, arith, length-append, length-drop}
use Rattle.std.specs.List.{range_with_len}
use Rattle.std.proofs.lemmas.Nat.{div-mul-add, mod-mul-add, div-add-mod', mod_below, mul-add-lt, mul-le}
use Rattle.std.proofs.lemmas.Bool.{cases_lt, leb-true}
use Rattle.std.proofs.lemmas.List.{ext_get_or, get_or_append_left, get_or-append_right, get_or-drop}
use Rattle.std.proofs.lemmas.List.FromFn.{length-map-range_with_len, get_or-map-range_with_len}
use Rattle.refusal.proofs.Accepted.{test_passed}
use Rattle.refusal.specs.declared.Refusal.{Refusal}
use Rattle.sheet.specs.declared.frame.Frame.{Frame}
use Rattle.sheet.proofs.Parts.{spliced}
use Rattle.raster.specs.Drawn.{laid, page_byte, DrawnBy, Pictured, RowsDrawn}

module _ (f : ℕ → ℕ) (n : ℕ) (old : List ℕ) where
  laid_long : n ≤ length old → length (laid f n old) ≡ length old
  laid_long room = omega (arith, length-append (map f (range_with_len 0 n)) (drop n old), length-map-range_with_len f 0 n, length-drop n old)

  -- a list is laid from the front where its first n numbers are those of f, and the others as before
  pub laid_front : (page : List ℕ) → n ≤ length old → length page ≡ length old → ((i : ℕ) → i < n → get_or page i 0 ≡ f i) → ((i : ℕ) → n ≤ i → get_or page i 0 ≡ get_or old i 0) → page ≡ laid f n old
  laid_front page room long done rest =
      let front = map f (range_with_len 0 n) in
      ext_get_or 0 page (laid f n old) (long ∙ sym (laid_long room)) (λ i hi. elim (cases_lt i n) [
        | inl lt ↦ done i lt ∙ sym (get_or_append_left front (drop n old) 0 i (omega (arith, length-map-range_with_len f 0 n)) ∙ get_or-map-range_with_len f 0 n i i 0 lt (omega arith))
        | inr ge ↦
            let at : n + (i - n) ≡ i = omega arith in
            rest i ge ∙ sym (get_or-append_right front (drop n old) n i 0 (length-map-range_with_len f 0 n) ge ∙ get_or-drop n old (i - n) 0 ∙ ap (λ m. get_or old m 0) at)
      ])

  -- a part that is written in front of a list
  pub laid_part : (m : ℕ) (part : List ℕ) → m ≡ n → length part ≡ m → n ≤ length old → ((i : ℕ) → i < n → get_or part i 0 ≡ f i) → part ++ drop m (drop 0 old) ≡ laid f n old
  laid_part m part same long room is =
      let so = spliced old part 0 m long (omega arith) in
      laid_front (part ++ drop m (drop 0 old)) room so.long
      (λ i lt. ap (λ j. get_or (part ++ drop m (drop 0 old)) j 0) (let z : i ≡ 0 + i = omega arith in z) ∙ so.here i 0 (omega arith) ∙ is i lt)
      (λ i ge. so.others i 0 (inr (omega arith)))

-- the byte at column x of row y
pub byte_at : (w : ℕ) (f : ℕ → ℕ → ℕ) (x y : ℕ) → x < w → page_byte w f (y * w + x) ≡ f x y
byte_at w f x y lt = ap (λ i. f i ((y * w + x) / w)) (mod-mul-add y w x lt) ∙ ap (f x) (div-mul-add y w x lt)

-- one row more
pub row_more : (gives : (x y r : ℕ) → Type 0) (w y n : ℕ) (old page row : List ℕ) → n ≡ w → length row ≡ n → y * w + w ≤ length page → ((x : ℕ) → x < w → gives x y (get_or row x 0)) → RowsDrawn gives w y old page →
    RowsDrawn gives w (y + 1) old (take (y * w) page ++ (row ++ drop n (drop (y * w) page)))
row_more gives w y n old page row same long room is so =
    let part = spliced page row (y * w) n long (omega arith) in
    record {
      long = part.long ∙ so.long;
      pixels = λ x j hx hj. elim (cases_lt j y) [
        | inl lt ↦ subst (gives x j) (sym (part.others (j * w + x) 0 (inl (omega (arith, mul-add-lt j w x y lt hx))))) (so.pixels x j hx lt)
        | inr ge ↦
            let e : y ≡ j = omega arith in
            subst (λ m. gives x m (get_or (take (y * w) page ++ (row ++ drop n (drop (y * w) page))) (m * w + x) 0)) e (subst (gives x y) (sym (part.here x 0 (omega arith))) (is x hx))
      ];
      rest = λ i ge. part.others i 0 (inr (omega arith)) ∙ so.rest i (omega arith);
    }

-- bytes that are fixed by their pixels are those of a picture
module _ (gives : (x y r : ℕ) → Type 0) (f : ℕ → ℕ → ℕ) (is : (x y r : ℕ) → gives x y r → r ≡ f x y) where
  pub rows_laid : (w h : ℕ) (before after : List ℕ) → w * h ≤ length before → RowsDrawn gives w h before after → after ≡ laid (page_byte w f) (w * h) before
  rows_laid w h before after room so = laid_front (page_byte w f) (w * h) before after room so.long
      (λ i lt. elim (cases_lt 0 w) [
        | inl some ↦
            let at : (i / w) * w + i % w ≡ i = div-add-mod' i w in
            let below : i % w < w = mod_below i w some in
            let row : i / w < h = elim (cases_lt (i / w) h) [ inl a ↦ a | inr ge ↦ absurd (omega (arith, mul-le h w (i / w) w ge (omega arith), mul_comm w h)) ] in
            ap (λ m. get_or after m 0) (sym at) ∙ is (i % w) (i / w) (get_or after ((i / w) * w + i % w) 0) (so.pixels (i % w) (i / w) below row)
        | inr none ↦ absurd (omega (arith, mul-le w h 0 h none (omega arith)))
      ])
      so.rest

  pub pictured : (w h : ℕ) (frame : Frame) (r : Result ℕ Refusal) (before after : List ℕ) → w ≡ frame.width → h ≡ frame.height → DrawnBy gives w h r before after → Pictured frame f r before after
  pictured w h frame (Ok n) before after wide tall so =
      let room : w * h ≤ length before = leb-true _ _ (test_passed _ 13 0 _ n (sym so.answer)).0 in
      record { answer = rw (← wide, ← tall) so.answer; effect = rw (← wide, ← tall) (rows_laid w h before after room so.effect) }
  pictured w h frame (Err e) before after wide tall so = record { answer = rw (← wide, ← tall) so.answer; effect = so.effect }
