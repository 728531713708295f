-- Regions cut at the frame. Assumes nothing.
use Rattle.std.proofs.Common.{◌≡◌, ℕ, zero, suc, ◌+◌, ◌-◌, ◌*◌, ◌<◌, ◌≤◌, Bool, true, false, cond, ◌&&◌, ltb, List, sym, refl, ap, ◌∙◌, inl, inr, mul-zero, mul-one, mul-add, arith}
use Rattle.std.proofs.lemmas.Bool.{and_parts, cases_Bool, cond-false, cond-true, ltb-true}
use Rattle.std.proofs.lemmas.Bool.Decides.{nat_tests}
use Rattle.entry.specs.Group.{Group}
use Rattle.entry.specs.Sums.{prefix, plain_sum}
use Rattle.entry.specs.declared.kind.entry.Entry.{Ghosts}
use Rattle.entry.proofs.ModularSums.{sum_same, sum_none}
use Rattle.sheet.specs.declared.span.Span.{Span}
use Rattle.sheet.specs.Cut.{in_span, cut_end, cut_start, cut_length, in_region, cut_area, cut_sum, count_pixels, CutLaw}
use Rattle.sheet.specs.Page.{Levels}
use Rattle.sheet.specs.Sheet.{Holds, corners}
use Rattle.sheet.specs.Table.{corner_sum}
use Rattle.sheet.proofs.FourCorners.{corners_read}
use Rattle.sheet.proofs.Prefixes.{prefix_same, prefix_split, prefix_none, corners_inside}

-- the part of a span below n lies in it, and what is below n and not in that part does not
pub cut_order : (n : ℕ) (s : Span) → (cut_start n s ≤ cut_end n s) × (cut_end n s ≤ n)
cut_order n s = (omega arith, omega arith)

span_before : {A : Type 0} (n : ℕ) (s : Span) (i : ℕ) (x y : A) → i < cut_start n s → cond (in_span s i) x y ≡ y
span_before n s i x y lt = grind (arith, nat_tests)

span_inside : {A : Type 0} (n : ℕ) (s : Span) (i : ℕ) (x y : A) → cut_start n s ≤ i → i < cut_end n s → cond (in_span s i) x y ≡ x
span_inside n s i x y lo up = grind (arith, nat_tests)

span_after : {A : Type 0} (n : ℕ) (s : Span) (i : ℕ) (x y : A) → cut_end n s ≤ i → i < n → cond (in_span s i) x y ≡ y
span_after n s i x y lo up = grind (arith, nat_tests)

and_true : (b : Bool) → (b && true) ≡ b
and_true true = refl
and_true false = refl

and_false : (b : Bool) → (b && false) ≡ false
and_false true = refl
and_false false = refl

module _ {E : Type 0} {k : Ghosts E} (laws : Group k) where
  -- what lies in a span, of the first n entries
  prefix_cut : (f : ℕ → E) (s : Span) (n : ℕ) → prefix k (λ i. cond (in_span s i) (f i) k.neutral) n ≡ prefix k (λ i. f (cut_start n s + i)) (cut_length n s)
  prefix_cut f s n =
      let a = cut_start n s in
      let m = cut_length n s in
      let rest = n - (a + m) in
      let o = cut_order n s in
      let g : ℕ → E = λ i. cond (in_span s i) (f i) k.neutral in
      let all : n ≡ a + m + rest = omega arith in
      let before : prefix k g a ≡ k.neutral = prefix_none laws g a (λ i hi. span_before n s i (f i) k.neutral hi) in
      let mid : prefix k (λ i. g (a + i)) m ≡ prefix k (λ i. f (a + i)) m = prefix_same k (λ i. g (a + i)) (λ i. f (a + i)) m (λ i hi. span_inside n s (a + i) (f (a + i)) k.neutral (omega arith) (omega arith)) in
      let after : prefix k (λ i. g (a + m + i)) rest ≡ k.neutral = prefix_none laws (λ i. g (a + m + i)) rest (λ i hi. span_after n s (a + m + i) (f (a + m + i)) k.neutral (omega arith) (omega arith)) in
      let first = prefix_split laws g (a + m) rest in
      let second = prefix_split laws g a m in
      let third = laws.identity (k.joined k.neutral (prefix k (λ i. f (a + i)) m)) in
      let fourth = laws.commutative k.neutral (prefix k (λ i. f (a + i)) m) in
      let fifth = laws.identity (prefix k (λ i. f (a + i)) m) in
      ap (prefix k g) all ∙ first
      ∙ ap (λ v. k.joined v (prefix k (λ i. g (a + m + i)) rest)) (second ∙ ap (λ v. k.joined v (prefix k (λ i. g (a + i)) m)) before ∙ ap (k.joined k.neutral) mid)
      ∙ ap (k.joined (k.joined k.neutral (prefix k (λ i. f (a + i)) m))) after
      ∙ third ∙ fourth ∙ fifth

  prefix_row : (f : ℕ → E) (t : ℕ → Bool) (b : Bool) (n : ℕ) → prefix k (λ i. cond (t i && b) (f i) k.neutral) n ≡ cond b (prefix k (λ i. cond (t i) (f i) k.neutral) n) k.neutral
  prefix_row f t true n = prefix_same k _ (λ i. cond (t i) (f i) k.neutral) n (λ i hi. ap (λ b. cond b (f i) k.neutral) (and_true (t i)))
  prefix_row f t false n = prefix_none laws _ n (λ i hi. ap (λ b. cond b (f i) k.neutral) (and_false (t i)))

  module _ (w h : ℕ) (columns rows : Span) where
    -- the entries in a region of the frame
    region_cut : (e : ℕ → ℕ → E) → corner_sum k (λ x y. cond (in_region columns rows x y) (e x y) k.neutral) w h ≡ corner_sum k (λ i j. e (cut_start w columns + i) (cut_start h rows + j)) (cut_length w columns) (cut_length h rows)
    region_cut e =
        let row : ℕ → E = λ y. prefix k (λ i. e (cut_start w columns + i) y) (cut_length w columns) in
        prefix_same k _ (λ y. cond (in_span rows y) (row y) k.neutral) h
        (λ y hy. prefix_row (λ x. e x y) (in_span columns) (in_span rows y) w ∙ ap (λ v. cond (in_span rows y) v k.neutral) (prefix_cut (λ x. e x y) columns w))
        ∙ prefix_cut row rows h

    none_left : (e : ℕ → ℕ → E) → (ltb (cut_start w columns) (cut_end w columns) && ltb (cut_start h rows) (cut_end h rows)) ≡ false → corner_sum k e (cut_length w columns) (cut_length h rows) ≡ k.neutral
    none_left e empty = elim (cases_Bool (ltb (cut_start w columns) (cut_end w columns))) [
      | inl some ↦
          let none : cut_length h rows ≡ 0 = grind (arith, nat_tests) in
          ap (corner_sum k e (cut_length w columns)) none
      | inr no-columns ↦
          let none : cut_length w columns ≡ 0 = grind (arith, nat_tests) in
          ap (λ n. corner_sum k e n (cut_length h rows)) none ∙ prefix_none laws _ (cut_length h rows) (λ j hj. refl)
    ]

    -- the four corners of what is left of a region
    pub cut_inside : (p : Levels) (memory : List E) → Holds k w h h p memory →
        cut_sum k w h memory columns rows ≡ corner_sum k (λ i j. k.lifted (p (cut_start w columns + i) (cut_start h rows + j))) (cut_length w columns) (cut_length h rows)
    cut_inside p memory holds =
        let e : ℕ → ℕ → E = λ x y. k.lifted (p x y) in
        let a = cut_start w columns in
        let c = cut_start h rows in
        let inner : ℕ → ℕ → E = λ i j. e (a + i) (c + j) in
        let some = ltb a (cut_end w columns) && ltb c (cut_end h rows) in
        let across = cut_order w columns in
        let down = cut_order h rows in
        elim (cases_Bool some) [
          | inl full ↦
              let both = and_parts (ltb a (cut_end w columns)) (ltb c (cut_end h rows)) full in
              let lt = ltb-true c (cut_end h rows) both.1 in
              let right : cut_end w columns ≡ a + cut_length w columns = omega arith in
              let bottom : cut_end h rows ≡ c + cut_length h rows = omega arith in
              cond-true some _ k.neutral full
              ∙ corners_read w h p memory holds a (cut_end w columns) c (cut_end h rows) across.0 across.1 down.0 down.1 (omega arith)
              ∙ ap (λ n. corners k (corner_sum k e) a n c (cut_end h rows)) right
              ∙ ap (corners k (corner_sum k e) a (a + cut_length w columns) c) bottom
              ∙ corners_inside laws e a c (cut_length w columns) (cut_length h rows)
          | inr empty ↦ cond-false some _ k.neutral empty ∙ sym (none_left inner empty)
        ]

-- counting

length_more : (n : ℕ) (s : Span) → cut_length (suc n) s ≡ cut_length n s + cond (in_span s n) 1 0
length_more n s = grind (arith, nat_tests)

count_cut : (v n : ℕ) (s : Span) → plain_sum (λ i. cond (in_span s i) v 0) n ≡ v * cut_length n s
count_cut v zero s = let none : cut_length 0 s ≡ 0 = omega arith in sym (ap (λ n. v * n) none ∙ mul-zero v)
count_cut v (suc n) s =
    ap (λ m. m + cond (in_span s n) v 0) (count_cut v n s)
    ∙ ap (λ m. v * cut_length n s + m) (elim (in_span s n) as (λ b. cond b v 0 ≡ v * cond b 1 0) [ true ↦ sym (mul-one v) | false ↦ sym (mul-zero v) ])
    ∙ sym (mul-add v (cut_length n s) (cond (in_span s n) 1 0))
    ∙ ap (λ n. v * n) (sym (length_more n s))

count_row : (t : ℕ → Bool) (b : Bool) (n : ℕ) → plain_sum (λ i. cond (t i && b) 1 0) n ≡ cond b (plain_sum (λ i. cond (t i) 1 0) n) 0
count_row t true n = sum_same _ (λ i. cond (t i) 1 0) n (λ i hi. ap (λ b. cond b 1 0) (and_true (t i)))
count_row t false n = sum_same _ (λ i. 0) n (λ i hi. ap (λ b. cond b 1 0) (and_false (t i))) ∙ sum_none n

area_counts : (w h : ℕ) (columns rows : Span) → cut_area w h columns rows ≡ count_pixels w h (in_region columns rows)
area_counts w h columns rows =
    let m = cut_length w columns in
    sym (sum_same _ (λ y. cond (in_span rows y) m 0) h (λ y hy.
    count_row (in_span columns) (in_span rows y) w ∙ ap (λ v. cond (in_span rows y) v 0) (count_cut 1 w columns ∙ omega arith))
    ∙ count_cut m h rows)

pub cut_law_lem : {E : Type 0} {k : Ghosts E} → Group k → CutLaw k
cut_law_lem {E} {k} laws = record {
  sums = λ w h p memory holds columns rows. cut_inside laws w h columns rows p memory holds ∙ sym (region_cut laws w h columns rows (λ x y. k.lifted (p x y)));
  areas = area_counts;
}
