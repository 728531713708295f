-- Rows of a table, one after another. Assumes nothing.
use Rattle.std.proofs.Common.{◌≡◌, ℕ, ◌+◌, ◌-◌, ◌<◌, ◌≤◌, List, sym, refl, ap, ◌∙◌, subst, inl, inr, arith}
use Rattle.std.proofs.lemmas.Bool.{cases_lt}
use Rattle.entry.specs.declared.kind.entry.Entry.{Ghosts}
use Rattle.sheet.specs.declared.rows.Sign.{Sign}
use Rattle.sheet.specs.Table.{cell, less, signed, prefix_from, Filled, Added, Rewritten}
use Rattle.sheet.proofs.Prefixes.{from_same}

-- one row of levels: the columns of the rectangle, and then those right of it
module _ {E : Type 0} (k : Ghosts E) (s y left right : ℕ) (t0 t1 t2 : List E) (h : ℕ → E) (change : E) (f : ℕ → ℕ → E)
    (wide : left < right) (on : right < s)
    (p1 : Filled k s t0 (y + 1) (left + 1) (right + 1) (λ i. k.joined (cell k s t0 i y) (prefix_from k (less k (cell k s t0 left (y + 1)) (cell k s t0 left y)) h (i - left))) t1)
    (is : change ≡ less k (cell k s t1 right (y + 1)) (cell k s t0 right (y + 1)))
    (p2 : Filled k s t1 (y + 1) (right + 1) s (λ i. k.joined (cell k s t1 i (y + 1)) change) t2)
    (same : (n : ℕ) → h n ≡ f (left + n) y) where
  abbrev start : ℕ → E
  start j = less k (cell k s t0 left (j + 1)) (cell k s t0 left j)

  kept : (i : ℕ) → i < s → i ≤ right → cell k s t2 i (y + 1) ≡ cell k s t1 i (y + 1)
  kept i hi le = p2.others i (y + 1) hi (inl (omega arith))

  above : (i : ℕ) → i < s → cell k s t2 i y ≡ cell k s t0 i y
  above i hi = p2.others i y hi (inr (inr (λ e. omega arith))) ∙ p1.others i y hi (inr (inr (λ e. omega arith)))

  inside : (i : ℕ) → i < s → left < i → i ≤ right → cell k s t2 i (y + 1) ≡ k.joined (cell k s t2 i y) (prefix_from k (start y) (λ n. f (left + n) y) (i - left))
  inside i hi lo up =
      let a = kept i hi up in
      let b = p1.here i hi (omega arith) (omega arith) in
      let d = above i hi in
      let e = from_same k (start y) h (λ n. f (left + n) y) (i - left) (λ n hn. same n) in
      cc

  beyond : (i : ℕ) → i < s → right < i → cell k s t2 i (y + 1) ≡ k.joined (cell k s t0 i (y + 1)) (less k (cell k s t2 right (y + 1)) (cell k s t0 right (y + 1)))
  beyond i hi lo =
      let a = p2.here i hi (omega arith) hi in
      let b = p1.others i (y + 1) hi (inr (inl (omega arith))) in
      let d = kept right on (omega arith) in
      cc

  pub row_rewritten : Rewritten k s t0 left right y (y + 1) f t2
  row_rewritten = record {
    long = p2.long ∙ p1.long;
    inside = λ i j hi lo up low high. let e : y ≡ j = omega arith in subst (λ m. cell k s t2 i (m + 1) ≡ k.joined (cell k s t2 i m) (prefix_from k (start m) (λ n. f (left + n) m) (i - left))) e (inside i hi lo up);
    beyond = λ i j hi lo low high.
        let e : y ≡ j = omega arith in
        subst (λ m. cell k s t2 i (m + 1) ≡ k.joined (cell k s t0 i (m + 1)) (less k (cell k s t2 right (m + 1)) (cell k s t0 right (m + 1)))) e (beyond i hi lo);
    others = λ i j hi out. elim out [
      | inl le ↦ p2.others i j hi (inl (omega arith)) ∙ p1.others i j hi (inl (omega arith))
      | inr (inl up) ↦ p2.others i j hi (inr (inr (λ e. omega arith))) ∙ p1.others i j hi (inr (inr (λ e. omega arith)))
      | inr (inr down) ↦ p2.others i j hi (inr (inr (λ e. omega arith))) ∙ p1.others i j hi (inr (inr (λ e. omega arith)))
    ];
  }

-- rows, one more each time
module _ {E : Type 0} (k : Ghosts E) (s : ℕ) (before : List E) where
  -- rows of the same levels
  pub rewritten_same : (left right top bottom : ℕ) (f g : ℕ → ℕ → E) (after : List E) → ((n j : ℕ) → top ≤ j → j < bottom → f (left + n) j ≡ g (left + n) j) →
      Rewritten k s before left right top bottom f after → Rewritten k s before left right top bottom g after
  rewritten_same left right top bottom f g after same so = record {
    long = so.long;
    inside = λ i j hi lo up low high. so.inside i j hi lo up low high
        ∙ ap (k.joined (cell k s after i j)) (from_same k (less k (cell k s before left (j + 1)) (cell k s before left j)) (λ n. f (left + n) j) (λ n. g (left + n) j) (i - left) (λ n hn. same n j low high));
    beyond = so.beyond;
    others = so.others;
  }

  -- one row joined to each of several
  pub added_none : (left top base : ℕ) (sign : Sign) → Added k s before left top top base sign before
  added_none left top base sign = record { long = refl; rows = λ i j hi far low high. absurd (omega arith); others = λ i j hi out. refl }

  pub added_more : (left top y base : ℕ) (sign : Sign) (after next : List E) → base < top → top ≤ y → Added k s before left top y base sign after →
      Filled k s after y left s (λ i. k.joined (cell k s after i y) (signed k sign (cell k s after i base))) next → Added k s before left top (y + 1) base sign next
  added_more left top y base sign after next far low so row = record {
    long = row.long ∙ so.long;
    rows = λ i j hi col lo up. elim (cases_lt j y) [
      | inl lt ↦ row.others i j hi (inr (inr (λ e. omega arith))) ∙ so.rows i j hi col lo lt
      | inr ge ↦
          let e : y ≡ j = omega arith in
          let here = so.others i y hi (inr (inr (omega arith))) in
          let from = so.others i base hi (inr (inl (omega arith))) in
          let is = row.here i hi col hi in
          let new : cell k s next i y ≡ k.joined (cell k s before i y) (signed k sign (cell k s before i base)) = cc in
          subst (λ m. cell k s next i m ≡ k.joined (cell k s before i m) (signed k sign (cell k s before i base))) e new
    ];
    others = λ i j hi out. elim out [
      | inl l ↦ row.others i j hi (inl l) ∙ so.others i j hi (inl l)
      | inr (inl u) ↦ row.others i j hi (inr (inr (λ e. omega arith))) ∙ so.others i j hi (inr (inl u))
      | inr (inr d) ↦ row.others i j hi (inr (inr (λ e. omega arith))) ∙ so.others i j hi (inr (inr (omega arith)))
    ];
  }

  -- rows of levels, one more each time
  pub rewritten_none : (left right y : ℕ) (f : ℕ → ℕ → E) → Rewritten k s before left right y y f before
  rewritten_none left right y f = record {
    long = refl;
    inside = λ i j hi lo up low high. absurd (omega arith);
    beyond = λ i j hi lo low high. absurd (omega arith);
    others = λ i j hi out. refl;
  }

  module _ (left right top y : ℕ) (f g : ℕ → ℕ → E) (after next : List E) (wide : left < right) (on : right < s) (low : top ≤ y)
      (so : Rewritten k s before left right top y f after) (row : Rewritten k s after left right y (y + 1) g next) (same : (n : ℕ) → g (left + n) y ≡ f (left + n) y) where
    abbrev sums : (ℕ → ℕ → E) → List E → ℕ → ℕ → E
    sums h t i j = prefix_from k (less k (cell k s t left (j + 1)) (cell k s t left j)) (λ n. h (left + n) j) (i - left)

    inside_more : (i : ℕ) → i < s → left < i → i ≤ right → cell k s next i (y + 1) ≡ k.joined (cell k s next i y) (sums f before i y)
    inside_more i hi lo up =
        let is = row.inside i y hi lo up (omega arith) (omega arith) in
        let a = so.others left (y + 1) (omega arith) (inl (omega arith)) in
        let b = so.others left y (omega arith) (inl (omega arith)) in
        let d = from_same k (less k (cell k s before left (y + 1)) (cell k s before left y)) (λ n. g (left + n) y) (λ n. f (left + n) y) (i - left) (λ n hn. same n) in
        let e : sums g after i y ≡ sums g before i y = ap (λ v. prefix_from k (less k v (cell k s after left y)) (λ n. g (left + n) y) (i - left)) a ∙ ap (λ v. prefix_from k (less k (cell k s before left (y + 1)) v) (λ n. g (left + n) y) (i - left)) b in
        is ∙ ap (k.joined (cell k s next i y)) (e ∙ d)

    beyond_more : (i : ℕ) → i < s → right < i → cell k s next i (y + 1) ≡ k.joined (cell k s before i (y + 1)) (less k (cell k s next right (y + 1)) (cell k s before right (y + 1)))
    beyond_more i hi lo =
        let is = row.beyond i y hi lo (omega arith) (omega arith) in
        let a = so.others i (y + 1) hi (inr (inr (omega arith))) in
        let b = so.others right (y + 1) on (inr (inr (omega arith))) in
        cc

    pub rewritten_more : Rewritten k s before left right top (y + 1) f next
    rewritten_more = record {
      long = row.long ∙ so.long;
      inside = λ i j hi lo up low high. elim (cases_lt j y) [
        | inl lt ↦
            let is = so.inside i j hi lo up low lt in
            row.others i (j + 1) hi (inr (inl (omega arith))) ∙ is ∙ ap (λ v. k.joined v (sums f before i j)) (sym (row.others i j hi (inr (inl (omega arith)))))
        | inr ge ↦ let e : y ≡ j = omega arith in subst (λ m. cell k s next i (m + 1) ≡ k.joined (cell k s next i m) (sums f before i m)) e (inside_more i hi lo up)
      ];
      beyond = λ i j hi lo low high. elim (cases_lt j y) [
        | inl lt ↦
            let is = so.beyond i j hi lo low lt in
            let a = row.others i (j + 1) hi (inr (inl (omega arith))) in
            let b = row.others right (j + 1) on (inr (inl (omega arith))) in
            cc
        | inr ge ↦
            let e : y ≡ j = omega arith in
            subst (λ m. cell k s next i (m + 1) ≡ k.joined (cell k s before i (m + 1)) (less k (cell k s next right (m + 1)) (cell k s before right (m + 1)))) e (beyond_more i hi lo)
      ];
      others = λ i j hi out. elim out [
        | inl l ↦ row.others i j hi (inl l) ∙ so.others i j hi (inl l)
        | inr (inl u) ↦ row.others i j hi (inr (inl (omega arith))) ∙ so.others i j hi (inr (inl u))
        | inr (inr d) ↦ row.others i j hi (inr (inr (omega arith))) ∙ so.others i j hi (inr (inr (omega arith)))
      ];
    }
