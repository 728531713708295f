-- What rows laid on a table make of it. Assumes nothing.
use Rattle.std.proofs.Common.{◌≡◌, ℕ, zero, suc, ◌+◌, ◌-◌, ◌*◌, ◌/◌, ◌%◌, ◌<◌, ◌≤◌, eqb, ◌⊎◌, List, length, get_or, drop, sym, ap, ◌∙◌, inl, inr, add-one, arith, length-drop, get_or-drop}
use Rattle.std.proofs.lemmas.Nat.{div-add-mod', mod_below, le-div}
use Rattle.std.proofs.lemmas.List.{ext_get_or}
use Rattle.std.proofs.lemmas.Bool.{cases_lt, cases_eq, cond-false, ne_eqb}
use Rattle.entry.specs.Sums.{prefix}
use Rattle.entry.specs.declared.kind.entry.Entry.{Ghosts}
use Rattle.sheet.specs.Page.{Levels}
use Rattle.sheet.specs.Sheet.{table_size, Past}
use Rattle.sheet.specs.Table.{cell, corner_sum, TableOf}
use Rattle.sheet.proofs.Prefixes.{corner_same}

module _ {E : Type 0} (k : Ghosts E) where
  -- In `after` each row from top + 1 to bottom is the row above it joined with what h has for that row above; the other rows are those of `before`.
  pub record Summed (stride : ℕ) (before : List E) (top bottom : ℕ) (h : ℕ → ℕ → E) (after : List E) : Type 0 where
    pub long : length after ≡ length before
    pub rows : (i j : ℕ) → i < stride → top ≤ j → j < bottom → cell k stride after i (j + 1) ≡ k.joined (cell k stride after i j) (h i j)
    pub others : (i j : ℕ) → i < stride → (j ≤ top) ⊎ (bottom < j) → cell k stride after i j ≡ cell k stride before i j

  -- rows that are joined to the row above, on top of rows that are right, are right
  sums_stand : (s top bottom : ℕ) (before after : List E) (h e : ℕ → ℕ → E) → Summed s before top bottom h after →
      ((x y : ℕ) → x < s → y ≤ top → cell k s before x y ≡ corner_sum k e x y) → ((x j : ℕ) → x < s → top ≤ j → j < bottom → h x j ≡ prefix k (λ i. e i j) x) →
      (x y : ℕ) → x < s → (y ≤ bottom) ⊎ (y ≤ top) → cell k s after x y ≡ corner_sum k e x y
  sums_stand s top bottom before after h e so base rows x zero hx hy = so.others x 0 hx (inl (omega arith)) ∙ base x 0 hx (omega arith)
  sums_stand s top bottom before after h e so base rows x (suc m) hx hy = elim (cases_lt m top) [
    | inl lt ↦ so.others x (suc m) hx (inl (omega arith)) ∙ base x (suc m) hx (omega arith)
    | inr ge ↦
        let up : m < bottom = elim hy [ inl a ↦ omega arith | inr a ↦ omega arith ] in
        let last = sums_stand s top bottom before after h e so base rows x m hx (inl (omega arith)) in
        ap (cell k s after x) (sym (add-one m)) ∙ so.rows x m hx ge up ∙ ap (λ v. k.joined v (h x m)) last ∙ ap (k.joined (corner_sum k e x m)) (rows x m hx ge up)
  ]

  -- more rows laid on a table of p give the table of q
  pub laid_on : (w h rows rows' : ℕ) (before after : List E) (f : ℕ → ℕ → E) (p q : Levels) → rows ≤ rows' → Summed (w + 1) before rows rows' f after →
      ((i j : ℕ) → j < rows → p i j ≡ q i j) → ((x j : ℕ) → x < w + 1 → rows ≤ j → j < rows' → f x j ≡ prefix k (λ i. k.lifted (q i j)) x) →
      TableOf k w h rows (λ x y. k.lifted (p x y)) before → TableOf k w h rows' (λ x y. k.lifted (q x y)) after
  laid_on w h rows rows' before after f p q le so same new was = record {
    entry = λ x y hx hy. sums_stand (w + 1) rows rows' before after f (λ i j. k.lifted (q i j)) so
        (λ i j hi hj. was.entry i j (omega arith) hj ∙ corner_same k (λ a b. k.lifted (p a b)) (λ a b. k.lifted (q a b)) i j (λ a b ha hb. ap k.lifted (same a b (omega arith))))
        new
        x
        y
        (omega arith)
        (inl hy);
    rest = λ x y hx lo up. so.others x y (omega arith) (inr lo) ∙ was.rest x y hx (omega arith) up;
  }

  -- rows past the table are as they were, and so is the memory past it
  pub past_kept : (w h : ℕ) (before after : List E) → length after ≡ length before → ((i j : ℕ) → i < w + 1 → (h ≡ 0) ⊎ (h < j) → cell k (w + 1) after i j ≡ cell k (w + 1) before i j) → Past w h before after
  past_kept w h before after long kept =
      let n = table_size w h in
      record {
        long = long;
        same = ext_get_or k.neutral (drop n after) (drop n before) (length-drop n after ∙ ap (λ m. m - n) long ∙ sym (length-drop n before)) (λ i hi.
            let s = w + 1 in
            let m = n + i in
            let at : (m / s) * s + m % s ≡ m = div-add-mod' m s in
            let far : (h ≡ 0) ⊎ (h < m / s) = elim (cases_eq h 0) [
              | inl e ↦ inl e
              | inr ne ↦
                  let size : n ≡ s * (h + 1) = cond-false (eqb h 0) 0 (s * (h + 1)) (ne_eqb h 0 ne) in
                  let le : h + 1 ≤ m / s = le-div (h + 1) m s (omega arith) (omega (arith, size)) in
                  inr (omega arith)
            ] in
            get_or-drop n after i k.neutral ∙ ap (λ a. get_or after a k.neutral) (sym at) ∙ kept (m % s) (m / s) (mod_below m s (omega arith)) far ∙ ap (λ a. get_or before a k.neutral) at ∙ sym (get_or-drop n before i k.neutral));
      }
