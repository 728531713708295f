-- A rectangle of levels laid over a table. Assumes nothing.
use Rattle.std.proofs.Common.{◌≡◌, ℕ, zero, suc, ◌+◌, ◌-◌, ◌*◌, ◌<◌, ◌≤◌, true, false, ◌⊎◌, List, sym, ap, ◌∙◌, subst, inl, inr, add-one, arith}
use Rattle.std.proofs.lemmas.Bool.{cases_lt, cond-true, cond-false}
use Rattle.std.proofs.lemmas.Bool.Decides.{nat_tests}
use Rattle.entry.specs.Group.{Group}
use Rattle.entry.specs.Sums.{prefix}
use Rattle.entry.specs.declared.kind.entry.Entry.{Ghosts}
use Rattle.sheet.specs.declared.fill.Fill.{Fill}
use Rattle.sheet.specs.declared.rectangle.Rectangle.{Rectangle}
use Rattle.sheet.specs.declared.rows.Sign.TheVariants.{Plus, Minus}
use Rattle.sheet.specs.Fill.{level_at}
use Rattle.sheet.specs.Page.{Levels, columns, covers, on_sheet, overlaid}
use Rattle.sheet.specs.Sheet.{Past, Renewed, Carried, Laid}
use Rattle.sheet.specs.Table.{cell, corner_sum, less, prefix_from, Added, Rewritten, TableOf}
use Rattle.sheet.proofs.FourCorners.{on_parts}
use Rattle.sheet.proofs.Prefixes.{prefix_same, corner_same, corner_row, less_left, shifted, prefix_split, from_prefix, corner_columns, corner_rows}
use Rattle.sheet.proofs.Tables.{past_kept}

-- off the rectangle
uncovered : (r : Rectangle) (i j : ℕ) → (i < r.left) ⊎ ((r.right < i) ⊎ ((j < r.top) ⊎ (r.bottom < j))) → covers r i j ≡ false
uncovered r i j (inl h) = grind (arith, nat_tests)
uncovered r i j (inr (inl h)) = grind (arith, nat_tests)
uncovered r i j (inr (inr (inl h))) = grind (arith, nat_tests)
uncovered r i j (inr (inr (inr h))) = grind (arith, nat_tests)

covered : (r : Rectangle) (i j : ℕ) → r.left ≤ i → i ≤ r.right → r.top ≤ j → j ≤ r.bottom → covers r i j ≡ true
covered r i j a b c d = grind (arith, nat_tests)

module _ {E : Type 0} {k : Ghosts E} (laws : Group k) (w h : ℕ) (r : Rectangle) (f : ℕ → ℕ) (t0 t1 t2 t3 : List E)
    (wide : r.left ≤ r.right) (tall : r.top ≤ r.bottom) (right : r.right < w) (bottom : r.bottom < h)
    (p1 : Added k (w + 1) t0 (r.left + 1) (r.bottom + 2) (h + 1) (r.bottom + 1) Minus t1)
    (p2 : Rewritten k (w + 1) t1 r.left (r.right + 1) r.top (r.bottom + 1) (λ i j. k.lifted (f ((j - r.top) * columns r + (i - r.left)))) t2)
    (p3 : Added k (w + 1) t2 (r.left + 1) (r.bottom + 2) (h + 1) (r.bottom + 1) Plus t3) where
  abbrev last : ℕ
  last = r.right + 1

  abbrev below : ℕ
  below = r.bottom + 1

  edit_past : Past w h t0 t3
  edit_past = past_kept k w h t0 t3 (p3.long ∙ p2.long ∙ p1.long) (λ i j hi far.
      let past : h < j = elim far [ inl none ↦ absurd (omega arith) | inr a ↦ a ] in
      p3.others i j hi (inr (inr (omega arith))) ∙ p2.others i j hi (inr (inr (omega arith))) ∙ p1.others i j hi (inr (inr (omega arith))))

  module _ (p : Levels) (was : TableOf k w h h (λ x y. k.lifted (p x y)) t0) where
    abbrev old : ℕ → ℕ → E
    old i j = k.lifted (p i j)

    abbrev new : ℕ → ℕ → E
    new i j = k.lifted (overlaid r f p i j)

    kept : (i j : ℕ) → (i < r.left) ⊎ ((r.right < i) ⊎ ((j < r.top) ⊎ (r.bottom < j))) → old i j ≡ new i j
    kept i j off = ap k.lifted (sym (cond-false (covers r i j) _ (p i j) (uncovered r i j off)))

    -- the rows down to the rectangle's last one, before they are rewritten
    first : (x y : ℕ) → x ≤ w → y ≤ below → cell k (w + 1) t1 x y ≡ corner_sum k old x y
    first x y hx hy = p1.others x y (omega arith) (inr (inl (omega arith))) ∙ was.entry x y hx (omega arith)

    -- left of the rectangle and above it nothing changes
    same_left : (x y : ℕ) → x ≤ r.left → corner_sum k old x y ≡ corner_sum k new x y
    same_left x y hx = corner_same k old new x y (λ i j hi hj. kept i j (inl (omega arith)))

    same_above : (x y : ℕ) → y ≤ r.top → corner_sum k old x y ≡ corner_sum k new x y
    same_above x y hy = corner_same k old new x y (λ i j hi hj. kept i j (inr (inr (inl (omega arith)))))

    -- the sum of a new page row, up to a column of the rectangle
    row_sum : (x j : ℕ) → r.left ≤ x → x ≤ last → r.top ≤ j → j ≤ r.bottom →
        prefix_from k (less k (cell k (w + 1) t1 r.left (j + 1)) (cell k (w + 1) t1 r.left j)) (λ n. k.lifted (f ((j - r.top) * columns r + (r.left + n - r.left)))) (x - r.left) ≡ prefix k (λ i. new i j) x
    row_sum x j lo up low high =
        let a = r.left in
        let n = x - a in
        let before : less k (cell k (w + 1) t1 a (j + 1)) (cell k (w + 1) t1 a j) ≡ prefix k (λ i. new i j) a =
        ap (λ v. less k v (cell k (w + 1) t1 a j)) (first a (j + 1) (omega arith) (omega arith) ∙ corner_row k old a j)
        ∙ ap (less k (k.joined (corner_sum k old a j) (prefix k (λ i. old i j) a))) (first a j (omega arith) (omega arith))
        ∙ less_left laws (corner_sum k old a j) (prefix k (λ i. old i j) a)
        ∙ prefix_same k (λ i. old i j) (λ i. new i j) a (λ i hi. kept i j (inl hi)) in
        let laid : ℕ → E = λ m. k.lifted (f ((j - r.top) * columns r + (a + m - a))) in
        let start = less k (cell k (w + 1) t1 a (j + 1)) (cell k (w + 1) t1 a j) in
        let levels : prefix k laid n ≡ prefix k (λ m. new (a + m) j) n =
        prefix_same k laid (λ m. new (a + m) j) n (λ m hm. ap k.lifted (sym (cond-true (covers r (a + m) j) _ (p (a + m) j) (covered r (a + m) j (omega arith) (omega arith) low high)))) in
        let whole : a + n ≡ x = omega arith in
        from_prefix laws start laid n ∙ ap (λ v. k.joined v (prefix k laid n)) before ∙ ap (k.joined (prefix k (λ i. new i j) a)) levels ∙ sym (prefix_split laws (λ i. new i j) a n) ∙ ap (prefix k (λ i. new i j)) whole

    -- one row more of the rectangle
    module _ (m : ℕ) (low : r.top ≤ m) (high : m ≤ r.bottom) (above : (x : ℕ) → x ≤ w → cell k (w + 1) t2 x m ≡ corner_sum k new x m) where
      inside : (x : ℕ) → r.left < x → x ≤ last → cell k (w + 1) t2 x (m + 1) ≡ corner_sum k new x (m + 1)
      inside x lo up =
          let a = p2.inside x m (omega arith) lo up low (omega arith) in
          let b = above x (omega arith) in
          let c = row_sum x m (omega arith) up low high in
          let d = corner_row k new x m in
          cc

      beyond : (x : ℕ) → last < x → x ≤ w → cell k (w + 1) t2 x (m + 1) ≡ corner_sum k new x (m + 1)
      beyond x lo hx =
          let n = x - last in
          let whole : last + n ≡ x = omega arith in
          let tail = λ (e : ℕ → ℕ → E). corner_sum k (λ i j. e (last + i) j) n (m + 1) in
          let same : tail old ≡ tail new = corner_same k (λ i j. old (last + i) j) (λ i j. new (last + i) j) n (m + 1) (λ i j hi hj. kept (last + i) j (inr (inl (omega arith)))) in
          let a : cell k (w + 1) t1 x (m + 1) ≡ k.joined (corner_sum k old last (m + 1)) (tail old) =
          first x (m + 1) hx (omega arith) ∙ ap (λ c. corner_sum k old c (m + 1)) (sym whole) ∙ corner_columns laws old last n (m + 1) in
          let b = first last (m + 1) (omega arith) (omega arith) in
          let c = inside last (omega arith) (omega arith) in
          let d = p2.beyond x m (omega arith) lo low (omega arith) in
          let shift : cell k (w + 1) t2 x (m + 1) ≡ k.joined (k.joined (corner_sum k old last (m + 1)) (tail old)) (less k (corner_sum k new last (m + 1)) (corner_sum k old last (m + 1))) = cc in
          shift ∙ shifted laws (corner_sum k old last (m + 1)) (corner_sum k new last (m + 1)) (tail old) ∙ ap (k.joined (corner_sum k new last (m + 1))) same
          ∙ sym (corner_columns laws new last n (m + 1)) ∙ ap (λ c. corner_sum k new c (m + 1)) whole

      row : (x : ℕ) → x ≤ w → cell k (w + 1) t2 x (m + 1) ≡ corner_sum k new x (m + 1)
      row x hx = elim (cases_lt r.left x) [
        | inl lo ↦ elim (cases_lt last x) [ inl far ↦ beyond x far hx | inr near ↦ inside x lo near ]
        | inr le ↦ p2.others x (m + 1) (omega arith) (inl le) ∙ first x (m + 1) hx (omega arith) ∙ same_left x (m + 1) le
      ]

    rows : (y x : ℕ) → x ≤ w → y ≤ below → cell k (w + 1) t2 x y ≡ corner_sum k new x y
    rows zero x hx hy = p2.others x 0 (omega arith) (inr (inl (omega arith))) ∙ first x 0 hx hy ∙ same_above x 0 (omega arith)
    rows (suc m) x hx hy = elim (cases_lt m r.top) [
      | inl lt ↦ p2.others x (suc m) (omega arith) (inr (inl (omega arith))) ∙ first x (suc m) hx hy ∙ same_above x (suc m) (omega arith)
      | inr ge ↦ subst (λ y. cell k (w + 1) t2 x y ≡ corner_sum k new x y) (add-one m) (row m ge (omega arith) (λ x' hx'. rows m x' hx' (omega arith)) x hx)
    ]

    -- the rows below the rectangle
    under : (x y : ℕ) → x ≤ w → y ≤ h → below < y → cell k (w + 1) t3 x y ≡ corner_sum k new x y
    under x y hx hy lo = elim (cases_lt r.left x) [
      | inl right ↦
          let n = y - below in
          let whole : below + n ≡ y = omega arith in
          let tail = λ (e : ℕ → ℕ → E). corner_sum k (λ i j. e i (below + j)) x n in
          let same : tail old ≡ tail new = corner_same k (λ i j. old i (below + j)) (λ i j. new i (below + j)) x n (λ i j hi hj. kept i (below + j) (inr (inr (inr (omega arith))))) in
          let a = p3.rows x y (omega arith) (omega arith) (omega arith) (omega arith) in
          let b = rows below x hx (omega arith) in
          let c = p2.others x y (omega arith) (inr (inr lo)) ∙ p1.rows x y (omega arith) (omega arith) (omega arith) (omega arith) in
          let d : cell k (w + 1) t0 x y ≡ k.joined (corner_sum k old x below) (tail old) = was.entry x y hx hy ∙ ap (corner_sum k old x) (sym whole) ∙ corner_rows laws old x below n in
          let e = was.entry x below hx (omega arith) in
          let left : cell k (w + 1) t2 x y ≡ less k (k.joined (corner_sum k old x below) (tail old)) (corner_sum k old x below) = cc in
          let rest : cell k (w + 1) t2 x y ≡ tail new = left ∙ less_left laws (corner_sum k old x below) (tail old) ∙ same in
          let joined : cell k (w + 1) t3 x y ≡ k.joined (tail new) (corner_sum k new x below) = cc in
          joined ∙ laws.commutative (tail new) (corner_sum k new x below) ∙ sym (corner_rows laws new x below n) ∙ ap (corner_sum k new x) whole
      | inr le ↦
          p3.others x y (omega arith) (inl (omega arith)) ∙ p2.others x y (omega arith) (inl le) ∙ p1.others x y (omega arith) (inl (omega arith)) ∙ was.entry x y hx hy ∙ same_left x y le
    ]

    edit_table : TableOf k w h h (λ x y. k.lifted (overlaid r f p x y)) t3
    edit_table = record {
      entry = λ x y hx hy. elim (cases_lt below y) [
        | inl lo ↦ under x y hx hy lo
        | inr le ↦ p3.others x y (omega arith) (inr (inl (omega arith))) ∙ rows y x hx le
      ];
      rest = λ x y hx lo up. absurd (omega arith);
    }

-- The rows below lose what the rectangle's last row has, the rectangle is laid, and the rows below get that row back.
pub edit_law : {E : Type 0} {k : Ghosts E} → Group k → (w h : ℕ) (r : Rectangle) (fill : Fill) (t0 t1 t2 t3 : List E) → on_sheet w h r ≡ true →
    Carried k w h r Minus t0 t1 → Laid k w (record { start = r.left; end = r.right + 1 }) (record { start = r.top; end = r.bottom + 1 }) fill t1 t2 → Carried k w h r Plus t2 t3 → Renewed k w h h h (overlaid r (level_at fill)) t0 t3
unfolding Renewed
edit_law laws w h r fill t0 t1 t2 t3 is p1 p2 p3 =
    let on = on_parts w h r is in
    record {
      past = edit_past laws w h r (level_at fill) t0 t1 t2 t3 on.0 on.1 on.2 on.3 p1.rows p2.rows p3.rows;
      table = λ p was some. edit_table laws w h r (level_at fill) t0 t1 t2 t3 on.0 on.1 on.2 on.3 p1.rows p2.rows p3.rows p (was some);
    }
