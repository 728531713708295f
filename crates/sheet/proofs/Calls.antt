-- What levels laid over all columns make of the table of a page. Assumes nothing.
use Rattle.std.proofs.Common.{◌≡◌, ℕ, ◌+◌, ◌-◌, ◌*◌, ◌<◌, ◌≤◌, eqb, ltb, List, length, get_or, sym, refl, ap, ◌∙◌, inl, inr, arith}
use Rattle.std.proofs.lemmas.Nat.{mul-add-lt, mul-le}
use Rattle.std.proofs.lemmas.Bool.{cases_lt, cond-true, cond-false, eq-eqb, ne_eqb, lt-ltb, le-ltb}
use Rattle.entry.specs.Group.{Group}
use Rattle.entry.specs.Sums.{prefix}
use Rattle.entry.specs.declared.kind.entry.Entry.{Ghosts}
use Rattle.sheet.specs.declared.fill.Fill.{Fill}
use Rattle.sheet.specs.Fill.{level_at}
use Rattle.sheet.specs.Page.{Levels, with_row, with_rest}
use Rattle.sheet.specs.PageTable.{page_levels, PageTable}
use Rattle.sheet.specs.Sheet.{Blank, Laid, Past, Renewed}
use Rattle.sheet.specs.Table.{cell, corner_sum, entry_at, less, prefix_from, Rewritten, TableOf}
use Rattle.sheet.proofs.Parts.{Spliced}
use Rattle.sheet.proofs.Prefixes.{prefix_same, prefix_none, from_prefix}
use Rattle.sheet.proofs.Tables.{Summed, laid_on, past_kept}

module _ {E : Type 0} {k : Ghosts E} (laws : Group k) (w h : ℕ) where
  -- the column left of the page has the identity in every row
  first_column : (rows : ℕ) (e : ℕ → ℕ → E) (t : List E) → TableOf k w h rows e t → (y : ℕ) → y ≤ h → cell k (w + 1) t 0 y ≡ k.neutral
  first_column rows e t is y le = elim (cases_lt rows y) [
    | inl lo ↦ is.rest 0 y (omega arith) lo le
    | inr up ↦ is.entry 0 y (omega arith) up ∙ prefix_none laws (λ j. k.neutral) y (λ j hj. refl)
  ]

  module _ (rows : ℕ) (e : ℕ → ℕ → E) (before after : List E) (was : TableOf k w h rows e before) (top bottom : ℕ) (f : ℕ → ℕ → E) (le : bottom ≤ h) (so : Rewritten k (w + 1) before 0 w top bottom f after) where
    rewritten_summed : Summed k (w + 1) before top bottom (λ i j. prefix k (λ n. f n j) i) after
    rewritten_summed =
        let first = first_column rows e before was in
        record {
          long = so.long;
          rows = λ i j hi lo up. elim (cases_lt 0 i) [
            | inl some ↦
                let start : less k (cell k (w + 1) before 0 (j + 1)) (cell k (w + 1) before 0 j) ≡ k.neutral =
                ap (λ v. less k v (cell k (w + 1) before 0 j)) (first (j + 1) (omega arith) ∙ sym (first j (omega arith))) ∙ laws.inverses (cell k (w + 1) before 0 j) in
                let level : (n : ℕ) → f (0 + n) j ≡ f n j = λ n. ap (λ m. f m j) (let z : 0 + n ≡ n = omega arith in z) in
                let count : i - 0 ≡ i = omega arith in
                so.inside i j hi some (omega arith) lo up
                ∙ ap (k.joined (cell k (w + 1) after i j))
                (ap (λ v. prefix_from k v (λ n. f (0 + n) j) (i - 0)) start ∙ from_prefix laws k.neutral (λ n. f (0 + n) j) (i - 0) ∙ laws.commutative k.neutral (prefix k (λ n. f (0 + n) j) (i - 0)) ∙ laws.identity (prefix k (λ n. f (0 + n) j) (i - 0))
                ∙ prefix_same k (λ n. f (0 + n) j) (λ n. f n j) (i - 0) (λ n hn. level n) ∙ ap (prefix k (λ n. f n j)) count)
            | inr none ↦
                let z : i ≡ 0 = omega arith in
                let stays : (y : ℕ) → y ≤ h → cell k (w + 1) after i y ≡ k.neutral = λ y hy. so.others i y hi (inl none) ∙ ap (λ n. cell k (w + 1) before n y) z ∙ first y hy in
                stays (j + 1) (omega arith) ∙ sym (laws.identity k.neutral) ∙ sym (ap (λ v. k.joined v k.neutral) (stays j (omega arith))) ∙ ap (λ n. k.joined (cell k (w + 1) after i j) (prefix k (λ n. f n j) n)) (sym z)
          ];
          others = λ i j hi out. so.others i j hi (inr out);
        }

  -- the levels of `fill`, row after row, laid into the page rows from `top` on and below `bottom`
  module _ (top bottom : ℕ) (fill : Fill) (before after : List E) (low : top ≤ bottom) (high : bottom ≤ h) (so : Laid k w (record { start = 0; end = w }) (record { start = top; end = bottom }) fill before after) where
    pub laid_past : Past w h before after
    laid_past =
        past_kept k w h before after so.rows.long (λ i j hi far. so.rows.others i j hi (elim far [
          | inl none ↦ elim (cases_lt 0 j) [ inl a ↦ inr (inr (omega arith)) | inr a ↦ inr (inl (omega arith)) ]
          | inr a ↦ inr (inr (omega arith))
        ]))

    -- make the table of q of that of p, where q has these levels in these rows and those of p above
    pub laid_table : (p q : Levels) → ((i j : ℕ) → j < top → p i j ≡ q i j) → ((i j : ℕ) → i < w → top ≤ j → j < bottom → level_at fill ((j - top) * w + i) ≡ q i j) →
        TableOf k w h top (λ x y. k.lifted (p x y)) before → TableOf k w h bottom (λ x y. k.lifted (q x y)) after
    laid_table p q same new was =
        let f = λ (i j : ℕ). k.lifted (level_at fill ((j - top) * (w - 0) + (i - 0))) in
        let summed = rewritten_summed top (λ x y. k.lifted (p x y)) before after was top bottom f high so.rows in
        laid_on k w h top bottom before after (λ i j. prefix k (λ n. f n j) i) p q low summed same
        (λ x j hx lo up. prefix_same k (λ i. f i j) (λ i. k.lifted (q i j)) x (λ i hi.
        let none : w - 0 ≡ w = omega arith in
        let at : (j - top) * (w - 0) + (i - 0) ≡ (j - top) * w + i = ap (λ m. (j - top) * m + (i - 0)) none ∙ (let z : (j - top) * w + (i - 0) ≡ (j - top) * w + i = omega arith in z) in
        ap k.lifted (ap (level_at fill) at ∙ new i j (omega arith) lo up)))
        was

    -- so a page whose rows above are those of p becomes that of `change p`
    pub laid_renewed : (change : Levels → Levels) → ((p : Levels) (i j : ℕ) → j < top → p i j ≡ change p i j) → ((p : Levels) (i j : ℕ) → i < w → top ≤ j → j < bottom → level_at fill ((j - top) * w + i) ≡ change p i j) → Renewed k w h top bottom change before after
    unfolding Renewed
    laid_renewed change same new = record { past = laid_past; table = λ p was some. laid_table p (change p) (same p) (new p) (was some) }

-- blank memory, and a whole page laid into it
module _ {E : Type 0} {k : Ghosts E} (laws : Group k) (w h : ℕ) (before after : List E) where
  pub blank_laid : (part : List E) → 0 < h → Spliced before 0 part after → length part ≡ (w + 1) * (h + 1) → ((i : ℕ) → i < length part → entry_at k part i ≡ k.neutral) → Blank k w h before after
  blank_laid part some so long none =
      let at : (x y : ℕ) → x ≤ w → y ≤ h → cell k (w + 1) after x y ≡ k.neutral = λ x y hx hy.
      let lt : y * (w + 1) + x < length part = omega (arith, long, mul-add-lt y (w + 1) x (h + 1) (omega arith) (omega arith)) in
      ap (entry_at k after) (let z : y * (w + 1) + x ≡ 0 + (y * (w + 1) + x) = omega arith in z) ∙ so.here (y * (w + 1) + x) k.neutral lt ∙ none (y * (w + 1) + x) lt in
      record {
        past = past_kept k w h before after so.long (λ i j hi far. so.others (j * (w + 1) + i) k.neutral (inr (elim far [
          | inl zero ↦ absurd (omega arith)
          | inr a ↦ omega (arith, long, mul-le (h + 1) (w + 1) j (w + 1) (omega arith) (omega arith))
        ])));
        table = λ p _. record {
          entry = λ x y hx hy. at x y hx (omega arith) ∙ sym (ap (corner_sum k (λ i j. k.lifted (p i j)) x) (let z : y ≡ 0 = omega arith in z));
          rest = λ x y hx lo up. at x y hx up;
        };
      }

past_both : {E : Type 0} (w h : ℕ) (a b c : List E) → Past w h a b → Past w h b c → Past w h a c
past_both w h a b c p q = record { long = q.long ∙ p.long; same = q.same ∙ p.same }

pub page_laid : {E : Type 0} {k : Ghosts E} → Group k → (w h : ℕ) (levels : List ℕ) (fill : Fill) (before middle after : List E) → ((n : ℕ) → level_at fill n ≡ get_or levels n 0) → Blank k w h before middle →
    Laid k w (record { start = 0; end = w }) (record { start = 0; end = h }) fill middle after → PageTable k w h h levels before after
page_laid laws w h levels fill before middle after is blank so =
    let p = page_levels w levels in
    record {
      past = past_both w h before middle after blank.past (laid_past laws w h 0 h fill middle after (omega arith) (omega arith) so);
      table = λ some. laid_table laws w h 0 h fill middle after (omega arith) (omega arith) so p p (λ i j lt. absurd (omega arith))
          (λ i j hi lo up. is _ ∙ ap (λ m. get_or levels (m * w + i) 0) (let z : j - 0 ≡ j = omega arith in z))
          (blank.table p some);
    }

-- a row, and one level for the rest
pub row_above : (y : ℕ) (row : List ℕ) (p : Levels) (i j : ℕ) → j < y → p i j ≡ with_row y row p i j
row_above y row p i j lt = sym (cond-false (eqb j y) (get_or row i 0) (p i j) (ne_eqb j y (λ e. omega arith)))

pub row_here : (w y : ℕ) (row : List ℕ) (p : Levels) (i j : ℕ) → i < w → y ≤ j → j < y + 1 → get_or row ((j - y) * w + i) 0 ≡ with_row y row p i j
row_here w y row p i j hi lo up =
    let e : j ≡ y = omega arith in
    let first : j - y ≡ 0 = omega arith in
    let at : (j - y) * w + i ≡ i = ap (λ m. m * w + i) first ∙ (let z : 0 * w + i ≡ i = omega arith in z) in
    ap (λ m. get_or row m 0) at ∙ sym (cond-true (eqb j y) (get_or row i 0) (p i j) (eq-eqb j y e))

pub rest_above : (y level : ℕ) (p : Levels) (i j : ℕ) → j < y → p i j ≡ with_rest y level p i j
rest_above y level p i j lt = sym (cond-true (ltb j y) (p i j) level (lt-ltb j y lt))

pub rest_here : (y level : ℕ) (p : Levels) (i j : ℕ) → y ≤ j → level ≡ with_rest y level p i j
rest_here y level p i j lo = sym (cond-false (ltb j y) (p i j) level (le-ltb j y lo))
