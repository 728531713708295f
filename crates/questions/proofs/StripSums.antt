-- Row and column totals are plain sums. Assumes nothing.
use Rattle.std.proofs.Common.{◌≡◌, ℕ, ◌+◌, ◌*◌, ◌<◌, ◌≤◌, List, refl, ap, ◌∙◌, add-zero, arith}
use Rattle.entry.specs.Exactness.{Exact}
use Rattle.entry.specs.Group.{Group}
use Rattle.entry.specs.Sums.{prefix, plain_sum, limit_of}
use Rattle.entry.specs.declared.kind.entry.Entry.{Ghosts}
use Rattle.entry.specs.declared.kind.modular.Modular as modular
use Rattle.sheet.specs.declared.span.Span.{Span}
use Rattle.sheet.specs.Cut.{cut_start, cut_length, cut_sum}
use Rattle.sheet.specs.Page.{Levels, columns, lines}
use Rattle.sheet.specs.Sheet.{Holds}
use Rattle.sheet.specs.Table.{corner_sum}
use Rattle.sheet.proofs.Cuts.{cut_inside}
use Rattle.sheet.proofs.FourCorners.{on_parts}
use Rattle.sheet.proofs.Prefixes.{prefix_same}
use Rattle.questions.specs.Laterals.{strip_columns, strip_rows, LateralLaw}
use Rattle.questions.specs.declared.laterals.Strips.TheVariants.{Rows, Columns}

-- a span that lies below n is not cut
span_start : (n a m : ℕ) (s : Span) → s.start ≡ a → s.end ≡ a + m → a + m ≤ n → cut_start n s ≡ a
span_start n a m s start end fits = omega arith

span_length : (n a m : ℕ) (s : Span) → s.start ≡ a → s.end ≡ a + m → a + m ≤ n → cut_length n s ≡ m
span_length n a m s start end fits = omega arith

module _ {E : Type 0} {k : Ghosts E} {m : modular.Ghosts E} (laws : Group k) (exact : Exact k m) (wide : 4096 * 4096 ≤ limit_of m.bits m.most) where
  alone : (x : E) → k.joined k.neutral x ≡ x
  alone x = laws.commutative k.neutral x ∙ laws.identity x

  -- levels in a line, joined
  line_total : (level : ℕ → ℕ) (n : ℕ) → n ≤ 4096 → ((i : ℕ) → i < n → level i < 256) → (x : E) → x ≡ prefix k (λ i. k.lifted (level i)) n → m.number x ≡ plain_sum (λ i. m.amount (level i)) n
  line_total level n few bytes x is = ap m.number is ∙ exact.exact level n bytes (exact.fits level n bytes (omega arith))

  module _ (w h : ℕ) (p : Levels) (memory : List E) (holds : Holds k w h h p memory) where
    -- a region that is not cut
    region_inside : (columns rows : Span) (a c n t : ℕ) → columns.start ≡ a → columns.end ≡ a + n → a + n ≤ w → rows.start ≡ c → rows.end ≡ c + t → c + t ≤ h →
        cut_sum k w h memory columns rows ≡ corner_sum k (λ i j. k.lifted (p (a + i) (c + j))) n t
    region_inside columns rows a c n t left right hw top bottom hh =
        let at : ℕ → ℕ → ℕ → ℕ → E = λ a c i j. k.lifted (p (a + i) (c + j)) in
        cut_inside laws w h columns rows p memory holds
        ∙ ap (λ a. corner_sum k (at a (cut_start h rows)) (cut_length w columns) (cut_length h rows)) (span_start w a n columns left right hw)
        ∙ ap (λ c. corner_sum k (at a c) (cut_length w columns) (cut_length h rows)) (span_start h c t rows top bottom hh)
        ∙ ap (λ n. corner_sum k (at a c) n (cut_length h rows)) (span_length w a n columns left right hw)
        ∙ ap (corner_sum k (at a c) n) (span_length h c t rows top bottom hh)

  pub lateral_law_lem : LateralLaw k m
  lateral_law_lem = record {
    rows = λ w h hw hh p memory holds bytes r on j hj.
        let parts = on_parts w h r on in
        let e : ℕ → ℕ → E = λ i t. k.lifted (p (r.left + i) (r.top + j + t)) in
        let inside = region_inside w h p memory holds (strip_columns Rows r j) (strip_rows Rows r j) r.left (r.top + j) (columns r) 1 refl (omega arith) (omega arith) refl refl (omega arith) in
        let one_row : corner_sum k e (columns r) 1 ≡ prefix k (λ i. k.lifted (p (r.left + i) (r.top + j))) (columns r) =
        alone (prefix k (λ i. e i 0) (columns r)) ∙ ap (λ y. prefix k (λ i. k.lifted (p (r.left + i) y)) (columns r)) (add-zero (r.top + j)) in
        line_total (λ i. p (r.left + i) (r.top + j)) (columns r) (omega arith) (λ i hi. bytes (r.left + i) (r.top + j) (omega arith) (omega arith)) _ (inside ∙ one_row);
    columns = λ w h hw hh p memory holds bytes r on i hi.
        let parts = on_parts w h r on in
        let e : ℕ → ℕ → E = λ s j. k.lifted (p (r.left + i + s) (r.top + j)) in
        let inside = region_inside w h p memory holds (strip_columns Columns r i) (strip_rows Columns r i) (r.left + i) r.top 1 (lines r) refl refl (omega arith) refl (omega arith) (omega arith) in
        let one_column : corner_sum k e 1 (lines r) ≡ prefix k (λ j. k.lifted (p (r.left + i) (r.top + j))) (lines r) =
        prefix_same k _ (λ j. k.lifted (p (r.left + i) (r.top + j))) (lines r) (λ j hj. alone (e 0 j) ∙ ap (λ x. k.lifted (p x (r.top + j))) (add-zero (r.left + i))) in
        line_total (λ j. p (r.left + i) (r.top + j)) (lines r) (omega arith) (λ j hj. bytes (r.left + i) (r.top + j) (omega arith) (omega arith)) _ (inside ∙ one_column);
  }
