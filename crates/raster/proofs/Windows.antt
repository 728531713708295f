-- Totals of windows are exact. Assumes nothing.
use Rattle.std.proofs.Common.{◌≡◌, ℕ, ◌+◌, ◌*◌, ◌^◌, ◌<◌, ◌≤◌, Bool, true, false, cond, List, pos, neg_ℤ, sym, ap, ◌∙◌, add-zero, mod-eq_of_lt, mul_assoc, mul_comm, arith}
use Rattle.std.proofs.lemmas.Nat.{mul-le}
use Rattle.std.proofs.lemmas.Int.{ints}
use Rattle.std.proofs.lemmas.Bool.{and_from}
use Rattle.entry.specs.Exactness.{Exact}
use Rattle.entry.specs.Group.{Group}
use Rattle.entry.specs.Sums.{prefix, plain_sum, limit_of}
use Rattle.entry.specs.declared.kind.entry.Entry.{Ghosts}
use Rattle.entry.specs.declared.kind.modular.Modular as modular
use Rattle.entry.proofs.ModularSums.{limit_fits, sum_bounded, sum_part, sum_same}
use Rattle.sheet.specs.Cut.{cut_start, cut_length, frame_sum, join_pixels}
use Rattle.sheet.specs.Page.{Levels}
use Rattle.sheet.specs.Sheet.{Holds}
use Rattle.sheet.specs.Table.{corner_sum}
use Rattle.sheet.proofs.Cuts.{cut_inside}
use Rattle.raster.specs.declared.offsets.Window.{Window}
use Rattle.raster.specs.Region.{between, covers, columns_at, rows_at, cut_sum_at, window_offsets, point, window_total, window_count, Bytes, WindowLaw}
use Rattle.raster.proofs.Regions.{region_law_lem}

module _ {E : Type 0} {k : Ghosts E} {m : modular.Ghosts E} (exact : Exact k m) where
  -- entries whose numbers do not wrap
  row_numbers : (f : ℕ → E) (n : ℕ) → plain_sum (λ i. m.number (f i)) n < 2 ^ m.bits → m.number (prefix k f n) ≡ plain_sum (λ i. m.number (f i)) n
  row_numbers f n fits = exact.wraps f n ∙ mod-eq_of_lt fits

  pub frame_numbers : (e : ℕ → ℕ → E) (w h : ℕ) → frame_sum w h (λ x y. m.number (e x y)) < 2 ^ m.bits → m.number (corner_sum k e w h) ≡ frame_sum w h (λ x y. m.number (e x y))
  frame_numbers e w h fits =
      let row : ℕ → ℕ = λ y. plain_sum (λ x. m.number (e x y)) w in
      let rows : plain_sum (λ y. m.number (prefix k (λ x. e x y) w)) h ≡ plain_sum row h =
      sum_same _ row h (λ y hy. row_numbers (λ x. e x y) w (omega (arith, sum_part row h y hy))) in
      row_numbers (λ y. prefix k (λ x. e x y) w) h (omega (arith, rows)) ∙ rows

  module _ (w h : ℕ) (p : Levels) (bytes : Bytes w h p) (few : w * h ≤ limit_of m.bits m.most) where
    level_number : (b : Bool) (g : ℕ) → g < 256 → m.number (cond b (k.lifted g) k.neutral) ≡ cond b (m.amount g) 0
    level_number true g lt = exact.counts g lt
    level_number false g lt = exact.empty

    level_small : (b : Bool) (g : ℕ) → g < 256 → cond b (m.amount g) 0 ≤ m.most
    level_small true g lt = exact.bounded g lt
    level_small false g lt = omega arith

    -- the pixels that pass a test, as a number
    pub pixel_numbers : (test : ℕ → ℕ → Bool) → m.number (join_pixels k w h test p) ≡ frame_sum w h (λ x y. cond (test x y) (m.amount (p x y)) 0)
    pixel_numbers test =
        let e : ℕ → ℕ → E = λ x y. cond (test x y) (k.lifted (p x y)) k.neutral in
        let amounts : ℕ → ℕ → ℕ = λ x y. cond (test x y) (m.amount (p x y)) 0 in
        let same : frame_sum w h (λ x y. m.number (e x y)) ≡ frame_sum w h amounts =
        sum_same _ (λ y. plain_sum (λ x. amounts x y) w) h (λ y hy. sum_same _ (λ x. amounts x y) w (λ x hx. level_number (test x y) (p x y) (bytes x y hx hy))) in
        let top : frame_sum w h amounts ≤ h * (w * m.most) =
        sum_bounded (λ y. plain_sum (λ x. amounts x y) w) (w * m.most) h (λ y hy. sum_bounded (λ x. amounts x y) m.most w (λ x hx. level_small (test x y) (p x y) (bytes x y hx hy))) in
        let order : h * (w * m.most) ≡ w * h * m.most = sym (mul_assoc h w m.most) ∙ ap (λ n. n * m.most) (mul_comm h w) in
        frame_numbers e w h (omega (arith, same, top, order, limit_fits m.bits m.most (w * h) few)) ∙ same

-- the span of a pixel alone
module _ (n x : ℕ) (lt : x < n) where
  point_start : cut_start n (columns_at (window_offsets point) x) ≡ x
  point_start = omega arith

  point_length : cut_length n (columns_at (window_offsets point) x) ≡ 1
  point_length = omega arith

module _ {E : Type 0} {k : Ghosts E} {m : modular.Ghosts E} (laws : Group k) (exact : Exact k m) where
  one_entry : (e : ℕ → ℕ → E) → corner_sum k e 1 1 ≡ e 0 0
  one_entry e =
      let alone : (x : E) → k.joined k.neutral x ≡ x = λ x. laws.commutative k.neutral x ∙ laws.identity x in
      alone (k.joined k.neutral (e 0 0)) ∙ alone (e 0 0)

  -- a pixel alone has its level
  pixel_level : (w h : ℕ) (p : Levels) (memory : List E) → Holds k w h h p memory → Bytes w h p → (x y : ℕ) → x < w → y < h → m.number (cut_sum_at k w h memory (window_offsets point) x y) ≡ m.amount (p x y)
  pixel_level w h p memory holds bytes x y hx hy =
      let columns = columns_at (window_offsets point) x in
      let rows = rows_at (window_offsets point) y in
      let inside = cut_inside laws w h columns rows p memory holds in
      let at : ℕ → ℕ → ℕ → ℕ → E = λ a c i j. k.lifted (p (a + i) (c + j)) in
      let placed : corner_sum k (at (cut_start w columns) (cut_start h rows)) (cut_length w columns) (cut_length h rows) ≡ corner_sum k (at x y) 1 1 =
      ap (λ n. corner_sum k (at (cut_start w columns) (cut_start h rows)) n (cut_length h rows)) (point_length w x hx)
      ∙ ap (corner_sum k (at (cut_start w columns) (cut_start h rows)) 1) (point_length h y hy)
      ∙ ap (λ n. corner_sum k (at n (cut_start h rows)) 1 1) (point_start w x hx)
      ∙ ap (λ n. corner_sum k (at x n) 1 1) (point_start h y hy) in
      let level : k.lifted (p (x + 0) (y + 0)) ≡ k.lifted (p x y) = ap (λ n. k.lifted (p n (y + 0))) (add-zero x) ∙ ap (λ n. k.lifted (p x n)) (add-zero y) in
      ap m.number (inside ∙ placed ∙ one_entry (at x y) ∙ level) ∙ exact.counts (p x y) (bytes x y hx hy)

-- a window has its own pixel
near : (before after x : ℕ) → between (neg_ℤ (pos before)) (pos after) x x ≡ true
near before after x = grind (arith, ints)

own_pixel : (w : Window) (x y : ℕ) → covers (window_offsets w) x y x y ≡ true
own_pixel w x y = and_from _ _ (near w.left w.right x) (near w.up w.down y)

some_pixel : (width height : ℕ) (w : Window) (x y : ℕ) → x < width → y < height → 0 < window_count width height w x y
some_pixel width height w x y hx hy =
    let bit : ℕ → ℕ → ℕ = λ i j. cond (covers (window_offsets w) x y i j) 1 0 in
    let here : bit x y ≡ 1 = ap (λ b. cond b 1 0) (own_pixel w x y) in
    let row : bit x y ≤ plain_sum (λ i. bit i y) width = sum_part (λ i. bit i y) width x hx in
    let all : plain_sum (λ i. bit i y) width ≤ window_count width height w x y = sum_part (λ j. plain_sum (λ i. bit i j) width) height y hy in
    omega arith

pub window_law_lem : {E : Type 0} {k : Ghosts E} {m : modular.Ghosts E} → Group k → Exact k m → 4096 * 4096 ≤ limit_of m.bits m.most → WindowLaw k m
window_law_lem {E} {k} {m} laws exact wide = record {
  bytes = λ width height hw hh p memory holds bytes rule w x y hx hy.
      let o = window_offsets w in
      let region = region_law_lem laws in
      let few : width * height ≤ limit_of m.bits m.most = omega (arith, mul-le width height 4096 4096 hw hh) in
      let level = pixel_level laws exact width height p memory holds bytes x y hx hy in
      let total : m.number (cut_sum_at k width height memory o x y) ≡ window_total m.amount width height p w x y =
      ap m.number (region.sums width height p memory holds o x y) ∙ pixel_numbers exact width height p bytes few (covers o x y) in
      let count = region.areas width height o x y in
      cc;
  some = some_pixel;
}
