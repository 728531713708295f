-- Rectangles about a pixel, cut at the frame. Assumes nothing.
use Rattle.std.proofs.Common.{◌≡◌, ℕ, cond, ltb, leb, ℤ, pos, negsuc, ◌+ℤ◌, refl, ap, ◌∙◌, arith}
use lib.Signed.{le_z}
use Rattle.std.proofs.lemmas.Bool.Decides.{nat_tests}
use Rattle.entry.specs.Group.{Group}
use Rattle.entry.specs.declared.kind.entry.Entry.{Ghosts}
use Rattle.sheet.specs.Cut.{in_span, in_region}
use Rattle.entry.proofs.ModularSums.{sum_same}
use Rattle.sheet.proofs.Cuts.{cut_law_lem}
use Rattle.sheet.proofs.Prefixes.{corner_same}
use Rattle.raster.specs.declared.offsets.Offsets.{Offsets}
use Rattle.raster.specs.Region.{between, covers, first_from, first_above, span_at, columns_at, rows_at, RegionLaw}

from_is : (z : ℤ) (i : ℕ) → leb (first_from z) i ≡ le_z z (pos i)
from_is (pos n) i = refl
from_is (negsuc n) i = grind (arith, nat_tests)

above_is : (z : ℤ) (i : ℕ) → ltb i (first_above z) ≡ le_z (pos i) z
above_is (pos n) i = grind (arith, nat_tests)
above_is (negsuc n) i = grind (arith, nat_tests)

span_is : (from to : ℤ) (x i : ℕ) → in_span (span_at from to x) i ≡ between from to x i
span_is from to x i = let a = from_is (pos x +ℤ from) i in let b = above_is (pos x +ℤ to) i in cc

-- the pixels of the region are those that the rectangle covers
pub region_is : (o : Offsets) (x y i j : ℕ) → in_region (columns_at o x) (rows_at o y) i j ≡ covers o x y i j
region_is o x y i j = let a = span_is o.left o.right x i in let b = span_is o.up o.down y j in cc

pub region_law_lem : {E : Type 0} {k : Ghosts E} → Group k → RegionLaw k
region_law_lem {E} {k} laws =
    let cuts = cut_law_lem laws in
    record {
      sums = λ w h p memory holds o x y. cuts.sums w h p memory holds (columns_at o x) (rows_at o y)
          ∙ corner_same k _ (λ i j. cond (covers o x y i j) (k.lifted (p i j)) k.neutral) w h (λ i j hi hj. ap (λ b. cond b (k.lifted (p i j)) k.neutral) (region_is o x y i j));
      areas = λ w h o x y. cuts.areas w h (columns_at o x) (rows_at o y)
          ∙ sum_same _ _ h (λ j hj. sum_same _ (λ i. cond (covers o x y i j) 1 0) w (λ i hi. ap (λ b. cond b 1 0) (region_is o x y i j)));
    }
