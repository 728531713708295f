-- The total of a whole page is the sum of its levels. Assumes nothing.
use Rattle.std.proofs.Common.{◌≡◌, ℕ, ◌+◌, ◌-◌, ◌*◌, ◌/◌, ◌%◌, ◌<◌, ◌≤◌, true, ◌&&◌, leb, List, length, get_or, sym, ap, ◌∙◌, arith}
use Rattle.std.proofs.lemmas.Nat.{div-add-mod', mul-le}
use Rattle.std.proofs.lemmas.Bool.{and_parts, and_from, cond-true, le-leb, leb-true}
use Rattle.std.proofs.lemmas.Bool.Decides.{nat_tests}
use Rattle.entry.specs.Kinds.{Whole, whole}
use Rattle.entry.specs.Numbers.{whole_numbers}
use Rattle.entry.specs.Sums.{plain_sum, limit_of}
use Rattle.entry.proofs.ModularSums.{sum_same}
use Rattle.questions.specs.Totals.{within_limit, total_answer, plain_total, TotalLaw}
use Rattle.refusal.specs.Answers.{Answer, accepted, and_then, ensuring}
use Rattle.refusal.proofs.Accepted.{accepted_same, both_accepted, test_passed}
use Rattle.scan.specs.Format.{Side}
use Rattle.sheet.specs.declared.rectangle.Rectangle.{Rectangle}
use Rattle.sheet.specs.Page.{side, fits_answer, on_sheet, area}
use Rattle.sheet.specs.PageTable.{page_levels, page_answer, PageTable}
use Rattle.sheet.specs.View.{view_answer}
use Rattle.plots.specs.Printed.{survey_answer}

-- the whole sheet as a rectangle
abbrev whole_of : (w h : ℕ) → Rectangle
whole_of w h = record { left = 0; top = 0; right = w - 1; bottom = h - 1 }

record Sides (w h room long n : ℕ) : Type 0 where
  wide : 0 < w
  tall : 0 < h
  width : w ≤ 4096
  height : h ≤ 4096
  fits : fits_answer w h room ≡ accepted tt
  enough : w * h ≤ long
  count : n ≡ w * h

sides : (w h room long n : ℕ) → accepted n ≡ page_answer w h room long → Sides w h room long n
sides w h room long n e =
    let both = both_accepted (fits_answer w h room) _ n (sym e) in
    let first = test_passed (side w && side h) 11 0 _ both.0 both.1 in
    let second = test_passed (leb (w * h) long) 13 0 _ n both.2 in
    let parts = and_parts (side w) (side h) first.0 in
    let wides = and_parts (leb 1 w) (leb w 4096) parts.0 in
    let talls = and_parts (leb 1 h) (leb h 4096) parts.1 in
    record {
      wide = leb-true 1 w wides.0;
      tall = leb-true 1 h talls.0;
      width = leb-true w 4096 wides.1;
      height = leb-true h 4096 talls.1;
      fits = both.1;
      enough = leb-true (w * h) long second.0;
      count = sym (accepted_same (w * h) n second.1);
    }

module _ (w h room n : ℕ) (levels : List ℕ) (before memory entries : List Whole) (tw th : ℕ) (r : Answer ℕ)
    (laid : accepted n ≡ page_answer w h room (length levels)) (table : PageTable whole w h h levels before memory)
    (seen : accepted (entries, tw, th) ≡ view_answer memory w h) (law : TotalLaw whole whole_numbers) (bytes : (i : ℕ) → get_or levels i 0 < 256)
    (asked : r ≡ total_answer whole whole_numbers tw th entries (whole_of w h)) where
  abbrev all : Rectangle
  all = whole_of w h

  on : Sides w h room (length levels) n
  on = sides w h room (length levels) n laid

  size : area all ≡ w * h
  size =
      let a = on.wide in
      let b = on.tall in
      let columns : w - 1 + 1 - 0 ≡ w = omega arith in
      let lines : h - 1 + 1 - 0 ≡ h = omega arith in
      ap (λ c. c * (h - 1 + 1 - 0)) columns ∙ ap (λ l. w * l) lines

  -- the table that is asked is the one that was laid
  same : total_answer whole whole_numbers tw th entries all ≡ total_answer whole whole_numbers w h memory all
  same =
      let both = both_accepted (fits_answer w h (length memory)) _ (entries, tw, th) (sym seen) in
      sym (ap (λ q. total_answer whole whole_numbers q.1 q.2 q.0 all) (accepted_same (memory, w, h) (entries, tw, th) both.2))

  within : within_limit whole_numbers w h all (plain_total whole_numbers (page_levels w levels) all) ≡ accepted (plain_total whole_numbers (page_levels w levels) all)
  within =
      let a = on.wide in
      let b = on.tall in
      let lies : on_sheet w h all ≡ true = grind (arith, nat_tests) in
      let few : area all ≤ limit_of 32 255 = omega (arith, size, mul-le w h 4096 4096 on.width on.height) in
      cond-true (on_sheet w h all) _ _ lies ∙ cond-true (leb (area all) (limit_of 32 255)) _ _ (le-leb (area all) (limit_of 32 255) few)

  -- reading order is the order of the list
  order : plain_total whole_numbers (page_levels w levels) all ≡ plain_sum (λ i. get_or levels i 0) n
  order =
      let a = on.wide in
      let columns : w - 1 + 1 - 0 ≡ w = omega arith in
      sum_same _ (λ i. get_or levels i 0) (area all) (λ i lt.
      let zero : 0 + i / w ≡ i / w = omega arith in
      let at : (0 + i / (w - 1 + 1 - 0)) * w + (0 + i % (w - 1 + 1 - 0)) ≡ i =
      ap (λ c. (0 + i / c) * w + (0 + i % c)) columns ∙ ap (λ m. m * w + (0 + i % w)) zero ∙ omega (arith, div-add-mod' i w) in
      ap (λ m. get_or levels m 0) at)
      ∙ ap (plain_sum (λ i. get_or levels i 0)) (size ∙ sym on.count)

  pub surveyed : r ≡ survey_answer w h room levels
  surveyed =
      asked ∙ same ∙ law.totals w h (page_levels w levels) memory table.table (λ x y hx hy. bytes (y * w + x)) all ∙ within ∙ ap accepted order
      ∙ ap (λ a. and_then a (λ m. accepted (plain_sum (λ i. get_or levels i 0) m))) laid

-- a page of a scan is not refused, where there is room
pub survey_accepted : (w h room : ℕ) (levels : List ℕ) → Side w → Side h → (w + 1) * (h + 1) ≤ room → length levels ≡ w * h → survey_answer w h room levels ≡ accepted (plain_sum (λ i. get_or levels i 0) (w * h))
survey_accepted w h room levels wide tall fits long =
    let a = le-leb 1 w wide.low in
    let b = le-leb w 4096 wide.high in
    let c = le-leb 1 h tall.low in
    let d = le-leb h 4096 tall.high in
    let sides : (side w && side h) ≡ true = and_from (side w) (side h) (and_from (leb 1 w) (leb w 4096) a b) (and_from (leb 1 h) (leb h 4096) c d) in
    let fit : fits_answer w h room ≡ accepted tt = cond-true (side w && side h) _ _ sides ∙ cond-true (leb ((w + 1) * (h + 1)) room) _ _ (le-leb ((w + 1) * (h + 1)) room fits) in
    let enough : leb (w * h) (length levels) ≡ true = le-leb (w * h) (length levels) (omega (arith, long)) in
    let page : page_answer w h room (length levels) ≡ accepted (w * h) =
    ap (λ x. and_then x (λ fit. ensuring (leb (w * h) (length levels)) 13 0 (accepted (w * h)))) fit ∙ cond-true (leb (w * h) (length levels)) _ _ enough in
    ap (λ x. and_then x (λ n. accepted (plain_sum (λ i. get_or levels i 0) n))) page
