-- Regions that are cut at the frame of a sheet. Assumes nothing.
use Rattle.std.specs.Prelude.{◌≡◌, ℕ, ◌+◌, ◌-◌, ◌*◌, min, Bool, cond, ◌&&◌, List, nat_le, nat_lt}
use Rattle.entry.specs.Sums.{plain_sum}
use Rattle.entry.specs.declared.kind.entry.Entry.{Ghosts}
use Rattle.sheet.specs.declared.span.Span.{Span}
use Rattle.sheet.specs.Page.{Levels}
use Rattle.sheet.specs.Sheet.{Holds, corners}
use Rattle.sheet.specs.Table.{cell, corner_sum}

abbrev pub in_span : Span → ℕ → Bool
in_span s i = nat_le s.start i && nat_lt i s.end

-- the part of a span below `size`: where it ends and begins, and how many numbers it has
abbrev pub cut_end : ℕ → Span → ℕ
cut_end size s = min s.end size

abbrev pub cut_start : ℕ → Span → ℕ
cut_start size s = min s.start (cut_end size s)

abbrev pub cut_length : ℕ → Span → ℕ
cut_length size s = cut_end size s - cut_start size s

-- a pixel of these columns and rows
abbrev pub in_region : (columns rows : Span) → ℕ → ℕ → Bool
in_region columns rows x y = in_span columns x && in_span rows y

-- how many pixels of these columns and rows a sheet has
abbrev pub cut_area : (width height : ℕ) → (columns rows : Span) → ℕ
cut_area width height columns rows = cut_length width columns * cut_length height rows

-- the entry of these columns and rows, from four corners of the table; the identity where nothing of them is on the sheet
abbrev pub cut_sum : {E : Type 0} → Ghosts E → (width height : ℕ) → List E → (columns rows : Span) → E
cut_sum k width height memory columns rows =
    cond (nat_lt (cut_start width columns) (cut_end width columns) && nat_lt (cut_start height rows) (cut_end height rows))
    (corners k (cell k (width + 1) memory) (cut_start width columns) (cut_end width columns) (cut_start height rows) (cut_end height rows))
    k.neutral

-- the sum of f over all pixels of a sheet
abbrev pub frame_sum : (width height : ℕ) → (ℕ → ℕ → ℕ) → ℕ
frame_sum width height f = plain_sum (λ y. plain_sum (λ x. f x y) width) height

-- how many pixels of a sheet pass a test
abbrev pub count_pixels : (width height : ℕ) → (ℕ → ℕ → Bool) → ℕ
count_pixels width height test = frame_sum width height (λ x y. cond (test x y) 1 0)

-- the lifted levels of the pixels that pass a test, joined row after row; the others count nothing
abbrev pub join_pixels : {E : Type 0} → Ghosts E → (width height : ℕ) → (ℕ → ℕ → Bool) → Levels → E
join_pixels k width height test p = corner_sum k (λ x y. cond (test x y) (k.lifted (p x y)) k.neutral) width height

-- On the table of any levels a region cut at the frame has the levels of those of its pixels that are on the sheet.
pub record CutLaw {E : Type 0} (k : Ghosts E) : Type 0 where
  pub sums : (width height : ℕ) (p : Levels) (memory : List E) → Holds k width height height p memory → (columns rows : Span) → cut_sum k width height memory columns rows ≡ join_pixels k width height (in_region columns rows) p
  pub areas : (width height : ℕ) (columns rows : Span) → cut_area width height columns rows ≡ count_pixels width height (in_region columns rows)
