-- The plain page: what a sheet means. It holds levels, takes the calls of a sheet with the same arguments, and takes nothing from a table. Assumes nothing.
use Rattle.std.specs.Prelude.{ℕ, ◌+◌, ◌-◌, ◌*◌, ◌^◌, min, Bool, cond, ◌&&◌, List, length, ◌==◌, nat_le, nat_lt, slice_index}
use Rattle.refusal.specs.Answers.{Answer, accepted, refused, ensuring}
use Rattle.sheet.specs.declared.rectangle.Rectangle.{Rectangle}

-- a level for each column and row
abbrev pub Levels : Type 0
Levels = ℕ → ℕ → ℕ

-- A page of this width and height with its first rows laid, and its two counts. A level past the rows laid means nothing.
pub record Page : Type 0 where
  pub width : ℕ
  pub height : ℕ
  pub rows : ℕ
  pub level : Levels
  pub edits : ℕ
  pub laid : ℕ

-- the first page where the answer is accepted, and the second where it is refused
abbrev pub if_accepted : {A : Type 0} → Answer A → Page → Page → Page
if_accepted (accepted a) p q = p
if_accepted (refused n at) p q = q

-- a count that stops at the top of 64 bits
abbrev pub capped : ℕ → ℕ
capped n = min n (2 ^ 64 - 1)

-- Begin

abbrev pub side : ℕ → Bool
side n = nat_le 1 n && nat_le n 4096

abbrev pub fits_answer : (width height room : ℕ) → Answer (Unit {0})
fits_answer width height room = ensuring (side width && side height) 11 0 (ensuring (nat_le ((width + 1) * (height + 1)) room) 12 0 (accepted tt))

-- a page with no rows
abbrev pub blank : (width height : ℕ) → Page
blank width height = record { width = width; height = height; rows = 0; level = λ x y. 0; edits = 0; laid = 0 }

-- a growing page, or the 0 by 0 page where it does not fit
abbrev pub begin : (width height room : ℕ) → Page
begin width height room = if_accepted (fits_answer width height room) (blank width height) (blank 0 0)

-- Feed

abbrev pub feed_answer : (width height rows : ℕ) → List ℕ → Answer ℕ
feed_answer width height rows row = ensuring (length row == width) 23 0 (ensuring (nat_lt rows height) 24 0 (accepted (rows + 1)))

-- row y is as listed
abbrev pub with_row : ℕ → List ℕ → Levels → Levels
with_row y row p i j = cond (j == y) (slice_index row i) (p i j)

abbrev pub feed : List ℕ → Page → Page
feed row p =
    if_accepted (feed_answer p.width p.height p.rows row)
    (record { width = p.width; height = p.height; rows = p.rows + 1; level = with_row p.rows row p.level; edits = p.edits; laid = p.laid })
    p

-- Finish

-- the rows from y on are of one level
abbrev pub with_rest : (y level : ℕ) → Levels → Levels
with_rest y level p i j = cond (nat_lt j y) (p i j) level

abbrev pub finish : ℕ → Page → Page
finish level p = record { width = p.width; height = p.height; rows = p.height; level = with_rest p.rows level p.level; edits = 0; laid = 0 }

-- Patch and wipe

abbrev pub on_sheet : (width height : ℕ) → Rectangle → Bool
on_sheet width height r = nat_le r.left r.right && nat_le r.top r.bottom && nat_lt r.right width && nat_lt r.bottom height

abbrev pub columns : Rectangle → ℕ
columns r = r.right + 1 - r.left

abbrev pub lines : Rectangle → ℕ
lines r = r.bottom + 1 - r.top

abbrev pub area : Rectangle → ℕ
area r = columns r * lines r

abbrev pub covers : Rectangle → ℕ → ℕ → Bool
covers r i j = nat_le r.left i && nat_le i r.right && nat_le r.top j && nat_le j r.bottom

-- f n is the new level of the rectangle's pixel n, counted row after row; outside the rectangle the levels stay
abbrev pub overlaid : Rectangle → (ℕ → ℕ) → Levels → Levels
overlaid r f p i j = cond (covers r i j) (f ((j - r.top) * columns r + (i - r.left))) (p i j)

abbrev pub edited : Rectangle → (ℕ → ℕ) → Page → Page
edited r f p = record {
  width = p.width;
  height = p.height;
  rows = p.rows;
  level = overlaid r f p.level;
  edits = capped (p.edits + 1);
  laid = capped (p.laid + area r);
}

-- how many pixels a rectangle on the sheet has
abbrev pub area_answer : (width height : ℕ) → Rectangle → Answer ℕ
area_answer width height r = ensuring (on_sheet width height r) 21 0 (accepted (area r))

abbrev pub wipe_answer : (width height : ℕ) → Rectangle → Answer ℕ
wipe_answer width height r = area_answer width height r

abbrev pub wipe : Rectangle → ℕ → Page → Page
wipe r level p = if_accepted (wipe_answer p.width p.height r) (edited r (λ n. level) p) p

abbrev pub patch_answer : (width height : ℕ) → Rectangle → List ℕ → Answer ℕ
patch_answer width height r levels = ensuring (on_sheet width height r) 21 0 (ensuring (length levels == area r) 22 0 (accepted (area r)))

abbrev pub patch : Rectangle → List ℕ → Page → Page
patch r levels p = if_accepted (patch_answer p.width p.height r levels) (edited r (λ n. slice_index levels n) p) p
