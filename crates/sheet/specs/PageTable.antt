-- A whole page of levels, laid into lent memory as its table. Assumes nothing.
use Rattle.std.specs.Prelude.{◌≡◌, ℕ, ◌+◌, ◌*◌, List, length, Result, MatchResult, nat_le, slice_index}
use Rattle.entry.specs.declared.kind.entry.Entry.{Ghosts}
use Rattle.refusal.specs.Answers.{Answer, accepted, and_then, ensuring, told}
use Rattle.refusal.specs.declared.Refusal.{Refusal}
use Rattle.sheet.specs.Page.{Levels, fits_answer}
use Rattle.sheet.specs.Sheet.{Holds, Past}

-- the levels of a page of this width, which lie row after row in a list
abbrev pub page_levels : ℕ → List ℕ → Levels
page_levels width levels x y = slice_index levels (y * width + x)

-- refused where the table does not fit the memory, or the list is shorter than the page
abbrev pub page_answer : (width height room long : ℕ) → Answer ℕ
page_answer width height room long = and_then (fits_answer width height room) (λ fit. ensuring (nat_le (width * height) long) 13 0 (accepted (width * height)))

-- `after` has the table of the first `rows` rows of the page, and past the table it is `before`
pub record PageTable {E : Type 0} (k : Ghosts E) (width height rows : ℕ) (levels : List ℕ) (before after : List E) : Type 0 where
  pub past : Past width height before after
  pub table : Holds k width height rows (page_levels width levels) after

pub record PageLaid {E : Type 0} (k : Ghosts E) (before : List E) (width height : ℕ) (levels : List ℕ) (r : Result ℕ Refusal) (after : List E) : Type 0 where
  pub answer : told r ≡ page_answer width height (length before) (length levels)
  pub effect : MatchResult r (λ n. PageTable k width height height levels before after) (λ e. after ≡ before)
