-- Pages of bytes, drawn row after row into lent memory. Assumes nothing.
use Rattle.std.specs.Prelude.{◌≡◌, ℕ, ◌+◌, ◌*◌, ◌/◌, ◌%◌, ◌<◌, ◌≤◌, List, ◌++◌, map, length, drop, Result, MatchResult, nat_le, slice_index}
use Rattle.std.specs.List.{range_with_len}
use Rattle.refusal.specs.Answers.{Answer, accepted, ensuring, told}
use Rattle.refusal.specs.declared.Refusal.{Refusal}
use Rattle.sheet.specs.declared.frame.Frame.{Frame}

-- f 0, .. f (n - 1) in front, and past them what `before` has
abbrev pub laid : {A : Type 0} → (ℕ → A) → ℕ → List A → List A
laid f n before = map f (range_with_len 0 n) ++ drop n before

-- byte n of a page of this width whose byte at column x of row y is f x y
abbrev pub page_byte : ℕ → (ℕ → ℕ → ℕ) → ℕ → ℕ
page_byte width f n = f (n % width) (n / width)

-- how many bytes a page has, refused where memory is too short for them
abbrev pub room_answer : (width height long : ℕ) → Answer ℕ
room_answer width height long = ensuring (nat_le (width * height) long) 13 0 (accepted (width * height))

-- A call that fills a page and gives this answer: the page stands in front and the rest is as it was; a refusal changes nothing.
pub record Drawn (is : Answer ℕ) (width height : ℕ) (f : ℕ → ℕ → ℕ) (r : Result ℕ Refusal) (before after : List ℕ) : Type 0 where
  pub answer : told r ≡ is
  pub effect : MatchResult r (λ n. after ≡ laid (page_byte width f) (width * height) before) (λ e. after ≡ before)

-- the same on a sheet of this size, with no other reason to refuse than a page that is too short
abbrev pub Pictured : Frame → (ℕ → ℕ → ℕ) → Result ℕ Refusal → (before after : List ℕ) → Type 0
Pictured frame f r before after = Drawn (room_answer frame.width frame.height (length before)) frame.width frame.height f r before after

-- the first rows of a page of this width, whose byte at column x of row y may be each r of which `gives x y r` holds; past them it is as before
pub record RowsDrawn (gives : (x y r : ℕ) → Type 0) (width rows : ℕ) (before after : List ℕ) : Type 0 where
  pub long : length after ≡ length before
  pub pixels : (x y : ℕ) → x < width → y < rows → gives x y (slice_index after (y * width + x))
  pub rest : (i : ℕ) → width * rows ≤ i → slice_index after i ≡ slice_index before i

-- A call that fills a page by calls for its pixels; a refusal changes nothing.
pub record DrawnBy (gives : (x y r : ℕ) → Type 0) (width height : ℕ) (r : Result ℕ Refusal) (before after : List ℕ) : Type 0 where
  pub answer : told r ≡ room_answer width height (length before)
  pub effect : MatchResult r (λ n. RowsDrawn gives width height before after) (λ e. after ≡ before)
