-- What adding and replacing a rectangle do to a recipe, and what they answer. Assumes nothing.
use Rattle.std.specs.Prelude.{◌≡◌, ℕ, ◌+◌, Bool, List, take, Result, MatchResult, nat_lt, slice_set}
use Rattle.refusal.specs.Answers.{Answer, accepted, ensuring, told}
use Rattle.refusal.specs.declared.Refusal.{Refusal}
use Rattle.recipe.specs.declared.places.Recipe.{Recipe}

-- how many rectangles a recipe has, and which, in the order of their places
abbrev pub count_of : {R : Type 0} → Recipe R → ℕ
count_of recipe = recipe.placed

abbrev pub rectangles_of : {R : Type 0} → Recipe R → List R
rectangles_of recipe = take recipe.placed recipe.places

-- One rectangle more answers how many there are then. `good` says that its offsets are lawful.
abbrev pub add_answer : (good : Bool) (placed : ℕ) → Answer ℕ
add_answer good placed = ensuring good 31 0 (ensuring (nat_lt placed 16) 32 0 (accepted (placed + 1)))

-- another rectangle at a place that is taken
abbrev pub replace_answer : (good : Bool) (place placed : ℕ) → Answer ℕ
replace_answer good place placed = ensuring good 31 0 (ensuring (nat_lt place placed) 32 0 (accepted placed))

-- The rectangle stands at that place, and all other places are as they were; so is the whole recipe after a refusal.
pub record Placed {R : Type 0} (is : Answer ℕ) (place count : ℕ) (rectangle : R) (before : Recipe R) (r : Result ℕ Refusal) (after : Recipe R) : Type 0 where
  pub answer : told r ≡ is
  pub places : MatchResult r (λ n. after.places ≡ slice_set before.places place rectangle) (λ e. after.places ≡ before.places)
  pub count_is : MatchResult r (λ n. after.placed ≡ count) (λ e. after.placed ≡ before.placed)
