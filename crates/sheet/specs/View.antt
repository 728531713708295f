-- Memory looked at as a table. Assumes nothing.
use Rattle.std.specs.Prelude.{◌≡◌, ℕ, List, length, Result}
use Rattle.refusal.specs.Answers.{Answer, accepted, answer_of, and_then}
use Rattle.refusal.specs.declared.Refusal.{Refusal}
use Rattle.sheet.specs.declared.table.Table.{Table}
use Rattle.sheet.specs.Page.{fits_answer}

-- what a table shows
abbrev pub width_of : {E : Type 0} → Table E → ℕ
width_of t = t.frame.width

abbrev pub height_of : {E : Type 0} → Table E → ℕ
height_of t = t.frame.height

abbrev pub entries_of : {E : Type 0} → Table E → List E
entries_of t = t.entries.now

abbrev pub shown : {E : Type 0} → Table E → List E × ℕ × ℕ
shown t = (entries_of t, width_of t, height_of t)

-- the memory and the sizes asked for, or the refusal of what does not fit
abbrev pub view_answer : {E : Type 0} → List E → (width height : ℕ) → Answer (List E × ℕ × ℕ)
view_answer memory width height = and_then (fits_answer width height (length memory)) (λ fit. accepted (memory, width, height))

abbrev pub Viewed : {E : Type 0} → List E → (width height : ℕ) → Result (Table E) Refusal → Type 0
Viewed memory width height r = answer_of shown (λ e. e) (λ e. 0) r ≡ view_answer memory width height

-- what a function of sizes and entries says of a table
abbrev pub of_table {ℓ} : {E : Type 0} {A : Type ℓ} → Table E → ((width height : ℕ) → List E → A) → A
of_table t f = f (width_of t) (height_of t) (entries_of t)
