-- What a call answers, with the number of each refusal. Assumes nothing.
use Rattle.std.specs.Prelude.{ℕ, Bool, cond, List, [], ◌∷◌, ◌++◌, Ok, Err, codes, decimal, Result}
use Rattle.refusal.specs.declared.Layer.{Layer}
use Rattle.refusal.specs.declared.Layer.TheVariants.{Reader, Sheet, Job}
use Rattle.refusal.specs.declared.Refusal.{Refusal}
use Rattle.refusal.specs.declared.Refusal.TheVariants.{
  NotP5,
  HeaderByte,
  ScanSide,
  Maxval,
  TooFewLevels,
  SheetSide,
  TableTooShort,
  ListTooShort,
  OffSheet,
  PatchLength,
  RowLength,
  AllRowsFed,
  NarrowTotal,
  Offsets,
  NoPlace,
  NoRectangle,
  Load,
  Share,
  Symbol,
  PlanSide,
}
use Rattle.refusal.specs.declared.Report.{Report}

abbrev pub number_of : Refusal → ℕ
number_of NotP5 = 1
number_of HeaderByte = 2
number_of ScanSide = 3
number_of Maxval = 4
number_of TooFewLevels = 5
number_of SheetSide = 11
number_of TableTooShort = 12
number_of ListTooShort = 13
number_of OffSheet = 21
number_of PatchLength = 22
number_of RowLength = 23
number_of AllRowsFed = 24
number_of NarrowTotal = 25
number_of Offsets = 31
number_of NoPlace = 32
number_of NoRectangle = 33
number_of Load = 34
number_of Share = 35
number_of Symbol = 36
number_of PlanSide = 37

-- the values of a call that was carried out, or the number of the reason why it was refused, with a place
pub data Answer (A : Type 0) : Type 0 where
  accepted : A → Answer A
  refused : (number place : ℕ) → Answer A

-- a result as an answer: by the values in it, or by the reason and the place in its fault
abbrev pub answer_of : {R E A : Type 0} → (R → A) → (E → Refusal) → (E → ℕ) → Result R E → Answer A
answer_of values reason place (Ok r) = accepted (values r)
answer_of values reason place (Err e) = refused (number_of (reason e)) (place e)

-- a result whose fault is the reason alone; the place is then 0
abbrev pub told : {A : Type 0} → Result A Refusal → Answer A
told r = answer_of (λ a. a) (λ e. e) (λ e. 0) r

-- a refusal stays as it is; an accepted answer goes on with its values
abbrev pub and_then : {A B : Type 0} → Answer A → (A → Answer B) → Answer B
and_then (accepted a) next = next a
and_then (refused n p) next = refused n p

-- refused by number n at place p where the test fails
abbrev pub ensuring : {A : Type 0} → Bool → (n p : ℕ) → Answer A → Answer A
ensuring test n p next = cond test next (refused n p)

abbrev pub layer_name : Layer → List ℕ
layer_name Reader = codes "reader"
layer_name Sheet = codes "sheet"
layer_name Job = codes "job"

-- words with a blank between them
abbrev pub words : List (List ℕ) → List ℕ
words [] = []
words (w ∷ []) = w
words (w ∷ (v ∷ vs)) = w ++ (32 ∷ words (v ∷ vs))

abbrev pub report_line : Report → List ℕ
report_line r = words (codes "refused" ∷ (decimal (number_of r.refusal) ∷ (decimal r.place ∷ (layer_name r.layer ∷ []))))
