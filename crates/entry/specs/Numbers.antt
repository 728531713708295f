-- The kinds whose entries are numbers. Assumes nothing.
use Rattle.std.specs.Prelude.{ℕ, ◌*◌, min}
use Rattle.entry.specs.Kinds.{Narrow, Whole, Ink, Energy, narrows, wholes, inks, energies}
use Rattle.entry.specs.Words.{Words}
use Rattle.entry.specs.declared.kind.modular.Modular.{Ghosts}

-- words of k bits, what a level counts, and the most that one does
abbrev pub numbers : {k : ℕ} {W : Type 0} → Words k W → (ℕ → ℕ) → ℕ → Ghosts W
numbers {k} words amount most = record { bits = k; number = words.value; amount = amount; most = most }

abbrev pub narrow_numbers : Ghosts Narrow
narrow_numbers = numbers narrows (λ g. g) 255

abbrev pub whole_numbers : Ghosts Whole
whole_numbers = numbers wholes (λ g. g) 255

abbrev pub ink_numbers : Ghosts Ink
ink_numbers = numbers inks (λ g. min g 1) 1

abbrev pub energy_numbers : Ghosts Energy
energy_numbers = numbers energies (λ g. g * g) 65025
