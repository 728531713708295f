-- What each kind of entry means. Assumes nothing.
use Rattle.std.specs.Prelude.{ℕ, ◌*◌, ◌/◌, ◌^◌, min, bit_xor}
use Rattle.std.specs.Int.{w16, w32, w64}
use Rattle.entry.specs.Machine.{machine, words_of}
use Rattle.entry.specs.Words.{Words, word, plus, minus}
use Rattle.entry.specs.declared.kind.entry.Entry.{Ghosts}
use Rattle.entry.specs.declared.amount.Level.{Level}
use Rattle.entry.specs.declared.amount.Pixel.{Pixel}
use Rattle.entry.specs.declared.amount.Square.{Square}
use Rattle.entry.specs.declared.kinds.pair.Pair.{Pair}
use Rattle.entry.specs.declared.kinds.parity.Flip.{Flip}
use Rattle.entry.specs.declared.word.Word.{Word}

abbrev pub Narrow : Type 0
Narrow = Word ℕ Level (machine w16)

abbrev pub Whole : Type 0
Whole = Word ℕ Level (machine w32)

abbrev pub Ink : Type 0
Ink = Word ℕ Pixel (machine w32)

abbrev pub Energy : Type 0
Energy = Word ℕ Square (machine w64)

abbrev pub Parity : Type 0
Parity = Word ℕ Flip (machine w64)

abbrev pub narrows : Words 16 Narrow
narrows = words_of (machine w16)

abbrev pub wholes : Words 32 Whole
wholes = words_of (machine w32)

abbrev pub energies : Words 64 Energy
energies = words_of (machine w64)

abbrev pub parities : Words 64 Parity
parities = words_of (machine w64)

-- the words of the ink count
abbrev pub inks : Words 32 Ink
inks = words_of (machine w32)

-- words of k bits with addition, and what a level counts
abbrev pub sums : {k : ℕ} {W : Type 0} → Words k W → (ℕ → ℕ) → Ghosts W
sums words amount = record { neutral = word words 0; joined = plus words; inverted = minus words; lifted = λ g. word words (amount g) }

abbrev pub narrow : Ghosts Narrow
narrow = sums narrows (λ g. g)

abbrev pub whole : Ghosts Whole
whole = sums wholes (λ g. g)

abbrev pub energy : Ghosts Energy
energy = sums energies (λ g. g * g)

-- every level but 0 is one pixel of ink
abbrev pub ink : Ghosts Ink
ink = sums inks (λ g. min g 1)

-- level g changes bit g / 4
abbrev pub parity : Ghosts Parity
parity = record {
  neutral = word parities 0;
  joined = λ x y. word parities (bit_xor x.value y.value);
  inverted = λ x. x;
  lifted = λ g. word parities (2 ^ (g / 4));
}

abbrev pub pair : {A B : Type 0} → Ghosts A → Ghosts B → Ghosts (Pair A B)
pair a b = record {
  neutral = record { first = a.neutral; second = b.neutral };
  joined = λ x y. record { first = a.joined x.first y.first; second = b.joined x.second y.second };
  inverted = λ x. record { first = a.inverted x.first; second = b.inverted x.second };
  lifted = λ g. record { first = a.lifted g; second = b.lifted g };
}
