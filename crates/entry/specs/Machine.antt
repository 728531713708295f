-- The words of a machine: numbers of some width, and structs that hold them. Assumes nothing.
use Rattle.std.specs.Prelude.{ℕ, suc, ◌^◌, ◌<◌, refl}
use Rattle.std.specs.Int.{Width}
use Rattle.std.proofs.Common.{sym, subst}
use mathlib.Core.HLevel.{is_prop→PathP}
use Rattle.std.proofs.Math.Bridge.{le_prop}
use mir.Val.{bits}
use Rattle.entry.specs.Words.{Words}
use Rattle.entry.specs.declared.unsigned.Unsigned.{Ghosts}
use Rattle.entry.specs.declared.word.Word.{Word}

-- the logic has the machine's words as their numbers
abbrev pub machine : Width → Ghosts ℕ
machine w = record { width = w; number = λ u. u; make = λ n. n; made = λ u. refl; holds = λ n. refl }

-- the structs around them hold the numbers below 2 ^ k, whatever a level does
abbrev pub words_of : {U R : Type 0} (u : Ghosts U) → Words (bits u.width) (Word U R u)
words_of {U} {R} u =
    let Fits : ℕ → Type 0 = λ n. n < 2 ^ bits u.width in
    record {
      value = λ w. u.number w.value;
      fits = λ w. w.fits;
      make = λ n h. record { value = u.make n; rule = record {}; fits = subst Fits (sym (u.holds n)) h };
      made = λ w i. record { value = u.made w.value i; rule = record {}; fits = is_prop→PathP (λ j. Fits (u.number (u.made w.value j))) (λ j. le_prop {n = suc (u.number (u.made w.value j))} {m = 2 ^ bits u.width}) (subst Fits (sym (u.holds (u.number w.value))) w.fits) w.fits i };
      holds = λ n h. u.holds n;
    }
