-- The line that is printed of many sheets of one kind. Assumes nothing.
use Rattle.std.specs.Prelude.{ℕ, List, ◌∷◌, ◌++◌, codes, decimal}
use Rattle.beside.specs.declared.kind.Kind.{Kind}
use Rattle.beside.specs.declared.kind.Kind.TheVariants.{Narrow, Whole, Ink, Energy, Parity, Pair}
use Rattle.beside.specs.declared.trial.Compared.{Compared}
use Rattle.beside.specs.declared.trial.Compared.TheVariants.{Sums, Answers}
use Rattle.beside.specs.declared.trial.KindTally.{KindTally}
use Rattle.beside.specs.declared.trial.Tally.{Tally}

abbrev pub compared_name : Compared → List ℕ
compared_name Sums = codes "sums"
compared_name Answers = codes "answers"

abbrev pub tally_line : Tally → List ℕ
tally_line t =
    let n = t.counts in
    decimal n.edits ++ (codes " edits, " ++ (decimal n.refused ++ (codes " refused, " ++ (decimal n.comparisons ++ (32 ∷ (compared_name t.compared ++ (codes " compared, " ++ (decimal n.different ++ codes " different"))))))))

abbrev pub kind_name : Kind → List ℕ
kind_name Narrow = codes "narrow"
kind_name Whole = codes "whole"
kind_name Ink = codes "ink"
kind_name Energy = codes "energy"
kind_name Parity = codes "parity"
kind_name Pair = codes "pair"

abbrev pub kind_line : KindTally → List ℕ
kind_line x = kind_name x.kind ++ (codes ": " ++ tally_line x.tally)
