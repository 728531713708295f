use Rattle.std.proofs.Common.{sym, ◌∙◌}
use Rattle.entry.specs.Machine.{words_of}
use Rattle.entry.specs.WordGroup.{same_word, value_word}
use Rattle.entry.proofs.word.Word.of.Goals as goal

pub returns : goal.returns
returns g c n h = let words = words_of g.U.Unsigned in same_word words _ _ (h ∙ sym (value_word words n))
