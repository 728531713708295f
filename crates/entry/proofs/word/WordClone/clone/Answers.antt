use Rattle.std.proofs.Common.{◌∙◌, sym, mod-eq_of_lt}
use Rattle.entry.specs.Machine.{words_of}
use Rattle.entry.specs.WordGroup.{word_value}
use Rattle.entry.proofs.word.WordClone.clone.Goals as goal

pub returns : goal.returns
returns g c = record { cases = c.of.ensures _ (sym (mod-eq_of_lt c.args.self.now.fits)) ∙ word_value (words_of g.U.Unsigned) c.args.self.now }
