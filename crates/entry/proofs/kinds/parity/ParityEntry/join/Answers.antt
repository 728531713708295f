use Rattle.std.proofs.Common.{sym, mod-eq_of_lt}
use Rattle.std.proofs.lemmas.Nat.{xor_lt}
use Rattle.entry.proofs.kinds.parity.ParityEntry.join.Goals as goal

pub of-requires : goal.of-requires
of-requires c = xor_lt 64 _ _ c.args.self.fits c.args.other.fits

pub returns : goal.returns
returns c = c.of.ensures _ (sym (mod-eq_of_lt (xor_lt 64 _ _ c.args.self.fits c.args.other.fits)))
