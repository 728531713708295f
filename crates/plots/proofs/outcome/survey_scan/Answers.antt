use Rattle.std.proofs.Common.{sym, ◌∙◌, arith}
use Rattle.refusal.proofs.Accepted.{never}
use Rattle.scan.specs.Reading.{image_of}
use Rattle.plots.proofs.Totals.{survey_accepted}
use Rattle.plots.proofs.outcome.survey_scan.Goals as goal

pub table_memory-requires : goal.table_memory-requires
table_memory-requires c =
    let w = c.in_ok-scan.ensures.law.form c.args.bytes.now (image_of c.in_ok-scan.scan) (sym c.in_ok-scan.ensures.answer) in
    (w.wide.high, w.high.high)

pub returns-in_err-total-clause-refused : goal.returns-in_err-total-clause-refused
returns-in_err-total-clause-refused c report is =
    let w = c.in_ok-scan.ensures.law.form c.args.bytes.now (image_of c.in_ok-scan.scan) (sym c.in_ok-scan.ensures.answer) in
    let s = c.in_ok-scan.scan in
    absurd (never _ 0 _ (c.in_err-total.ensures ∙ survey_accepted s.width s.height _ s.levels.now w.wide w.high (omega (arith, c.in_ok-memory.ensures, c.as_mut_slice.ensures.len)) w.is_levels))
