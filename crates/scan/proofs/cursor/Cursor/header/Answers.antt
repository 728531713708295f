use Rattle.std.proofs.Common.{rules}
use Rattle.scan.specs.Reading.{header_answer}
use Rattle.scan.proofs.cursor.Cursor.header.Goals as goal

pub returns-in_err-width : goal.returns-in_err-width
unfolding header_answer
returns-in_err-width c = search rules

pub returns-in_err-height : goal.returns-in_err-height
unfolding header_answer
returns-in_err-height c = search rules

pub returns-in_err-maxval : goal.returns-in_err-maxval
unfolding header_answer
returns-in_err-maxval c = search rules

pub returns : goal.returns
unfolding header_answer
returns c = search rules
