use Rattle.scan.proofs.Form.{accepted_is_written}
use Rattle.scan.proofs.Written.{written_is_read}
use Rattle.scan.proofs.reader.format_law.Goals as goal

pub returns : goal.returns
returns c = record { read = written_is_read; form = accepted_is_written }
