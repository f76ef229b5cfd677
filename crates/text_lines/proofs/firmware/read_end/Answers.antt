-- `text_lines::firmware::read_end` meets its contract. Assumes nothing.
use Rattle.text_fields.proofs.ReadLaws.{reads}
use Rattle.text_lines.proofs.firmware.read_end.Goals as goal

pub returns-in_err-interrupt : goal.returns-in_err-interrupt
returns-in_err-interrupt c = search (reads, c.in_err-interrupt.was) depth 24

pub returns : goal.returns
returns c = search (reads, c.in_ok-interrupt.was) depth 24
