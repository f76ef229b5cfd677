-- `text_lines::firmware::read_priority` meets its contract. Assumes nothing.
use Rattle.text_fields.proofs.ReadLaws.{reads}
use Rattle.text_lines.proofs.firmware.read_priority.Goals as goal

pub returns-in_err-interrupt : goal.returns-in_err-interrupt
returns-in_err-interrupt c = search (reads, c.in_err-interrupt.was) depth 24

pub returns-in_err-priority : goal.returns-in_err-priority
returns-in_err-priority c = search (reads, c.in_ok-interrupt.was, c.in_err-priority.was) depth 24

pub returns : goal.returns
returns c = search (reads, c.in_ok-interrupt.was, c.in_ok-priority.was) depth 24
