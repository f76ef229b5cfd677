-- `text_lines::firmware::read_clear` meets its contract. Assumes nothing.
use Rattle.text_fields.proofs.ReadLaws.{reads}
use Rattle.text_lines.proofs.firmware.read_clear.Goals as goal

pub returns-in_err-pe : goal.returns-in_err-pe
returns-in_err-pe c = search (reads, c.in_err-pe.was) depth 24

pub returns-in_err-part : goal.returns-in_err-part
returns-in_err-part c = search (reads, c.in_ok-pe.was, c.in_err-part.was) depth 24

pub returns : goal.returns
returns c = search (reads, c.in_ok-pe.was, c.in_ok-part.was) depth 24
