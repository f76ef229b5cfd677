-- `text_lines::read_size` meets its contract. Assumes nothing.
use Rattle.text_fields.proofs.ReadLaws.{reads}
use Rattle.text_lines.proofs.read_size.Goals as goal

pub returns-in_err-pes : goal.returns-in_err-pes
returns-in_err-pes c = search (reads, c.in_err-pes.was) depth 24

pub returns-in_err-interrupts : goal.returns-in_err-interrupts
returns-in_err-interrupts c = search (reads, c.in_ok-pes.was, c.in_err-interrupts.was) depth 24

pub returns-in_err-requesters : goal.returns-in_err-requesters
returns-in_err-requesters c = search (reads, c.in_ok-pes.was, c.in_ok-interrupts.was, c.in_err-requesters.was) depth 24

pub returns-in_err-memory : goal.returns-in_err-memory
returns-in_err-memory c = search (reads, c.in_ok-pes.was, c.in_ok-interrupts.was, c.in_ok-requesters.was, c.in_err-memory.was) depth 24

pub returns : goal.returns
returns c = search (reads, c.in_ok-pes.was, c.in_ok-interrupts.was, c.in_ok-requesters.was, c.in_ok-memory.was) depth 24
