-- `text_lines::read_set` meets its contract. Assumes nothing.
use Rattle.text_fields.proofs.ReadLaws.{reads}
use Rattle.text_lines.proofs.read_set.Goals as goal

pub returns-in_err-next : goal.returns-in_err-next
returns-in_err-next c = search (reads, c.in_err-next.was) depth 24

pub returns-in_err-next-2 : goal.returns-in_err-next-2
returns-in_err-next-2 c = search (reads, c.in_ok-next.was, c.in_err-next-2.was) depth 24

pub returns-in_err-last : goal.returns-in_err-last
returns-in_err-last c = search (reads, c.in_ok-next.was, c.in_ok-next-2.was, c.in_err-last.was) depth 24

pub returns : goal.returns
returns c = search (reads, c.in_ok-next.was, c.in_ok-next-2.was, c.in_ok-last.was) depth 24
