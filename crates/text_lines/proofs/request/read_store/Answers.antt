-- `text_lines::request::read_store` meets its contract. Assumes nothing.
use Rattle.text_fields.proofs.ReadLaws.{reads}
use Rattle.text_lines.proofs.request.read_store.Goals as goal

pub returns-in_err-next : goal.returns-in_err-next
returns-in_err-next c = search (reads, c.in_err-next.was) depth 24

pub returns-in_err-width : goal.returns-in_err-width
returns-in_err-width c = search (reads, c.in_ok-next.was, c.in_err-width.was) depth 24

pub returns : goal.returns
returns c = search (reads, c.in_ok-next.was, c.in_ok-width.was) depth 24
