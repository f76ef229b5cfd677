-- `text_lines::request::read_error` meets its contract. Assumes nothing.
use Rattle.text_fields.proofs.ReadLaws.{reads}
use Rattle.text_lines.proofs.request.read_error.Goals as goal

pub returns-in_err-requester : goal.returns-in_err-requester
returns-in_err-requester c = search (reads, c.in_err-requester.was) depth 24

pub returns : goal.returns
returns c = search (reads, c.in_ok-requester.was) depth 24
