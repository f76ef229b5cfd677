-- `text_lines::request::read_dma` meets its contract. Assumes nothing.
use Rattle.text_fields.proofs.ReadLaws.{reads}
use Rattle.text_lines.proofs.request.read_dma.Goals as goal

pub returns-in_err-requester : goal.returns-in_err-requester
returns-in_err-requester c = search (reads, c.in_err-requester.was) depth 24

pub returns-in_err-direction : goal.returns-in_err-direction
returns-in_err-direction c = search (reads, c.in_ok-requester.was, c.in_err-direction.was) depth 24

pub returns-in_err-address : goal.returns-in_err-address
returns-in_err-address c = search (reads, c.in_ok-requester.was, c.in_ok-direction.was, c.in_err-address.was) depth 24

pub returns-in_err-length : goal.returns-in_err-length
returns-in_err-length c = search (reads, c.in_ok-requester.was, c.in_ok-direction.was, c.in_ok-address.was, c.in_err-length.was) depth 24

pub returns-in_err-data : goal.returns-in_err-data
returns-in_err-data c = search (reads, c.in_ok-requester.was, c.in_ok-direction.was, c.in_ok-address.was, c.in_ok-length.was, c.in_err-data.was) depth 24

pub returns : goal.returns
returns c = search (reads, c.in_ok-requester.was, c.in_ok-direction.was, c.in_ok-address.was, c.in_ok-length.was, c.in_ok-data.was) depth 24
