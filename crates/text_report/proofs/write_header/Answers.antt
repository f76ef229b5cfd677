-- `text_report::write_header` meets its contract. Assumes nothing.
use borrow.Author.Rules.{rules}
use Rattle.text_report.proofs.WriteLaws as laws
use Rattle.text_report.proofs.write_header.Goals as goal

pub returns-then-has_room : goal.returns-then-has_room
returns-then-has_room c = search (rules, laws.text_placed, laws.text_written)

pub returns-else-has_room : goal.returns-else-has_room
returns-else-has_room c = search (laws.not_placed, laws.not_written)
