-- `text_report::write_line` meets its contract. Assumes nothing.
use Rattle.replay_text.proofs.TextLaws.{line-most}
use Rattle.text_report.proofs.WriteLaws as laws
use Rattle.text_report.proofs.write_line.Goals as goal

pub returns-then-has_room : goal.returns-then-has_room
returns-then-has_room c = search (laws.text_placed, laws.text_written, line-most)

pub returns-else-has_room : goal.returns-else-has_room
returns-else-has_room c = search (laws.not_placed, laws.not_written)
