-- `text_lines::parse` meets its contract. Assumes nothing.
use Rattle.text_fields.proofs.FieldsLaws.{text_ok, text_bad}
use Rattle.text_fields.proofs.ReadLaws.{line_then, line_none}
use Rattle.text_lines.proofs.parse.Goals as goal

pub returns-in_err-word : goal.returns-in_err-word
returns-in_err-word c = line_none _ c.of-fields.ensures (text_bad _ _ c.text.ensures c.ok_or.ensures.value c.in_err-word.was) c.from_residual.ensures.0

pub returns : goal.returns
returns c = line_then _ c.of-fields.ensures (text_ok _ c.text.ensures c.ok_or.ensures.value c.in_ok-word.was) c.read_line.ensures
