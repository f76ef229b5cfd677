-- `text_report::output::put_text` meets its contract. Assumes nothing.
use Rattle.text_report.proofs.WriteLaws as laws
use Rattle.text_report.proofs.output.put_text.Goals as goal

pub returns : goal.returns
returns c = laws.put_wrote _ _ _ _ c.requires c.copy_from_slice.ensures.after
