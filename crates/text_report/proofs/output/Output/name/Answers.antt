-- `text_report::output::Output::name` meets its contract. Assumes nothing.
use Rattle.text_report.proofs.WriteLaws as laws
use Rattle.text_report.proofs.output.Output.name.Goals as goal

pub text-requires : goal.text-requires
text-requires c = laws.letters_room _ c.name_text.ensures _ _ c.requires

pub returns : goal.returns
returns c = record { wrote = laws.name_wrote _ c.name_text.ensures c.text.ensures.wrote; same = c.text.ensures.same }
