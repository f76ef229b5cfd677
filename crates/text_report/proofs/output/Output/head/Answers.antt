-- `text_report::output::Output::head` meets its contract. Assumes nothing.
use Rattle.std.proofs.Common.{◌∙◌}
use Rattle.text_report.proofs.WriteLaws as laws
use Rattle.text_report.proofs.output.Output.head.Goals as goal

pub name-requires : goal.name-requires
name-requires c = laws.name_free _ _ _ c.decimal.ensures.wrote c.requires

pub returns : goal.returns
returns c = record { wrote = laws.head_wrote _ _ _ c.decimal.ensures.wrote _ c.name.ensures.wrote; same = c.name.ensures.same ∙ c.decimal.ensures.same }
