-- `text_report::output::Output::tail` meets its contract. Assumes nothing.
use Rattle.std.proofs.Common.{◌∙◌}
use Rattle.text_report.proofs.WriteLaws as laws
use Rattle.text_report.proofs.output.Output.tail.Goals as goal

pub last-requires : goal.last-requires
last-requires c = laws.end-free _ _ _ c.decimal.ensures.wrote c.requires

pub returns : goal.returns
returns c = record { wrote = laws.tail_wrote _ _ _ c.decimal.ensures.wrote _ _ c.last.ensures.wrote; same = c.last.ensures.same ∙ c.decimal.ensures.same }
