-- `text_report::output::Output::last` meets its contract. Assumes nothing.
use Rattle.std.proofs.Common.{◌∙◌}
use Rattle.text_report.proofs.WriteLaws as laws
use Rattle.text_report.proofs.output.Output.last.Goals as goal

pub decimal-requires : goal.decimal-requires
decimal-requires c = laws.words-free _ _ _ c.hexadecimal.ensures.wrote c.requires

pub returns : goal.returns
returns c = record { wrote = laws.wrote_then c.hexadecimal.ensures.wrote c.decimal.ensures.wrote; same = c.decimal.ensures.same ∙ c.hexadecimal.ensures.same }
