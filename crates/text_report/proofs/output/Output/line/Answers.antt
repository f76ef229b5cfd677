-- `text_report::output::Output::line` meets its contract. Assumes nothing.
use Rattle.std.proofs.Common.{◌∙◌}
use Rattle.text_report.proofs.WriteLaws as laws
use Rattle.text_report.proofs.output.Output.line.Goals as goal

pub tail-requires : goal.tail-requires
tail-requires c = laws.tail_free _ _ _ _ c.requires c.head.ensures.wrote

pub returns : goal.returns
returns c = record { wrote = laws.wrote_then c.head.ensures.wrote c.tail.ensures.wrote; same = c.tail.ensures.same ∙ c.head.ensures.same }
