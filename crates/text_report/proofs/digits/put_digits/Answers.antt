-- `text_report::digits::put_digits` meets its contract. Assumes nothing.
use Rattle.text_report.proofs.DigitLaws as laws
use Rattle.text_report.proofs.digits.put_digits.Goals as goal

pub loop-i-preserved : goal.loop-i-preserved
loop-i-preserved c = search laws.digits-turn

pub returns : goal.returns
returns c = search (laws.digits-ended, laws.digits-end, laws.digits-past)
