-- `text_report::digits::places` meets its contract. Assumes nothing.
use borrow.Author.Rules.{rules}
use Rattle.text_report.proofs.DigitLaws as laws
use Rattle.text_report.proofs.digits.places.Goals as goal

pub returns-then-rest-lt10 : goal.returns-then-rest-lt10
returns-then-rest-lt10 c = search (rules, laws.places-few)

pub loop-count-preserved : goal.loop-count-preserved
loop-count-preserved c = search (rules, laws.places-turn)

pub returns : goal.returns
returns c = search (rules, laws.places-all)
