-- `decide::ask` meets its contract. Assumes nothing.
use Rattle.profile.specs.Fence.{stops, shut}
use Rattle.decide.proofs.AskLaws as laws
use Rattle.decide.proofs.FencedLaws as fenced
use Rattle.decide.proofs.ask.Goals as goal

pub returns-then-fenced : goal.returns-then-fenced
unfolding stops shut
returns-then-fenced c = search fenced.stopped

pub returns-then-fenced-2 : goal.returns-then-fenced-2
returns-then-fenced-2 c = search fenced.load-stopped

pub returns-then-fenced-3 : goal.returns-then-fenced-3
unfolding stops shut
returns-then-fenced-3 c = search fenced.stopped

pub returns-then-fenced-4 : goal.returns-then-fenced-4
unfolding stops shut
returns-then-fenced-4 c = search fenced.stopped

pub returns-else-fenced : goal.returns-else-fenced
returns-else-fenced c = search (fenced.passed, laws.dma-case)

pub returns-else-fenced-2 : goal.returns-else-fenced-2
returns-else-fenced-2 c = search (fenced.passed, laws.load-case)

pub returns-else-fenced-3 : goal.returns-else-fenced-3
returns-else-fenced-3 c = search (fenced.passed, laws.store-case)

pub returns-else-fenced-4 : goal.returns-else-fenced-4
returns-else-fenced-4 c = search (fenced.passed, laws.error_case)

pub returns-in-Clear : goal.returns-in-Clear
unfolding stops
returns-in-Clear c = search (fenced.never_stopped, laws.clear-case)

pub returns-in-End : goal.returns-in-End
unfolding stops
returns-in-End c = search (fenced.never_stopped, laws.end-case)

pub returns-in-Priority : goal.returns-in-Priority
unfolding stops
returns-in-Priority c = search (fenced.never_stopped, laws.priority_case)

pub returns-in-Fatal : goal.returns-in-Fatal
unfolding stops
returns-in-Fatal c = search (fenced.never_stopped, laws.fatal-case)

pub returns-in-FenceClear : goal.returns-in-FenceClear
unfolding stops
returns-in-FenceClear c = search (fenced.never_stopped, laws.fence-clear-case)

pub returns-in-Unnamed : goal.returns-in-Unnamed
unfolding stops
returns-in-Unnamed c = search (fenced.never_stopped, laws.unnamed-case)
