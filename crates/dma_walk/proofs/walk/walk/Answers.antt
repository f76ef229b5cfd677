-- `dma_walk::walk::walk` meets its contract. The invariant: the walk from the top is the walk of the levels that are left, after the words read
-- so far. Assumes nothing.
use borrow.Author.Rules.{rules}
use Rattle.dma_walk.proofs.LoopLaws as laws
use Rattle.dma_walk.proofs.walk.walk.Goals as goal

pub loop-read-preserved : goal.loop-read-preserved
loop-read-preserved c = search (rules, laws.shift_next, laws.read-aligned, laws.read_lower)

pub overflow_add-result : goal.overflow_add-result
overflow_add-result c = search (rules, laws.read-fit)

pub returns-in-Err : goal.returns-in-Err
returns-in-Err c = search laws.read_ended

pub returns : goal.returns
returns c = search laws.read_done
