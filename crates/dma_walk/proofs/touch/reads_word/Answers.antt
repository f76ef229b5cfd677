-- `dma_walk::touch::reads_word` meets its contract. The invariant: the walk from the top reads the word exactly where the walk of the levels that are
-- left does. Assumes nothing.
use borrow.Author.Rules.{rules}
use Rattle.dma_walk.proofs.LoopLaws as loop
use Rattle.dma_walk.proofs.TouchLaws as laws
use Rattle.dma_walk.proofs.touch.reads_word.Goals as goal

pub returns-then-at-word : goal.returns-then-at-word
returns-then-at-word c = search laws.found_here

pub loop-below-preserved : goal.loop-below-preserved
loop-below-preserved c = search (rules, loop.shift_less, laws.lower-aligned, laws.lower)

pub returns-in-Err : goal.returns-in-Err
returns-in-Err c = search laws.ended_by

pub returns : goal.returns
returns c = search laws.done
