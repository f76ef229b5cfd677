-- `dma::by_entry` meets its contract. Assumes nothing.
use Rattle.dma.proofs.DmaLaws as laws
use Rattle.dma.proofs.by_entry.Goals as goal

pub returns-in-Ok-Walk : goal.returns-in-Ok-Walk
returns-in-Ok-Walk c = search laws.by_walk

pub returns-in-Ok-Bypass : goal.returns-in-Ok-Bypass
returns-in-Ok-Bypass c = search laws.by_bypass

pub returns-in-Err : goal.returns-in-Err
returns-in-Err c = search laws.by_refusal
