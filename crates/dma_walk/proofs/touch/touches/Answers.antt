-- `dma_walk::touch::touches` meets its contract. Assumes nothing.
use Rattle.dma_walk.proofs.TranslateLaws.{page_shaped}
use Rattle.dma_walk.proofs.touch.touches.Goals as goal

pub reads_word-requires : goal.reads_word-requires
reads_word-requires c = search page_shaped
