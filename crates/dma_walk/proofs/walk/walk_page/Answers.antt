-- `dma_walk::walk::walk_page` meets its contract. Assumes nothing.
use Rattle.dma_walk.proofs.TranslateLaws.{page_shaped}
use Rattle.dma_walk.proofs.walk.walk_page.Goals as goal

pub walk-requires : goal.walk-requires
walk-requires c = search page_shaped
