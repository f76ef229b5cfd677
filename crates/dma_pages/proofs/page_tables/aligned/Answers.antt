-- `dma_pages::page_tables::aligned` meets its contract. Assumes nothing.
use Rattle.dma_pages.proofs.ShapeLaws as laws
use Rattle.dma_pages.proofs.page_tables.aligned.Goals as goal

pub returns-else-bits-le-MOST_BITS : goal.returns-else-bits-le-MOST_BITS
returns-else-bits-le-MOST_BITS c = search laws.at_zero

pub overflow_sub-result : goal.overflow_sub-result
overflow_sub-result c = search laws.table-bytes

pub returns-then-bits-le-MOST_BITS : goal.returns-then-bits-le-MOST_BITS
returns-then-bits-le-MOST_BITS c = search laws.multiple
