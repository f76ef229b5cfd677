-- `dma_pages::page_tables::shape_of` meets its contract. Assumes nothing.
use mathlib.Core.Path.{refl}
use Rattle.dma_pages.proofs.ShapeLaws as laws
use Rattle.dma_pages.proofs.page_tables.shape_of.Goals as goal
use Rattle.dma_pages.proofs.page_tables.shape_of.Goals.{then-span-gt-OFFSET_BITS-via-then-span-gt-OFFSET_BITS, then-span-gt-OFFSET_BITS-via-else-span-gt-OFFSET_BITS+then-not-aligned}

pub returns-then-span-gt-OFFSET_BITS : goal.returns-then-span-gt-OFFSET_BITS
returns-then-span-gt-OFFSET_BITS c = elim c.then-span-gt-OFFSET_BITS.branch [ then-span-gt-OFFSET_BITS-via-then-span-gt-OFFSET_BITS w ↦ search (laws.sized-by c.args.entry refl c.in_ok-size.ensures, laws.wide) | then-span-gt-OFFSET_BITS-via-else-span-gt-OFFSET_BITS+then-not-aligned w ↦ search (laws.sized-by c.args.entry refl c.in_ok-size.ensures, laws.unaligned) ]

pub returns : goal.returns
returns c = search (laws.sized-by c.args.entry refl c.in_ok-size.ensures, laws.shaped)
