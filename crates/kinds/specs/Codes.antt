-- What the numbers of a request and of a table stand for.
--     direction_of n      0 a read, 1 a write
--     part_of n           0 the MMIO stop bit, 1 the DMA stop bit, 2 the error record
--     size_of n           the page size of page code 1, 5, 13 or 17: 2 ^ (code + 11) bytes
--     unnamed             any other number stands for nothing
-- Assumes nothing.
use Rattle.std.specs.Prelude.{cond, ℕ, eqb, Result, Ok, Err}
use Rattle.kinds.specs.declared.number.PageSize.{PageSize}
use Rattle.kinds.specs.declared.number.PageSize.TheVariants.{K4, K64, M16, M256}
use Rattle.kinds.specs.declared.number.Unnamed.{Unnamed}
use Rattle.kinds.specs.declared.request.Direction.{Direction}
use Rattle.kinds.specs.declared.request.Direction.TheVariants.{Read, Write}
use Rattle.kinds.specs.declared.request.Part.{Part}
use Rattle.kinds.specs.declared.request.Part.TheVariants.{Mmio, Dma, Record}

abbrev pub unnamed : {X : Type 0} → Result X Unnamed
unnamed = Err (record {})

abbrev pub direction_of : ℕ → Result Direction Unnamed
direction_of n = cond (eqb n 0) (Ok Read) (cond (eqb n 1) (Ok Write) unnamed)

abbrev pub part_of : ℕ → Result Part Unnamed
part_of n = cond (eqb n 0) (Ok Mmio) (cond (eqb n 1) (Ok Dma) (cond (eqb n 2) (Ok Record) unnamed))

abbrev pub size_of : ℕ → Result PageSize Unnamed
size_of n = cond (eqb n 1) (Ok K4) (cond (eqb n 5) (Ok K64) (cond (eqb n 13) (Ok M16) (cond (eqb n 17) (Ok M256) unnamed)))
