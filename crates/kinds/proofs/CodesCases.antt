-- What numbers stand for, in one table a type with one statement over it.
--     directions_hold, parts_hold, sizes_hold     each number stands for what its row says
-- Assumes nothing.
use Rattle.std.specs.Prelude.{◌≡◌, refl, [], ◌∷◌, map, Ok}
use Rattle.kinds.specs.Codes.{direction_of, part_of, size_of, unnamed}
use Rattle.kinds.specs.declared.number.PageSize.TheVariants.{K4, K64, M16, M256}
use Rattle.kinds.specs.declared.request.Direction.TheVariants.{Read, Write}
use Rattle.kinds.specs.declared.request.Part.TheVariants.{Mmio, Dma, Record}

pub directions_hold : map direction_of (0 ∷ 1 ∷ 2 ∷ []) ≡ Ok Read ∷ Ok Write ∷ unnamed ∷ []
directions_hold = refl

pub parts_hold : map part_of (0 ∷ 1 ∷ 2 ∷ 3 ∷ []) ≡ Ok Mmio ∷ Ok Dma ∷ Ok Record ∷ unnamed ∷ []
parts_hold = refl

pub sizes_hold : map size_of (0 ∷ 1 ∷ 5 ∷ 13 ∷ 17 ∷ 18 ∷ []) ≡ unnamed ∷ Ok K4 ∷ Ok K64 ∷ Ok M16 ∷ Ok M256 ∷ unnamed ∷ []
sizes_hold = refl
