-- What other claims say with demand 3's words.
--     ran a l             bridge a after list l
--     quiet l             no request of list l is a fatal message or a fence clear
-- Assumes nothing.
use Rattle.std.specs.Prelude.{Bool, true, not, ◌&&◌, List, [], ◌∷◌}
use Rattle.kinds.specs.Tests.{given}
use Rattle.kinds.specs.declared.request.Request.{Request}
use Rattle.profile.specs.Fence.{kind}
use Rattle.isolation.specs.View.{Bridge}
use Rattle.isolation.specs.Isolation.{left}

-- the bridge after a list
abbrev pub ran : Bridge → List Request → Bridge
ran a l = record { tables = a.tables; memory = a.memory; live = left a l }

abbrev pub quiet : List Request → Bool
quiet [] = true
quiet (q ∷ l) = not (given (kind q)) && quiet l
