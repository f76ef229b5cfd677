-- Marks on memory words.
--     any_mark t j        word j of t is not 0: it has a mark
-- Assumes nothing.
use Rattle.std.specs.Prelude.{Bool, not, List, ℕ, eqb}
use Rattle.kinds.specs.Words.{at}

unfoldable pub any_mark : List ℕ → ℕ → Bool
any_mark t j = not (eqb (at t j) 0)
