-- A loop over a table, one turn after the other.
--     turns turn l n      n turns of the loop over l, the first with number 0
-- Assumes nothing.
use Rattle.std.specs.Prelude.{List, ℕ, zero, suc}

unfoldable pub turns : (List ℕ → ℕ → List ℕ) → List ℕ → ℕ → List ℕ
turns turn l zero = l
turns turn l (suc k) = turn (turns turn l k) k
