-- Whether a number is in a list, as a test.
--     has k l             number k is in list l; of_has, has_of: both ways
-- The theorems are in proofs/Has.antt. Assumes nothing.
use Rattle.std.specs.Prelude.{Bool, false, ◌||◌, ℕ, eqb}
use mathlib.Core.List.{List, [], ◌∷◌}

unfoldable pub has : ℕ → List ℕ → Bool
has k [] = false
has k (x ∷ l) = eqb k x || has k l
