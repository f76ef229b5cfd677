-- Reasoning by the value of a test.
--     given o             what there may be is there; ungiven: or it is not; option_cases: it is, or not; none-some: it is not both
--     all l               every test of a list holds; all_true: so test k does; all_append: of two lists together
-- The theorems are in proofs/Tests.antt. Assumes nothing.
use Rattle.std.specs.Prelude.{Bool, true, false, ◌&&◌, List, [], ◌∷◌}
use Rattle.std.proofs.Math.Option.{Option, none, some}

abbrev pub given : {X : Type 0} → Option X → Bool
given none = false
given (some x) = true

abbrev pub all : List Bool → Bool
all [] = true
all (b ∷ l) = b && all l
