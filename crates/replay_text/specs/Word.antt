-- Words, and what they stand for.
--     find ws f           what the first word of ws that field f is stands for, or none
-- Assumes nothing.
use Rattle.std.specs.Prelude.{cond, List, [], ◌∷◌, ℕ, Option, None, Some}
use Prim.Native.String.{String}
use Rattle.replay_text.specs.Bytes.{bytes}
use Rattle.replay_text.specs.Field.{is}

unfoldable pub find : {A : Type 0} → List (String × A) → List ℕ → Option A
find [] f = None
find (w ∷ ws) f = cond (is f (bytes w.0)) (Some w.1) (find ws f)
