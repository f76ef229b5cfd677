-- When the marks of a group are made.
--     coverable_hold      with the most PEs, and with no memory at all; not with one PE more, nor where one of the three lists has another length
-- Assumes nothing.
use Rattle.std.specs.Prelude.{◌≡◌, refl, Bool, true, false, List, [], ◌∷◌, ℕ}
use Rattle.isolation_tests.specs.Covers.{coverable}

abbrev word : List ℕ
word = 7 ∷ []

abbrev rows : List Bool
rows =
    coverable 256 word word word word
    ∷ coverable 0 [] [] [] []
    ∷ coverable 257 word word word word
    ∷ coverable 1 [] word word word
    ∷ coverable 1 word [] word word
    ∷ coverable 1 word word [] word
    ∷ []

pub coverable_hold : rows ≡ true ∷ true ∷ false ∷ false ∷ false ∷ false ∷ []
unfolding coverable
coverable_hold = refl
