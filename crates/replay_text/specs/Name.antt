-- The names of answers.
--     names               those of answers 0 to 6
--     name_of k            the name of answer number k; `bad` from 7 on
--     name_most           the letters of a name at most
-- Assumes nothing.
use Rattle.std.specs.Prelude.{List, [], ◌∷◌, ℕ, get_or}
use Rattle.replay_text.specs.Bytes.{bytes}

abbrev pub names : List (List ℕ)
names = bytes "pass" ∷ bytes "msi" ∷ bytes "held" ∷ bytes "ones" ∷ bytes "drop" ∷ bytes "refuse" ∷ bytes "done" ∷ []

unfoldable pub name_of : ℕ → List ℕ
name_of k = get_or names k (bytes "bad")

abbrev pub name_most : ℕ
name_most = 6
