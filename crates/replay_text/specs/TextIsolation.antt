-- DEMAND 3, of the lines of a text. None of them is a fatal message or a fence clear, so that two texts have to agree on the own requests alone.
-- The theorems are in proofs/TextIsolation.antt. Assumes nothing.
use Rattle.std.specs.Prelude.{◌≡◌, true, List, ◌∷◌}
use Rattle.isolation.specs.Corollaries.{quiet}
use Rattle.replay_text.specs.Results.{Parsed}
use Rattle.replay_text.specs.SessionIsolation.{requests_in}

-- a line that is no fatal message and no fence clear, before any others
abbrev pub Quiet : Parsed → Type 0
Quiet x = (l : List Parsed) → quiet (requests_in l) ≡ true → quiet (requests_in (x ∷ l)) ≡ true
