-- An input in pieces of any length.
--     joined ps           the pieces ps as one input
--     pieces_of s ps       what they write one after the other, and the end
--     Whole               whatever the pieces: the header and what they write are the output of the whole input
-- Assumes nothing.
use Rattle.std.specs.Prelude.{◌≡◌, List, [], ◌∷◌, ◌++◌, ℕ}
use Rattle.replay_text.specs.Text.{header}
use Rattle.replay_text.specs.Replay.{output}
use Rattle.replay_text.specs.Stream.{Stream, fed_all, said_all, closing, begin}

abbrev pub joined : List (List ℕ) → List ℕ
joined [] = []
joined (p ∷ ps) = p ++ joined ps

unfoldable pub pieces_of : Stream → List (List ℕ) → List ℕ
pieces_of s [] = closing s
pieces_of s (p ∷ ps) = said_all s p ++ pieces_of (fed_all s p) ps

pub record Whole : Type 0 where
  pub pieces : (ps : List (List ℕ)) → header ++ pieces_of begin ps ≡ output (joined ps)
