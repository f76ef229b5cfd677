-- Theorems of specs/TextIsolation.antt.
--     lines-quiet         no line is a fatal message or a fence clear
--     text-isolated       THE THEOREM: the claim of a session, with the own requests in the place of places
-- Assumes nothing.
use Rattle.std.specs.Prelude.{◌≡◌, refl, Bool, true, List, [], ◌∷◌, map, ℕ}
use Rattle.kinds.specs.Words.{at}
use Rattle.kinds.specs.declared.number.PeNumber.{PeNumber}
use Rattle.profile.specs.Agree.{Closed}
use Rattle.profile.specs.Fence.{fence_word}
use Rattle.isolation.specs.Corollaries.{quiet}
use Rattle.isolation.proofs.Corollaries.{quiet_same}
use Rattle.isolation.specs.Isolation.{own}
use Rattle.isolation.specs.View.{Written, View}
use Rattle.replay_text.proofs.EveryLine.{sized-cases, every_line}
use Rattle.replay_text.specs.Line.{line_of}
use Rattle.replay_text.specs.SessionIsolation.{bridge_in, requests_only, requests_in, own_replies, lines_left}
use Rattle.replay_text.proofs.SessionIsolation.{session-isolation}
use Rattle.replay_text.specs.SessionTables.{Session}
use Rattle.replay_text.specs.TextIsolation.{Quiet}

line_quiet : (x : List ℕ) → Quiet (line_of x)
unfolding requests_in
line_quiet x = every_line Quiet (λ l h. h) (λ n m r w. sized-cases Quiet n m r w (λ l h. h) (λ l h. h)) (λ t i v l h. h) (λ q e l h. rw e h) x

pub lines-quiet : (l : List (List ℕ)) → quiet (requests_in (map line_of l)) ≡ true
unfolding requests_in
lines-quiet [] = refl
lines-quiet (x ∷ l) = line_quiet x (map line_of l) (lines-quiet l)

pub text-isolated : (G : PeNumber → Bool) (s t : Session) → Closed G s.tables → View G (bridge_in s) (bridge_in t)
    -- the lines of two texts, what they say being requests and bad lines
    → (x y : List (List ℕ)) → let l = map line_of x in let k = map line_of y in requests_only l ≡ true → requests_only k ≡ true
    -- in which the group's own requests are the same, in the same order
    → own G (bridge_in s) (requests_in l) ≡ own G (bridge_in t) (requests_in k)
    → (own_replies G s l ≡ own_replies G t k) × Written G s.tables.sizes.interrupts (lines_left s l).live (lines_left t k).live
    × (at (lines_left s l).live.state (fence_word s.tables.sizes.pes) ≡ at (lines_left t k).live.state (fence_word t.tables.sizes.pes))
text-isolated G s t c v x y h g e =
    session-isolation.isolated G s t c v (map line_of x) (map line_of y) h g
    (quiet_same G (bridge_in s) (bridge_in t) (requests_in (map line_of x)) (requests_in (map line_of y)) (lines-quiet x) (lines-quiet y) e)
