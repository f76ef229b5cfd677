-- DEMAND 3, of a session of replay text.
--     bridge_in s         the bridge that a session is
--     requests_only l     list l has request lines and bad lines alone
--     requests_in l       the requests of its lines, in order
--     own_replies G s l   what the group's own request lines of l answer, in order, each on the session that the lines before it left: the numbers of an
--                         output line but the first, which counts the neighbours' lines too
--     lines_left s l      the session after the lines
--     SessionIsolation    THE CLAIM: `Isolation`, with lines in the place of requests
-- The theorems are in proofs/SessionIsolation.antt. Assumes nothing.
use Rattle.std.specs.Prelude.{◌≡◌, Bool, true, false, cond, Ok, Err}
use mathlib.Core.List.{List, [], ◌∷◌}
use Rattle.kinds.specs.Answer.{numbered}
use Rattle.kinds.specs.Words.{at}
use Rattle.kinds.specs.declared.answer.Answer.{Answer}
use Rattle.kinds.specs.declared.number.PeNumber.{PeNumber}
use Rattle.kinds.specs.declared.request.Request.{Request}
use Rattle.isolation.specs.Isolation.{places_in}
use Rattle.isolation.specs.View.{Bridge, Written, View}
use Rattle.replay_text.specs.Results.{Parsed, Reply, says}
use Rattle.replay_text.specs.declared.Line.TheVariants.{Size, Set, Request as RequestLine}
use Rattle.profile.specs.Agree.{Closed, belongs}
use Rattle.profile.specs.Fence.{fence_word}
use Rattle.replay_text.specs.SessionTables.{Session}
use Rattle.replay_text.specs.Session.{reply_to, after_line}

abbrev pub bridge_in : Session → Bridge
bridge_in s = record { tables = s.tables; memory = s.memory; live = s.live }

unfoldable pub requests_only : List Parsed → Bool
requests_only [] = true
requests_only (Ok (Size n m r w) ∷ l) = false
requests_only (Ok (Set t i v) ∷ l) = false
requests_only (Ok (RequestLine q) ∷ l) = requests_only l
requests_only (Err e ∷ l) = requests_only l

unfoldable pub requests_in : List Parsed → List Request
requests_in [] = []
requests_in (Ok (Size n m r w) ∷ l) = requests_in l
requests_in (Ok (Set t i v) ∷ l) = requests_in l
requests_in (Ok (RequestLine q) ∷ l) = q ∷ requests_in l
requests_in (Err e ∷ l) = requests_in l

unfoldable pub own_replies : (PeNumber → Bool) → Session → List Parsed → List Reply
own_replies G s [] = []
own_replies G s (Ok (Size n m r w) ∷ l) = own_replies G (after_line s (Ok (Size n m r w))) l
own_replies G s (Ok (Set t i v) ∷ l) = own_replies G (after_line s (Ok (Set t i v))) l
own_replies G s (Ok (RequestLine q) ∷ l) =
    cond (belongs G s.tables s.live q)
    (reply_to s (Ok (RequestLine q)) ∷ own_replies G (after_line s (Ok (RequestLine q))) l)
    (own_replies G (after_line s (Ok (RequestLine q))) l)
own_replies G s (Err e ∷ l) = own_replies G (after_line s (Err e)) l

unfoldable pub lines_left : Session → List Parsed → Session
lines_left s [] = s
lines_left s (x ∷ l) = lines_left (after_line s x) l

pub record SessionIsolation : Type 0 where
  -- a group of PEs, and two sessions whose tables agree as demand 3 asks
  pub isolated : (G : PeNumber → Bool) (s t : Session) → Closed G s.tables → View G (bridge_in s) (bridge_in t)
      -- every two lists of request lines and bad lines in which the group's own requests are the same, in the same order. A fatal message or fence clear
      -- that is answered done would have to stand at the same place in both; no line of a text is one (TextIsolation)
      → (l k : List Parsed) → requests_only l ≡ true → requests_only k ≡ true → places_in G (bridge_in s) (requests_in l) ≡ places_in G (bridge_in t) (requests_in k)
      -- each of them gets the same answer in both; the group's stop bits, error records and interrupt records are equal after both, and so is the fence word
      → (own_replies G s l ≡ own_replies G t k) × Written G s.tables.sizes.interrupts (lines_left s l).live (lines_left t k).live
      × (at (lines_left s l).live.state (fence_word s.tables.sizes.pes) ≡ at (lines_left t k).live.state (fence_word t.tables.sizes.pes))

-- ---- lines are requests

abbrev pub saying : Answer → Reply
saying a = says (numbered a)
