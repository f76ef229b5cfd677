-- 02, [14], of a run over words.
--     run_requests w l    the requests that a run over request words w with answer words l serves
--     run_left a w l      what it leaves
--     answers_first ..    the words of its first answer
--     RunReleased         THE CLAIM: `Released`, with words in the place of requests and answers. Before the run stands any list of requests, those of
--                         earlier runs
-- The theorems are in proofs/RunRelease.antt. Assumes nothing.
use Rattle.std.specs.Prelude.{◌≡◌, true, List, ◌++◌, ℕ, ◌<◌, Ok}
use Rattle.kinds.specs.Words.{at}
use Rattle.kinds.specs.declared.number.PeNumber.{PeNumber}
use Rattle.kinds.specs.declared.request.Request.{Request}
use Rattle.history.specs.History.{history, cleared, stop_of, record_of, record_at, Zeros, unfrozen}
use Rattle.isolation.specs.Corollaries.{ran}
use Rattle.isolation.specs.Isolation.{left}
use Rattle.isolation.specs.View.{Bridge}
use Rattle.profile.specs.Freeze.{stop_word}
use Rattle.profile.specs.Owner.{owner}
use Rattle.profile.specs.Tables.{Live}
use Rattle.request_words.specs.Layout.{decoded_at, requests_from, words_at}
use Rattle.request_words.specs.Run.{served, ran_to}

abbrev pub run_requests : (requests answers : List ℕ) → List Request
run_requests w l = requests_from w 0 (served w l)

abbrev pub run_left : Bridge → (requests answers : List ℕ) → Live
run_left a w l = (ran_to a.tables a.memory w a.live l (served w l)).live

abbrev pub answers_first : Bridge → Live → (requests answers : List ℕ) → List ℕ
answers_first a s w l = words_at (ran_to a.tables a.memory w s l (served w l)).answers 0

pub record RunReleased : Type 0 where
  -- any list of requests from a state of zeros, then a run over request words w with answer words x, and a PE
  pub stop : (a : Bridge) → Zeros a.live → (l : List Request) (w x : List ℕ) (k : PeNumber) → k.0 < a.tables.sizes.pes
      → at (run_left (ran a l) w x).state (stop_word k) ≡ stop_of a.tables k (history a (l ++ run_requests w x))
  pub error_record : (a : Bridge) → Zeros a.live → (l : List Request) (w x : List ℕ) (k : PeNumber) → k.0 < a.tables.sizes.pes
      → record_at (run_left (ran a l) w x).state k ≡ record_of a.tables k (history a (l ++ run_requests w x))
  -- the first request of a run after the release
  pub release : (a : Bridge) → Zeros a.live → (l r : List Request) (k : PeNumber) → k.0 < a.tables.sizes.pes
      → cleared a.tables k (history (ran a l) r) ≡ true
      → (w x : List ℕ) → 0 < served w x → owner a.tables (left (ran a l) r) (decoded_at w 0) ≡ Ok k
      → answers_first a (left (ran a l) r) w x ≡ answers_first a (unfrozen a.tables.sizes.pes (left (ran a l) r)) w x
