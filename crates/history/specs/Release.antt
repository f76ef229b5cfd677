-- 02, [14]: RELEASE BRINGS BACK WHAT THE HISTORY SAYS.
--     StepsReleased       THE CLAIM of any steps, for every machine whose requests do such steps
--     Released            THE CLAIM of [14], as a type that a promise can cite: of any list of requests
-- The theorems are in proofs/Release.antt. Assumes nothing.
use Rattle.std.specs.Prelude.{◌≡◌, true, List, ◌++◌, ◌*◌, ◌<◌, ◌≤◌, length, Ok}
use Rattle.std.proofs.Math.Option.{none}
use Rattle.kinds.specs.Words.{at}
use Rattle.kinds.specs.declared.number.PeNumber.{PeNumber}
use Rattle.kinds.specs.declared.request.Request.{Request}
use Rattle.profile.specs.Tables.{Tables, Live, state_words}
use Rattle.profile.specs.Freeze.{stop_word}
use Rattle.profile.specs.Owner.{owner}
use Rattle.profile.specs.Step.{answered}
use Rattle.isolation.specs.Corollaries.{ran}
use Rattle.isolation.specs.Isolation.{left}
use Rattle.isolation.specs.View.{Bridge}
use Rattle.history.specs.History.{Step, leaves, history, cleared, stop_of, recorded, record_of, record_at, Zeros, unfrozen}

pub record StepsReleased : Type 0 where
  -- any steps from a state of zeros that has the words of all PEs, and a PE
  pub stop : (f : Tables) (s : Live) → Zeros s → f.sizes.pes * state_words ≤ length s.state → (h : List Step) (k : PeNumber) → k.0 < f.sizes.pes
      → at (leaves f h s).state (stop_word k) ≡ stop_of f k h
  pub error_record : (f : Tables) (s : Live) → Zeros s → f.sizes.pes * state_words ≤ length s.state → (h : List Step) (k : PeNumber) → k.0 < f.sizes.pes
      → record_at (leaves f h s).state k ≡ record_of f k h
  pub release : (f : Tables) (s : Live) → Zeros s → f.sizes.pes * state_words ≤ length s.state → (h r : List Step) (k : PeNumber) → k.0 < f.sizes.pes
      → cleared f k r ≡ true
      → (at (leaves f (r ++ h) s).state (stop_word k) ≡ 0) × (record_at (leaves f (r ++ h) s).state k ≡ recorded none)

pub record Released : Type 0 where
  -- any list of requests from a state of zeros, and a PE
  pub stop : (a : Bridge) → Zeros a.live → (l : List Request) (k : PeNumber) → k.0 < a.tables.sizes.pes
      -- each of its stop bits is set exactly if some freeze of it stands in the history after the last clear of that bit; no other bit is set
      → at (left a l).state (stop_word k) ≡ stop_of a.tables k (history a l)
  pub error_record : (a : Bridge) → Zeros a.live → (l : List Request) (k : PeNumber) → k.0 < a.tables.sizes.pes
      -- its record is that of the first freeze since its last clear, or empty if there is none
      → record_at (left a l).state k ≡ record_of a.tables k (history a l)
  pub release : (a : Bridge) → Zeros a.live → (l r : List Request) (k : PeNumber) → k.0 < a.tables.sizes.pes
      -- after l, all three clears of it, and no freeze of it since the first of them
      → cleared a.tables k (history (ran a l) r) ≡ true
      -- its next request is answered as if no PE had been frozen, over the other tables and the fence as they are then
      → (q : Request) → owner a.tables (left (ran a l) r) q ≡ Ok k
      → answered a.tables a.memory (left (ran a l) r) q ≡ answered a.tables a.memory (unfrozen a.tables.sizes.pes (left (ran a l) r)) q
