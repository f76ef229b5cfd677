-- 02, [14], of the bridge with a translation cache, over any contents of it: edits and invalidates stand in the history as steps that freeze and clear nobody.
--     cached_step f x q   the step of operation q
--     cached_history f x l THE HISTORY of a list of operations
--     thaw f x            x with 0 in all words of the PEs: the fence word, interrupts, memory and cache are as they are
--     CachedReleased      THE CLAIM, as a type that a promise can cite
-- The theorems are in proofs/Release.antt. Assumes nothing.
use Rattle.std.specs.Prelude.{◌≡◌, true, List, [], ◌<◌, Ok, Err}
use Rattle.kinds.specs.Words.{at}
use Rattle.kinds.specs.declared.answer.Reason.TheVariants.{BadFirmware}
use Rattle.kinds.specs.declared.number.PeNumber.{PeNumber}
use Rattle.kinds.specs.declared.outcome.Effect.TheVariants.{Keep}
use Rattle.kinds.specs.declared.request.Operation.{Operation}
use Rattle.kinds.specs.declared.request.Operation.TheVariants.{Plain, Edit, Invalidate}
use Rattle.kinds.specs.declared.request.Request.{Request}
use Rattle.profile.specs.Freeze.{stop_word}
use Rattle.profile.specs.Owner.{owner}
use Rattle.profile.specs.Tables.{Tables}
use Rattle.isolation.specs.Machine.{end}
use Rattle.history.specs.History.{Step, steps, cleared, stop_of, record_of, record_at, Zeros, unfrozen}
use Rattle.edits.specs.Edits.{outcome_by}
use Rattle.cache.specs.Cache.{Cached, fit, finish_of, cached_answer, cached_after}

abbrev pub cached_step : Tables → Cached → Operation → Step
cached_step f x (Plain q) = record { owner = owner f x.bare.live q; effect = (outcome_by (fit f x) (finish_of f x) f x.bare.live q).effect }
cached_step f x (Edit k v) = record { owner = Err BadFirmware; effect = Keep }
cached_step f x (Invalidate s) = record { owner = Err BadFirmware; effect = Keep }

abbrev pub cached_history : Tables → Cached → List Operation → List Step
cached_history f x l = steps (cached_after f) (cached_step f) [] x l

abbrev pub thaw : Tables → Cached → Cached
thaw f x = record { bare = record { memory = x.bare.memory; live = unfrozen f.sizes.pes x.bare.live }; cache = x.cache }

-- what two lists leave, one after the other
abbrev pub both : Tables → Cached → (l r : List Operation) → Cached
both f x l r = end (cached_after f) (end (cached_after f) x l) r

pub record CachedReleased : Type 0 where
  -- any list of operations from a state of zeros, and a PE
  pub stop : (f : Tables) (x : Cached) → Zeros x.bare.live → (l : List Operation) (k : PeNumber) → k.0 < f.sizes.pes
      -- each of its stop bits is set exactly if some freeze of it stands in the history after the last clear of that bit; no other bit is set
      → at (end (cached_after f) x l).bare.live.state (stop_word k) ≡ stop_of f k (cached_history f x l)
  pub error_record : (f : Tables) (x : Cached) → Zeros x.bare.live → (l : List Operation) (k : PeNumber) → k.0 < f.sizes.pes
      -- its record is that of the first freeze since its last clear, or empty if there is none
      → record_at (end (cached_after f) x l).bare.live.state k ≡ record_of f k (cached_history f x l)
  pub release : (f : Tables) (x : Cached) → Zeros x.bare.live → (l r : List Operation) (k : PeNumber) → k.0 < f.sizes.pes
      -- after l, all three clears of it, and no freeze of it since the first of them
      → cleared f k (cached_history f (end (cached_after f) x l) r) ≡ true
      -- its next request is answered as if no PE had been frozen, over the other tables, the fence, memory and cache as they are then
      → (q : Request) → owner f (both f x l r).bare.live q ≡ Ok k
      → cached_answer f (both f x l r) (Plain q) ≡ cached_answer f (thaw f (both f x l r)) (Plain q)
