-- A release among edits and invalidates, in numbers, on the bridge of the cases of the cache.
--     start               the bridge with an empty cache, whose state is zeros
--     stopping            PE 2 is frozen by a write that its table word forbids; an edit then permits it, and an invalidate follows: PE 2 stays stopped
--     clearing            the three clears, with an edit, an invalidate and another PE's DMA among them
--     next                PE 2's next write; answers: before the clears 4, after them a pass, as if nobody had been frozen
--     met                 the premise holds
--     witness             THE CLAIM at these
-- Assumes nothing.
use Rattle.std.specs.Prelude.{◌≡◌, refl, true, List, [], ◌∷◌}
use Rattle.std.proofs.Common.{arith}
use Rattle.kinds.specs.Answer.{refuse}
use Rattle.kinds.specs.Words.{at}
use Rattle.kinds.specs.declared.answer.Reason.TheVariants.{DmaStopped}
use Rattle.kinds.specs.declared.request.Operation.{Operation}
use Rattle.kinds.specs.declared.request.Operation.TheVariants.{Plain, Edit, Invalidate}
use Rattle.kinds.specs.declared.request.Part.TheVariants.{Mmio, Dma, Record}
use Rattle.kinds.specs.declared.request.Request.{Request}
use Rattle.kinds.specs.declared.request.Request.TheVariants.{Clear}
use Rattle.kinds.specs.declared.request.Scope.TheVariants as scope
use Rattle.profile.proofs.Case.{read, write, pass}
use Rattle.profile.specs.Freeze.{stop_word}
use Rattle.isolation.specs.Machine.{end}
use Rattle.history.specs.History.{cleared, stop_of, record_of, record_at}
use Rattle.history.proofs.HistoryCases.{pe}
use Rattle.history.proofs.ReleaseCases.{zeros}
use Rattle.cache.specs.Cache.{Cached, cached_answer, cached_after}
use Rattle.cache.proofs.CacheCases.{shared, memory, vacant, bridge, page403}
use Rattle.cache.proofs.Opened.{opened-cache}
use Rattle.cache_claims.specs.Release.{cached_history, thaw, both}
use Rattle.cache_claims.proofs.Release.{cached_released}

abbrev pub start : Cached
start = bridge vacant

abbrev pub next : Request
next = write 5 0x404ABC 4 0

unfoldable pub stopping : List Operation
stopping = page403 ∷ Plain next ∷ Edit 516 0xA003 ∷ Invalidate (scope.Pe 2) ∷ []

unfoldable pub clearing : List Operation
clearing =
    Plain (Clear 2 Record) ∷ Edit 515 0xB003 ∷ Plain (Clear 2 Dma) ∷ Plain (read 1 0x3ABC 4) ∷ Invalidate scope.All ∷ Plain (Clear 2 Mmio) ∷ []

-- after the first list, and after both
abbrev pub stopped : Cached
stopped = end (cached_after shared) start stopping

abbrev pub free : Cached
free = both shared start stopping clearing

pub answers : cached_answer shared stopped (Plain next) ∷ cached_answer shared free (Plain next) ∷ cached_answer shared (thaw shared stopped) (Plain next) ∷ [] ≡
    refuse DmaStopped ∷ pass 0xAABC 2 2 ∷ pass 0xAABC 2 2 ∷ []
unfolding opened-cache memory vacant stopping clearing
answers = refl

-- PE 2's words after the first list: frozen by 8, with the address of the word
pub words_left : at stopped.bare.live.state (stop_word (pe 2)) ∷ record_at stopped.bare.live.state (pe 2) ≡ 3 ∷ 8 ∷ 0x404ABC ∷ 0x1020 ∷ []
unfolding opened-cache memory vacant stopping
words_left = refl

pub met : cleared shared (pe 2) (cached_history shared stopped clearing) ≡ true
unfolding opened-cache memory vacant stopping clearing
met = refl

pub witness : (at stopped.bare.live.state (stop_word (pe 2)) ≡ stop_of shared (pe 2) (cached_history shared start stopping))
    × (record_at stopped.bare.live.state (pe 2) ≡ record_of shared (pe 2) (cached_history shared start stopping))
    × (cached_answer shared free (Plain next) ≡ cached_answer shared (thaw shared free) (Plain next))
witness = (
  cached_released.stop shared start zeros stopping (pe 2) (omega arith),
  cached_released.error_record shared start zeros stopping (pe 2) (omega arith),
  cached_released.release shared start zeros stopping clearing (pe 2) (omega arith) met next (unfold opened-cache in refl),
)
