-- What is left of a DMA whose page table is walked, as `walk_and_fill` has it. Assumes nothing.
use mathlib.Core.Path.{◌≡◌, refl}
use mathlib.Core.List.{List}
use Prim.Native.Nat.{ℕ}
use Rattle.kinds.specs.declared.outcome.Check.TheVariants.{Walk}
use Rattle.kinds.specs.declared.number.PeNumber.{PeNumber}
use Rattle.kinds.specs.declared.record.TranslationEntry.{TranslationEntry}
use Rattle.kinds.specs.declared.request.DmaRequest.{DmaRequest}
use Rattle.profile.specs.Entry.{offset, page_size}
use Rattle.profile.specs.Step.{reached, finish}
use Rattle.profile.specs.Walk.{walked_page, landed, by_pages}
use Rattle.dma_walk.specs.Turn.{counted}
use Rattle.cache.specs.Cache.{page_for}

pub finish_is : (i : ℕ) (m : List ℕ) (p : PeNumber) (e : TranslationEntry) (q : DmaRequest) → finish i m (Walk p e q)
    ≡ reached i p q (landed (page_size e) q.direction (offset q.address) (walked_page m e (page_for e q)).found) (counted (walked_page m e (page_for e q))).words
unfolding finish by_pages
finish_is i m p e q = refl
