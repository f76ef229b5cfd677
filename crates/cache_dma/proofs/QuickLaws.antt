-- Theorems of specs/Quick.antt.
--     looked_quick        it is what `looked` puts in the place of the walk
-- Assumes nothing.
use Rattle.std.specs.Prelude.{◌≡◌, List, ℕ}
use Rattle.kinds.specs.declared.outcome.Check.TheVariants.{Walk}
use Rattle.kinds.proofs.Tests.{by_cases}
use Rattle.kinds.specs.declared.number.PeNumber.{PeNumber}
use Rattle.kinds.specs.declared.record.TranslationEntry.{TranslationEntry}
use Rattle.kinds.specs.declared.request.DmaRequest.{DmaRequest}
use Rattle.cache.specs.Cache.{is_hit, looked}
use Rattle.cache_dma.specs.Quick.{in_place, quick_for}

pub looked_quick : (i : ℕ) (c : List ℕ) (p : PeNumber) (e : TranslationEntry) (q : DmaRequest) → in_place (quick_for i c p e q) p (Walk p e q) ≡ looked i c (Walk p e q)
unfolding quick_for looked
looked_quick i c p e q = by_cases (is_hit c p e q) (λ o. rw o) (λ o. rw o)
