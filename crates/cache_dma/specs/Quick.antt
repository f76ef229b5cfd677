-- What the cache says of a DMA whose page table is asked for, as the code has it.
--     quick_for i c p e q  the outcome of a hit whose word permits the DMA, or none
-- The theorems are in proofs/QuickLaws.antt. Assumes nothing.
use Rattle.kinds.specs.Lookup.{frame}
use Rattle.std.specs.Prelude.{cond, List, ℕ, Option, Some, None}
use Rattle.kinds.specs.declared.outcome.Check.{Check}
use Rattle.kinds.specs.declared.outcome.Check.TheVariants.{Ready}
use Rattle.kinds.specs.Number.{no_word}
use Rattle.kinds.specs.declared.number.PeNumber.{PeNumber}
use Rattle.kinds.specs.declared.outcome.Outcome.{Outcome}
use Rattle.kinds.specs.declared.record.TranslationEntry.{TranslationEntry}
use Rattle.kinds.specs.declared.request.DmaRequest.{DmaRequest}
use Rattle.cache.specs.Cache.{word_for, is_hit, found_by}

unfoldable pub quick_for : (installed : ℕ) → (cache : List ℕ) → PeNumber → TranslationEntry → DmaRequest → Option Outcome
quick_for i c p e q = cond (is_hit c p e q) (Some (found_by i p e q (frame no_word (word_for c p e q)) e.levels)) None

-- a walk, or the outcome in its place
abbrev pub in_place : Option Outcome → PeNumber → Check → Check
in_place (Some o) p x = Ready p o
in_place None p x = x
