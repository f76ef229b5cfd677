-- [14] over words is not empty: a PE is frozen as a peer, released and served, in three runs.
--     asked               request words of the first run: PE 2's error message, which stops PE 1 too
--     clearing            of the second: the three clears of PE 1, words that name no request, and PE 1's DMA, which is refused
--     next                of the third: PE 1's DMA
--     blank               answer words
--     first, second       the requests of the first two runs; stopped, free: what each leaves
--     left-words          the state after the first run; met: in the second the premises of the release hold
--     stopped-told, free-told     the first answer of the third run, if it came before the second, and after it
--     witness             THE CLAIM at these words
-- Assumes nothing.
use Rattle.std.specs.Prelude.{◌≡◌, refl, true, List, ◌++◌, ℕ, replicate}
use Rattle.std.proofs.Common.{arith}
use Rattle.kinds.specs.Words.{at}
use Rattle.kinds.specs.declared.request.Request.{Request}
use Rattle.history.specs.History.{history, cleared, stop_of, record_of, record_at, unfrozen}
use Rattle.history.proofs.HistoryCases.{shared, start, pe}
use Rattle.history.proofs.ReleaseCases.{zeros}
use Rattle.isolation.specs.Corollaries.{ran}
use Rattle.profile.proofs.Case.{calm, state_row, ended}
use Rattle.profile.specs.Freeze.{stop_word}
use Rattle.profile.proofs.Opened.{opened}
use Rattle.profile.specs.Tables.{Live}
use Rattle.request_words.specs.Layout.{decoded, decoded_dma, decoded_clear, written}
use Rattle.request_words.proofs.LayoutCases.{eight}
use Rattle.request_words.specs.Run.{ran_on}
use Rattle.request_words.specs.RunRelease.{run_requests, run_left, answers_first}
use Rattle.request_words.proofs.RunRelease.{run_released}

unfoldable pub asked : List ℕ
asked = eight 3 5 0 0 0 0 0 0

unfoldable pub clearing : List ℕ
clearing =
    eight 4 1 2 0 0 0 0 0 ++ eight 99 1 0 0 0 0 0 0 ++ eight 4 1 0 0 0 0 0 0 ++ eight 0 1 0 0x1000000 4 0 0 0 ++ eight 4 1 1 0 0 0 0 0

unfoldable pub next : List ℕ
next = eight 0 1 0 0x1000000 4 0 0 0

abbrev pub blank : List ℕ
blank = replicate 40 9

abbrev pub first : List Request
first = run_requests asked blank

abbrev pub second : List Request
second = run_requests clearing blank

abbrev pub stopped : Live
stopped = run_left start asked blank

abbrev pub free : Live
free = run_left (ran start first) clearing blank

pub left-words : stopped.state ≡ ended 0 (calm ++ state_row 3 13 2 ++ state_row 3 12 5 ++ calm)
unfolding asked opened decoded ran_on
left-words = refl

pub met : cleared shared (pe 1) (history (ran start first) second) ≡ true
unfolding asked clearing opened decoded decoded_dma decoded_clear
met = refl

pub stopped-told : answers_first start stopped next blank ≡ eight 5 4 0 0 0 0 0 0
unfolding asked next opened decoded decoded_dma written ran_on
stopped-told = refl

pub free-told : answers_first start free next blank ≡ eight 0 0 0x1000000 0 1 0 0 0
unfolding asked clearing next opened decoded decoded_dma decoded_clear written ran_on
free-told = refl

pub witness : (at free.state (stop_word (pe 2)) ≡ stop_of shared (pe 2) (history start (first ++ second)))
    × (record_at free.state (pe 2) ≡ record_of shared (pe 2) (history start (first ++ second)))
    × (answers_first start free next blank ≡ answers_first start (unfrozen 4 free) next blank)
unfolding asked clearing next opened decoded decoded_dma decoded_clear ran_on
witness = (
  run_released.stop start zeros first clearing blank (pe 2) (omega arith),
  run_released.error_record start zeros first clearing blank (pe 2) (omega arith),
  run_released.release start zeros first second (pe 1) (omega arith) met next blank (omega arith) refl,
)
