-- The release in numbers: its premises are met, what it brings back, and which of them are needed.
--     stopping            the list before: an error message of PE 2, which lists PE 1
--     premises r          what the release asks of list r, of PE 1 after `stopping`, and its parts: a clear of the MMIO bit, of the DMA bit, of the record, and
--                         no freeze
--     afterwards r        state and interrupts after both lists
--     clearing            all three clears of PE 1; between them a freeze of PE 2, a request of PE 1 that is refused, and a fence that is set and cleared
--     met                 the premises hold of it; stopped-answers, free-answers: what PE 1 is answered before it and after it
--     fencing, fenced-answers     the same with a fence that is left set: 18, in the place of 4 and 11 too
--     Missing, missing    a list that lacks one premise, and a request of PE 1: what it is answered, and what it would be answered if no PE had been frozen
--     missing_hold        THE STATEMENT over them. So the clears of both bits, and that no freeze stands since the first of them, are needed
--     zeros               the bridge begins with zeros; witness: THE CLAIM at it and these lists, and what follows it; steps-witness: of their steps
--     record_stays        without the clear of the record the answer is the same, and the error record that a next freeze leaves is not; record_written: with
--                         it, it is
--     zeros-needed        a state that does not begin with zeros keeps words that no history says
-- Assumes nothing.
use Rattle.std.specs.Prelude.{◌≡◌, refl, Bool, true, false, not, List, [], ◌∷◌, ◌++◌, map, ℕ, ltb, replicate}
use Rattle.std.proofs.Common.{arith, ltb-true}
use Rattle.std.proofs.lemmas.List.{get_or-replicate}
use Rattle.kinds.specs.Answer.{refuse}
use Rattle.kinds.proofs.Tests.{by_cases}
use Rattle.kinds.specs.Words.{at}
use Rattle.kinds.proofs.WordsLaws.{at_out}
use Rattle.kinds.specs.declared.answer.Answer.{Answer}
use Rattle.kinds.specs.declared.answer.Answer.TheVariants.{Ones}
use Rattle.kinds.specs.declared.answer.Reason.TheVariants.{DmaStopped, MmioStopped, Fenced}
use Rattle.kinds.specs.declared.request.Part.TheVariants.{Mmio, Dma, Record}
use Rattle.kinds.specs.declared.request.Request.{Request}
use Rattle.kinds.specs.declared.request.Request.TheVariants.{Error, Clear, Fatal, FenceClear}
use Rattle.profile.specs.Tables.{Live}
use Rattle.profile.specs.Freeze.{stop_word}
use Rattle.profile.proofs.Opened.{opened}
use Rattle.profile.specs.Step.{answered, after}
use Rattle.profile.proofs.Case.{word_row, calm, states, read, load, pass}
use Rattle.profile.proofs.FreezeCases.{led}
use Rattle.isolation.specs.Corollaries.{ran}
use Rattle.isolation.specs.Isolation.{left}
use Rattle.isolation.specs.View.{Bridge}
use Rattle.history.specs.History.{Step, leaves, history, freezes, clears, any, cleared, stop_of, record_of, record_at, Zeros, unfrozen}
use Rattle.history.proofs.HistoryCases.{shared, start, pe, forbidden}
use Rattle.history.proofs.Release.{steps-released, released, released-after}

unfoldable pub stopping : List Request
stopping = Error 5 ∷ []

-- list r after it: whether PE 1 is cleared, and each of the three clears and no freeze
abbrev pub premises : List Request → List Bool
premises r =
    let h = history (ran start stopping) r in
    cleared shared (pe 1) h ∷ any (clears Mmio (pe 1)) h ∷ any (clears Dma (pe 1)) h ∷ any (clears Record (pe 1)) h ∷ not (any (freezes shared (pe 1)) h) ∷ []

abbrev pub afterwards : List Request → Live
afterwards r = left (ran start stopping) r

-- a DMA and a load of PE 1
abbrev pub ask : Live → List Answer
ask s = map (answered shared start.memory s) (read 1 0x1000000 4 ∷ load 0x40000000 4 ∷ [])

unfoldable pub clearing : List Request
clearing =
    Clear 1 Record
    ∷ Clear 2 Dma
    ∷ forbidden
    ∷ Clear 1 Mmio
    ∷ Fatal 6
    ∷ read 1 0x1000000 4
    ∷ FenceClear
    ∷ read 1 0x1000000 4
    ∷ Clear 1 Dma
    ∷ Error 6
    ∷ []

pub met : premises clearing ≡ true ∷ true ∷ true ∷ true ∷ true ∷ []
unfolding opened stopping clearing
met = refl

pub stopped-answers : ask (left start stopping) ≡ refuse DmaStopped ∷ Ones MmioStopped 0xFFFFFFFF ∷ []
unfolding opened stopping
stopped-answers = refl

pub free-answers : ask (afterwards clearing) ≡ pass 0x1000000 1 0 ∷ pass 0x40000000 1 0 ∷ []
unfolding opened stopping clearing
free-answers = refl

-- the fence is as it is then: set, PE 1 is answered 18
unfoldable pub fencing : List Request
fencing = Clear 1 Mmio ∷ Fatal 6 ∷ Clear 1 Dma ∷ Clear 1 Record ∷ []

pub fenced-met : premises fencing ≡ true ∷ true ∷ true ∷ true ∷ true ∷ []
unfolding opened stopping fencing
fenced-met = refl

pub fenced-answers : map ask (afterwards fencing ∷ unfrozen 4 (afterwards fencing) ∷ []) ≡
    (refuse Fenced ∷ Ones Fenced 0xFFFFFFFF ∷ []) ∷ (refuse Fenced ∷ Ones Fenced 0xFFFFFFFF ∷ []) ∷ []
unfolding opened stopping fencing
fenced-answers = refl

-- ---- each premise

pub record Missing : Type 0 where
  pub clearing : List Request
  pub request : Request
  pub holds : List Bool
  pub answer : Answer
  pub otherwise : Answer

abbrev pub lacks : List Request → Request → List Bool → (answer otherwise : Answer) → Missing
lacks r q h a b = record { clearing = r; request = q; holds = h; answer = a; otherwise = b }

unfoldable pub missing : List Missing
missing =
    -- no clear of the MMIO bit; none of the DMA bit
    lacks (Clear 1 Dma ∷ Clear 1 Record ∷ []) (load 0x40000000 4) (false ∷ false ∷ true ∷ true ∷ true ∷ []) (Ones MmioStopped 0xFFFFFFFF) (pass 0x40000000 1 0)
    ∷ lacks (Clear 1 Mmio ∷ Clear 1 Record ∷ []) (read 1 0x1000000 4) (false ∷ true ∷ false ∷ true ∷ true ∷ []) (refuse DmaStopped) (pass 0x1000000 1 0)
    -- a freeze since the first of the clears, by its own message and as a peer
    ∷ lacks (Clear 1 Mmio ∷ Error 1 ∷ Clear 1 Dma ∷ Clear 1 Record ∷ []) (load 0x40000000 4) (false ∷ true ∷ true ∷ true ∷ false ∷ [])
    (Ones MmioStopped 0xFFFFFFFF) (pass 0x40000000 1 0)
    ∷ lacks (Clear 1 Dma ∷ Clear 1 Record ∷ Error 5 ∷ Clear 1 Mmio ∷ []) (read 1 0x1000000 4) (false ∷ true ∷ true ∷ true ∷ false ∷ [])
    (refuse DmaStopped) (pass 0x1000000 1 0)
    ∷ []

pub missing_hold : map (λ c. lacks c.clearing c.request (premises c.clearing) (answered shared start.memory (afterwards c.clearing) c.request)
    (answered shared start.memory (unfrozen 4 (afterwards c.clearing)) c.request)) missing ≡ missing
unfolding opened stopping missing
missing_hold = refl

-- PE 1's record after a DMA of a class that is not served
abbrev pub record_after : Live → List ℕ
record_after s = record_at (after shared start.memory s (read 1 0x2000000000000000 4)).state (pe 1)

unfoldable pub record_kept : List Request
record_kept = Clear 1 Mmio ∷ Clear 1 Dma ∷ []

-- without the clear of the record the answers are the same, and the old record stays
pub record_stays : (premises record_kept ≡ false ∷ true ∷ true ∷ false ∷ true ∷ []) × (ask (afterwards record_kept) ≡ ask (unfrozen 4 (afterwards record_kept)))
    × (record_after (afterwards record_kept) ≡ 13 ∷ 2 ∷ 0 ∷ []) × (record_after (unfrozen 4 (afterwards record_kept)) ≡ 5 ∷ 0x2000000000000000 ∷ 0 ∷ [])
unfolding opened stopping record_kept
record_stays = (refl, refl, refl, refl)

-- with it the record is written
pub record_written : record_after (afterwards clearing) ≡ 5 ∷ 0x2000000000000000 ∷ 0 ∷ []
unfolding opened stopping clearing
record_written = refl

-- a state that does not begin with zeros: nothing was asked, and the words are not those of the history
abbrev pub begun : Bridge
begun = record { tables = shared; memory = led; live = states calm (word_row 4 0 0 7) calm calm }

pub zeros-needed : (map (at (left begun []).state) (4 ∷ 7 ∷ []) ≡ 4 ∷ 7 ∷ []) × (stop_of shared (pe 1) (history begun []) ∷ record_of shared (pe 1) (history begun []) ≡ calm)
zeros-needed = (refl, refl)

-- ---- the claim at these lists

pub zeros : Zeros start.live
zeros i = by_cases (ltb i 17) (λ o. get_or-replicate {A = ℕ} 17 i 0 0 (ltb-true i 17 o)) (λ o. at_out (replicate 17 0) i o)

-- PE 1's next DMA
abbrev pub next : Request
next = read 1 0x1000000 4

pub witness : (at (left start stopping).state (stop_word (pe 1)) ≡ stop_of shared (pe 1) (history start stopping))
    × (record_at (left start stopping).state (pe 1) ≡ record_of shared (pe 1) (history start stopping))
    × (answered shared start.memory (afterwards clearing) next ≡ answered shared start.memory (unfrozen 4 (afterwards clearing)) next)
    × (record_at (after shared start.memory (afterwards clearing) next).state (pe 1) ≡ record_at (after shared start.memory (unfrozen 4 (afterwards clearing)) next).state (pe 1))
unfolding opened stopping clearing
witness = (
  released.stop start zeros stopping (pe 1) (omega arith),
  released.error_record start zeros stopping (pe 1) (omega arith),
  released.release start zeros stopping clearing (pe 1) (omega arith) refl next refl,
  let same = released-after start zeros (pe 1) (omega arith) stopping clearing refl next refl in
      rw (same.state-word 5 refl, same.state-word 6 refl, same.state-word 7 refl),
)

-- of the steps of these lists
abbrev pub steps_before : List Step
steps_before = history start stopping

abbrev pub steps_after : List Step
steps_after = history (ran start stopping) clearing

pub steps-witness : (at (leaves shared steps_before start.live).state (stop_word (pe 1)) ≡ stop_of shared (pe 1) steps_before)
    × (record_at (leaves shared steps_before start.live).state (pe 1) ≡ record_of shared (pe 1) steps_before)
    × (at (leaves shared (steps_after ++ steps_before) start.live).state (stop_word (pe 1)) ≡ 0)
    × (record_at (leaves shared (steps_after ++ steps_before) start.live).state (pe 1) ≡ 0 ∷ 0 ∷ 0 ∷ [])
unfolding opened stopping clearing
steps-witness =
    let free = steps-released.release shared start.live zeros (omega arith) steps_before steps_after (pe 1) (omega arith) refl in (
      steps-released.stop shared start.live zeros (omega arith) steps_before (pe 1) (omega arith),
      steps-released.error_record shared start.live zeros (omega arith) steps_before (pe 1) (omega arith),
      free.0,
      free.1,
    )
