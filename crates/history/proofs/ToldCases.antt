-- The history from outside, in numbers.
--     reasons, freezing_hold      the reasons by their numbers; THE STATEMENT: which of them are freezes
--     Telling, tellings, tellings_hold    requests and answers, and the effect that they tell
--     words-told          THE STATEMENT over the rows of `HistoryCases`: what is told from their answers is the words of the row
--     witness             stop word and record of PE 1 after a list are those that are told
-- Assumes nothing.
use Rattle.std.specs.Prelude.{◌≡◌, refl, Bool, true, false, List, [], ◌∷◌, ◌++◌, map, ℕ}
use Rattle.std.proofs.Common.{◌∙◌, arith}
use Rattle.kinds.specs.Answer.{reason_number, refuse}
use Rattle.kinds.specs.Words.{at}
use Rattle.kinds.specs.declared.answer.Answer.{Answer}
use Rattle.kinds.specs.declared.answer.Answer.TheVariants.{Msi, Held, Ones, Drop, Done}
use Rattle.kinds.specs.declared.answer.Reason.{Reason}
use Rattle.kinds.specs.declared.answer.Reason.TheVariants.{TableLength, BadRequest, UnknownRequester, DmaStopped, AddressClass, BadEntry, OutsideWindow, TableWord, MsiRefused, NoWindow, MmioStopped, ErrorMessage, FrozenAsPeer, BadFirmware, OutsideMemory, AboveInstalled, Fenced}
use Rattle.kinds.specs.declared.outcome.Effect.{Effect}
use Rattle.kinds.specs.declared.outcome.Effect.TheVariants.{Keep, Freeze, Release}
use Rattle.kinds.specs.declared.request.Part.TheVariants.{Dma}
use Rattle.kinds.specs.declared.request.Request.{Request}
use Rattle.kinds.specs.declared.request.Request.TheVariants.{Error, Clear, End, Priority, Fatal, FenceClear, Unnamed}
use Rattle.profile.specs.Freeze.{stop_word}
use Rattle.profile.proofs.Opened.{opened}
use Rattle.profile.proofs.Case.{load, store, pass, refuse_at}
use Rattle.isolation.specs.Isolation.{left}
use Rattle.history.specs.History.{stop_of, record_of, record_at}
use Rattle.history.proofs.HistoryCases.{shared, start, pe, forbidden, says_of, Row, rows}
use Rattle.history.proofs.Release.{released}
use Rattle.history.proofs.ReleaseCases.{stopping, zeros}
use Rattle.history.specs.Told.{freezing, told_effect, told_history}
use Rattle.history.proofs.Told.{told-stop, told_record}

unfoldable pub reasons : List Reason
reasons =
    TableLength ∷ BadRequest ∷ UnknownRequester ∷ DmaStopped ∷ AddressClass ∷ BadEntry ∷ OutsideWindow ∷ TableWord ∷ MsiRefused ∷ NoWindow ∷ MmioStopped ∷ ErrorMessage ∷ FrozenAsPeer ∷ BadFirmware
    ∷ OutsideMemory ∷ AboveInstalled ∷ Fenced ∷ []

pub freezing_hold : (map reason_number reasons ≡ 1 ∷ 2 ∷ 3 ∷ 4 ∷ 5 ∷ 6 ∷ 7 ∷ 8 ∷ 9 ∷ 10 ∷ 11 ∷ 12 ∷ 13 ∷ 14 ∷ 15 ∷ 17 ∷ 18 ∷ [])
    × (map freezing reasons ≡
    false ∷ false ∷ false ∷ false ∷ true ∷ true ∷ true ∷ true ∷ true ∷ false ∷ false ∷ false ∷ false ∷ false ∷ true ∷ true ∷ false ∷ [])
unfolding reasons
freezing_hold = (refl, refl)

pub record Telling : Type 0 where
  pub request : Request
  pub answer : Answer
  pub effect : Effect

abbrev pub telling : Request → Answer → Effect → Telling
telling q a x = record { request = q; answer = a; effect = x }

-- the same effect of each of these answers
abbrev pub each : Request → List Answer → Effect → List Telling
each q l x = map (λ a. telling q a x) l

abbrev pub freeze : Reason → (value word : ℕ) → (peers : Bool) → Effect
freeze r v w b = Freeze (record { reason = r; value = v; word = record { 0 = w } }) b

unfoldable pub tellings : List Telling
tellings =
    -- a DMA: its refusals that freeze, with their table word, and all else
    telling forbidden (refuse_at TableWord 1 0x5018) (freeze TableWord 0x3ABC 0x5018 false)
    ∷ telling forbidden (refuse MsiRefused) (freeze MsiRefused 0x3ABC 0 false)
    ∷ each forbidden (refuse DmaStopped ∷ refuse Fenced ∷ pass 0 1 1 ∷ Msi 7 5 6 ∷ Held 7 ∷ Ones MmioStopped 255 ∷ Drop MmioStopped ∷ Done ∷ []) Keep
    -- an error message and a clear: done, and all else
    ++ (telling (Error 5) Done (freeze ErrorMessage 5 0 true) ∷ telling (Clear 1 Dma) Done (Release Dma) ∷ [])
    ++ each (Error 5) (refuse UnknownRequester ∷ refuse Fenced ∷ refuse TableWord ∷ []) Keep
    ++ each (Clear 1 Dma) (refuse BadFirmware ∷ refuse TableWord ∷ []) Keep
    -- the others, whatever they are answered
    ++ each (load 0 4) (pass 0 1 0 ∷ Done ∷ refuse TableWord ∷ []) Keep
    ++ each (store 0 4) (pass 0 1 0 ∷ Done ∷ refuse TableWord ∷ []) Keep
    ++ each (End 7) (Done ∷ refuse TableWord ∷ []) Keep
    ++ each (Priority 7 6) (Done ∷ refuse TableWord ∷ []) Keep
    ++ each (Fatal 5) (Done ∷ refuse TableWord ∷ []) Keep
    ++ each FenceClear (Done ∷ refuse TableWord ∷ []) Keep
    ++ each Unnamed (Done ∷ refuse TableWord ∷ []) Keep

pub tellings_hold : map (λ a. telling a.request a.answer (told_effect a.request a.answer)) tellings ≡ tellings
unfolding tellings
tellings_hold = refl

-- what is told of the four PEs
abbrev pub told : Row → List ℕ
told r =
    let f = r.bridge.tables in
    let h = told_history r.bridge r.requests in
    says_of f h (pe 0) ++ says_of f h (pe 1) ++ says_of f h (pe 2) ++ says_of f h (pe 3)

pub words-told : map told rows ≡ map (λ r. r.words) rows
unfolding opened rows
words-told = refl

pub witness : (at (left start stopping).state (stop_word (pe 1)) ≡ stop_of shared (pe 1) (told_history start stopping))
    × (record_at (left start stopping).state (pe 1) ≡ record_of shared (pe 1) (told_history start stopping))
witness = (
  released.stop start zeros stopping (pe 1) (omega arith) ∙ told-stop start stopping (pe 1),
  released.error_record start zeros stopping (pe 1) (omega arith) ∙ told_record start stopping (pe 1),
)
