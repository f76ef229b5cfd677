-- The history is told from outside: what [14] asks of a step follows from the request, its answer and the public tables.
--     freezing r          a refusal with reason r is a freeze: 5 to 9, 15 and 17
--     told_effect q a     the effect on stop bits and records of request q that is answered a: of a DMA by its refusal, of an error message and of a clear by done
--     lasting x           of effect x what changes stop bits and records
--     told_step f q a     the step that they tell, with the owner by N and the requesters (public_owner); told_history a l: those of a list
-- The theorems are in proofs/Told.antt. Assumes nothing.
use Rattle.kinds.specs.Lookup.{Owner, Translated}
use Rattle.std.specs.Prelude.{◌≡◌, Bool, true, false, cond, ◌&&◌, ◌||◌, List, [], leb, eqb, Ok, Err}
use Rattle.kinds.specs.Answer.{reason_number, is_done}
use Rattle.kinds.specs.Number.{no_word}
use Rattle.kinds.specs.declared.answer.Answer.{Answer}
use Rattle.kinds.specs.declared.answer.Answer.TheVariants.{Pass, Msi, Held, Ones, Drop, Refuse, Done}
use Rattle.kinds.specs.declared.answer.Reason.{Reason}
use Rattle.kinds.specs.declared.answer.Reason.TheVariants.{ErrorMessage}
use Rattle.kinds.specs.declared.number.ByteAddress.{ByteAddress}
use Rattle.kinds.specs.declared.outcome.Effect.{Effect}
use Rattle.kinds.specs.declared.outcome.Effect.TheVariants.{Keep, Freeze, Release, Interrupt, Fence}
use Rattle.kinds.specs.declared.outcome.Outcome.{Outcome}
use Rattle.kinds.specs.declared.request.Request.{Request}
use Rattle.kinds.specs.declared.request.Request.TheVariants.{Dma, Load, Store, Error, Clear, End, Priority, Fatal, FenceClear, Unnamed}
use Rattle.profile.specs.Tables.{Tables}
use Rattle.profile.specs.Owner.{owner_in}
use Rattle.profile.specs.Step.{answered, after}
use Rattle.isolation.specs.View.{Bridge}
use Rattle.history.specs.History.{Step, steps}

abbrev pub freezing : Reason → Bool
freezing r = leb 5 (reason_number r) && leb (reason_number r) 9 || eqb (reason_number r) 15 || eqb (reason_number r) 17

-- of a DMA with this address
abbrev pub told_dma : ByteAddress → Answer → Effect
told_dma a (Pass x p n) = Keep
told_dma a (Msi i v p) = Keep
told_dma a (Held i) = Keep
told_dma a (Ones r v) = Keep
told_dma a (Drop r) = Keep
told_dma a (Refuse r n w) = cond (freezing r) (Freeze (record { reason = r; value = a.0; word = w }) false) Keep
told_dma a Done = Keep

abbrev pub told_effect : Request → Answer → Effect
told_effect (Dma q) a = told_dma q.address a
told_effect (Load x w) a = Keep
told_effect (Store x w) a = Keep
told_effect (Error r) a = cond (is_done a) (Freeze (record { reason = ErrorMessage; value = r; word = no_word }) true) Keep
told_effect (Clear p c) a = cond (is_done a) (Release c) Keep
told_effect (End i) a = Keep
told_effect (Priority i n) a = Keep
told_effect (Fatal r) a = Keep
told_effect FenceClear a = Keep
told_effect Unnamed a = Keep

abbrev pub lasting : Effect → Effect
lasting Keep = Keep
lasting (Freeze e b) = Freeze e b
lasting (Release c) = Release c
lasting (Interrupt i n b) = Keep
lasting (Fence b) = Keep

-- an outcome of request q, and of its checks
abbrev pub Fits : Request → Outcome → Type 0
Fits q o = lasting o.effect ≡ told_effect q o.answer

-- the reason that nobody gets
abbrev pub Spares : Owner → Type 0
Spares (Ok p) = Unit {0}
Spares (Err r) = freezing r ≡ false

-- ---- faults of a translation, which freeze

abbrev pub Freezing : Translated → Type 0
Freezing (Ok x) = Unit {0}
Freezing (Err e) = freezing e.reason ≡ true

-- an outcome that freezes and clears nobody
abbrev pub Idle : Outcome → Type 0
Idle o = lasting o.effect ≡ Keep

-- ---- the steps

-- by N and the requesters alone: a request that asks for the owner of an interrupt or of a window neither freezes nor clears
abbrev pub public_owner : Tables → Request → Owner
public_owner f q = owner_in f.sizes f.requesters [] [] [] q

abbrev pub told_step : Tables → Request → Answer → Step
told_step f q a = record { owner = public_owner f q; effect = told_effect q a }

abbrev pub told_history : Bridge → List Request → List Step
told_history a l =
    steps (after a.tables a.memory) (λ s q. told_step a.tables q (answered a.tables a.memory s q)) [] a.live l
