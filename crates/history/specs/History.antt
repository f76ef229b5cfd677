-- 02, [14]: what a history says of a PE. A history is a list of steps, the newest first; a step is what a request did by the definition.
--     Step                whom a request belongs to, and its effect
--     did f d s           what step d leaves; leaves f h s: what a history leaves
--     step_of f m s q      the step of request q in state s
--     steps next step h s l   the steps of list l before those of history h: on any machine, `step` being the step of a request in the state that it meets
--     history a l         THE HISTORY of list l on bridge a: each request meets the state that the ones before it left
--     listed f p k        PE k is below N and in the peer vector of PE p
--     freeze_of f k d     the error record of the freeze of PE k in step d, if there is one: that of the effect if k is the owner; if k is not, the effect takes
--                         peers and k is listed, that of a peer. Whatever words PE k has; freezes f k d: there is one
--     clears c k d        step d is a clear of part c of PE k
--     any t h             t picks a step
--     since t h           the steps after the last one that t picks, or all
--     first g h           what g gives of the first step of which it gives something
--     cleared f k h       all three parts of PE k are cleared in h, and no freeze of it stands there
--     stop_bits m d       the stop word of these two bits and no other: MMIO, DMA
--     frozen_since c f k h some freeze of PE k stands after the last clear of its part c; stop_of f k h: THE STOP WORD by a history
--     recorded x          the words of an error record, or of an empty one
--     record_of f k h     THE RECORD by a history: of the first freeze of PE k after the last clear of its record, or empty
--     record_at l k       the words of the error record of PE k in the state l
--     Zeros s             every word of the state is 0
--     unfrozen n s        s with 0 in all words of n PEs: the fence word and interrupts are as they are
-- Assumes nothing.
use Rattle.kinds.specs.Lookup.{Owner}
use Rattle.std.specs.Prelude.{◌≡◌, Bool, true, false, cond, not, ◌&&◌, ◌||◌, List, [], ◌∷◌, ℕ, ◌+◌, ltb, eqb, Ok, Err}
use Rattle.std.proofs.Math.Option.{Option, none, some}
use Rattle.kinds.specs.Tests.{given, all}
use Rattle.kinds.specs.Words.{at, map_at, bit_of}
use Rattle.kinds.specs.declared.number.PeNumber.{PeNumber}
use Rattle.kinds.specs.declared.outcome.Effect.{Effect}
use Rattle.kinds.specs.declared.outcome.Effect.TheVariants.{Keep, Freeze, Release, Interrupt, Fence}
use Rattle.kinds.specs.declared.outcome.ErrorRecord.{ErrorRecord}
use Rattle.kinds.specs.declared.request.Part.{Part}
use Rattle.kinds.specs.declared.request.Part.TheVariants.{Mmio, Dma, Record}
use Rattle.kinds.specs.declared.request.Request.{Request}
use Rattle.profile.specs.Tables.{Tables, Live}
use Rattle.profile.specs.Freeze.{reason_word, value_word, failed_word, vector, error_words, as_peer, of_pes}
use Rattle.profile.specs.Owner.{owner}
use Rattle.profile.specs.Step.{act_by, decided, after}
use Rattle.isolation.specs.View.{Bridge}

pub record Step : Type 0 where
  pub owner : Owner
  pub effect : Effect

abbrev pub did : Tables → Step → Live → Live
did f d s = act_by f d.owner d.effect s

abbrev pub leaves : Tables → List Step → Live → Live
leaves f [] s = s
leaves f (d ∷ h) s = did f d (leaves f h s)

-- ---- the steps of a list of requests

abbrev pub steps : {S Q : Type 0} → (S → Q → S) → (S → Q → Step) → List Step → S → List Q → List Step
steps next step h s [] = h
steps next step h s (q ∷ l) = steps next step (step s q ∷ h) (next s q) l

abbrev pub step_of : Tables → List ℕ → Live → Request → Step
step_of f m s q = record { owner = owner f s q; effect = (decided f m s q).effect }

abbrev pub history : Bridge → List Request → List Step
history a l = steps (after a.tables a.memory) (step_of a.tables a.memory) [] a.live l

-- ---- freezes and clears

abbrev pub listed : Tables → (p k : PeNumber) → Bool
listed f p k = ltb k.0 f.sizes.pes && bit_of (vector f p) k.0

-- of effect x at PE p
abbrev pub freeze_at : Tables → (k p : PeNumber) → Effect → Option ErrorRecord
freeze_at f k p Keep = none
freeze_at f k p (Freeze e peers) = cond (eqb k.0 p.0) (some e) (cond (peers && listed f p k) (some (as_peer p)) none)
freeze_at f k p (Release x) = none
freeze_at f k p (Interrupt i n b) = none
freeze_at f k p (Fence b) = none

abbrev pub freeze_by : Tables → PeNumber → Owner → Effect → Option ErrorRecord
freeze_by f k (Ok p) x = freeze_at f k p x
freeze_by f k (Err r) x = none

abbrev pub freeze_of : Tables → PeNumber → Step → Option ErrorRecord
freeze_of f k d = freeze_by f k d.owner d.effect

abbrev pub freezes : Tables → PeNumber → Step → Bool
freezes f k d = given (freeze_of f k d)

abbrev pub same_part : Part → Part → Bool
same_part Mmio Mmio = true
same_part Mmio Dma = false
same_part Mmio Record = false
same_part Dma Mmio = false
same_part Dma Dma = true
same_part Dma Record = false
same_part Record Mmio = false
same_part Record Dma = false
same_part Record Record = true

-- of effect x at PE p
abbrev pub clear_at : Part → (k p : PeNumber) → Effect → Bool
clear_at c k p Keep = false
clear_at c k p (Freeze e peers) = false
clear_at c k p (Release x) = eqb k.0 p.0 && same_part c x
clear_at c k p (Interrupt i n b) = false
clear_at c k p (Fence b) = false

abbrev pub clear_by : Part → PeNumber → Owner → Effect → Bool
clear_by c k (Ok p) x = clear_at c k p x
clear_by c k (Err r) x = false

abbrev pub clears : Part → PeNumber → Step → Bool
clears c k d = clear_by c k d.owner d.effect

-- ---- what a history says

abbrev pub any : (Step → Bool) → List Step → Bool
any t [] = false
any t (d ∷ h) = t d || any t h

abbrev pub since : (Step → Bool) → List Step → List Step
since t [] = []
since t (d ∷ h) = cond (t d) [] (d ∷ since t h)

-- the one, or the other where there is none
abbrev pub or_else : {X : Type 0} → Option X → Option X → Option X
or_else none y = y
or_else (some x) y = some x

abbrev pub first : {X : Type 0} → (Step → Option X) → List Step → Option X
first g [] = none
first g (d ∷ h) = or_else (first g h) (g d)

abbrev pub cleared : Tables → PeNumber → List Step → Bool
cleared f k h = all (any (clears Mmio k) h ∷ any (clears Dma k) h ∷ any (clears Record k) h ∷ not (any (freezes f k) h) ∷ [])

abbrev pub stop_bits : (mmio dma : Bool) → ℕ
stop_bits m d = cond m 1 0 + cond d 2 0

abbrev pub frozen_since : Part → Tables → PeNumber → List Step → Bool
frozen_since c f k h = any (freezes f k) (since (clears c k) h)

abbrev pub stop_of : Tables → PeNumber → List Step → ℕ
stop_of f k h = stop_bits (frozen_since Mmio f k h) (frozen_since Dma f k h)

abbrev pub recorded : Option ErrorRecord → List ℕ
recorded none = 0 ∷ 0 ∷ 0 ∷ []
recorded (some e) = error_words e

abbrev pub record_of : Tables → PeNumber → List Step → List ℕ
record_of f k h = recorded (first (freeze_of f k) (since (clears Record k) h))

abbrev pub record_at : List ℕ → PeNumber → List ℕ
record_at l k = at l (reason_word k) ∷ at l (value_word k) ∷ at l (failed_word k) ∷ []

-- ---- states

abbrev pub Zeros : Live → Type 0
Zeros s = (i : ℕ) → at s.state i ≡ 0

abbrev pub unfrozen : (pes : ℕ) → Live → Live
unfrozen n s = record { state = map_at (of_pes n (λ i x. 0)) 0 s.state; interrupts = s.interrupts }
