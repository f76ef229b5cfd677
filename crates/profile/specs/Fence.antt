-- 02, [9]: the fence. Its word stands after those of the PEs, is no PE's, and is public.
--     fence_word n        the place of the fence word in the state of n PEs
--     fenced w            bit 0 of a fence word is set: the bridge is fenced
--     with_fence b w      the fence word w with bit 0 set or, for false, clear: its other bits stay
--     fence_to n b l      the state l of n PEs after it
--     stops q             the fence stops such a request: DMA and MSI, loads, stores and error messages; no fatal message, and nothing of firmware's
--     barred w q          it stops q, w being the fence word
--     shut q              what q is then answered: 18, a load with all ones of its width, a store dropped
--     Event, kind q       the two kinds of request that change the fence, and which of them q is, if one; fence_bit e: what the fence bit becomes by it
-- Assumes nothing.
use Rattle.std.specs.Prelude.{Bool, true, false, cond, ◌&&◌, List, ℕ, ◌+◌, ◌*◌, ◌/◌, ◌%◌, eqb, set}
use Rattle.std.proofs.Math.Option.{Option, none, some}
use Rattle.kinds.specs.Answer.{refuse}
use Rattle.kinds.specs.Words.{at}
use Rattle.kinds.specs.declared.answer.Answer.{Answer}
use Rattle.kinds.specs.declared.answer.Answer.TheVariants.{Ones, Drop}
use Rattle.kinds.specs.declared.answer.Reason.TheVariants.{Fenced}
use Rattle.kinds.specs.declared.request.Request.{Request}
use Rattle.kinds.specs.declared.request.Request.TheVariants.{Dma, Load, Store, Error, Clear, End, Priority, Fatal, FenceClear, Unnamed}
use Rattle.profile.specs.Tables.{state_words}
use Rattle.profile.specs.Windows.{ones_of}

abbrev pub fence_word : (pes : ℕ) → ℕ
fence_word n = n * state_words

abbrev pub fenced : (word : ℕ) → Bool
fenced w = eqb (w % 2) 1

unfoldable pub with_fence : Bool → (word : ℕ) → ℕ
with_fence b w = cond b (w / 2 * 2 + 1) (w / 2 * 2)

abbrev pub fence_to : (pes : ℕ) → Bool → List ℕ → List ℕ
fence_to n b l = set l (fence_word n) (with_fence b (at l (fence_word n)))

unfoldable pub stops : Request → Bool
stops (Dma q) = true
stops (Load a w) = true
stops (Store a w) = true
stops (Error r) = true
stops (Clear p c) = false
stops (End i) = false
stops (Priority i n) = false
stops (Fatal r) = false
stops FenceClear = false
stops Unnamed = false

abbrev pub barred : (word : ℕ) → Request → Bool
barred w q = fenced w && stops q

unfoldable pub shut : Request → Answer
shut (Dma q) = refuse Fenced
shut (Load a w) = Ones Fenced (ones_of w)
shut (Store a w) = Drop Fenced
shut (Error r) = refuse Fenced
shut (Clear p c) = refuse Fenced
shut (End i) = refuse Fenced
shut (Priority i n) = refuse Fenced
shut (Fatal r) = refuse Fenced
shut FenceClear = refuse Fenced
shut Unnamed = refuse Fenced

pub data Event : Type 0 where
  FatalMessage Cleared : Event

abbrev pub kind : Request → Option Event
kind (Dma q) = none
kind (Load a w) = none
kind (Store a w) = none
kind (Error r) = none
kind (Clear p c) = none
kind (End i) = none
kind (Priority i n) = none
kind (Fatal r) = some FatalMessage
kind FenceClear = some Cleared
kind Unnamed = none

abbrev pub fence_bit : Event → Bool
fence_bit FatalMessage = true
fence_bit Cleared = false
