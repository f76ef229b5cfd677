-- What a DMA and an error message come to, by the PE of their requester.
--     dma_of c i e l t q p DMA q of PE p, as far as no memory is read: e are the translation entries, l the interrupts, c is M, i the installed size, t
--                         the state
--     message_of r p      PE p is frozen with its peers, and the record has the requester r
-- Assumes nothing.
use Rattle.std.specs.Prelude.{true, List, ℕ}
use Rattle.kinds.specs.declared.outcome.Check.{Check}
use Rattle.kinds.specs.declared.outcome.Check.TheVariants.{Ready}
use Rattle.kinds.specs.Number.{no_word}
use Rattle.kinds.specs.Outcome.{done}
use Rattle.kinds.specs.Words.{at}
use Rattle.kinds.specs.declared.answer.Reason.TheVariants.{ErrorMessage}
use Rattle.kinds.specs.declared.number.PeNumber.{PeNumber}
use Rattle.kinds.specs.declared.outcome.Effect.TheVariants.{Freeze}
use Rattle.kinds.specs.declared.request.DmaRequest.{DmaRequest}
use Rattle.profile.specs.Freeze.{stop_word}
use Rattle.profile.specs.Step.{dma_asked}

unfoldable pub dma_of : (count installed : ℕ) → (entries interrupts state : List ℕ) → DmaRequest → PeNumber → Check
dma_of c i e l t q p = dma_asked c i e l (at t (stop_word p)) p q

unfoldable pub message_of : ℕ → PeNumber → Check
message_of r p = Ready p (done (Freeze (record { reason = ErrorMessage; value = r; word = no_word }) true))
