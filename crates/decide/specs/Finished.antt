-- What is left after the checks, as the code has it.
--     finished i m c      the outcome by the check c: by the walk, the only reader of memory, or as it is known; i is the installed size
-- Assumes nothing.
use Rattle.std.specs.Prelude.{List, ℕ}
use Rattle.kinds.specs.Outcome.{kept, done}
use Rattle.kinds.specs.declared.outcome.Check.{Check}
use Rattle.kinds.specs.declared.outcome.Check.TheVariants.{Kept, Ready, Walk, Fences}
use Rattle.kinds.specs.declared.outcome.Effect.TheVariants.{Fence}
use Rattle.kinds.specs.declared.outcome.Outcome.{Outcome}
use Rattle.profile.specs.Step.{finish}

abbrev pub finished : (installed : ℕ) → List ℕ → Check → Outcome
finished i m (Kept a) = kept a
finished i m (Ready p o) = o
finished i m (Walk p e q) = finish i m (Walk p e q)
finished i m (Fences b) = done (Fence b)
