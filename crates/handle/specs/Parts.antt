-- The parts of a check.
--     pe_of x             the PE at which the effect of check x is done; 0 stands where it is no PE's, or nothing is done
--     is_kept x           check x is an answer
--     known x             the outcome, as far as it is known without a walk
-- Assumes nothing.
use Rattle.std.specs.Prelude.{Bool, true, false}
use Rattle.kinds.specs.Outcome.{kept, done}
use Rattle.kinds.specs.declared.number.PeNumber.{PeNumber}
use Rattle.kinds.specs.declared.outcome.Check.{Check}
use Rattle.kinds.specs.declared.outcome.Check.TheVariants.{Kept, Ready, Walk, Fences}
use Rattle.kinds.specs.declared.outcome.Effect.TheVariants.{Keep, Fence}
use Rattle.kinds.specs.declared.outcome.Outcome.{Outcome}

abbrev pub pe_of : Check → PeNumber
pe_of (Kept a) = record { 0 = 0 }
pe_of (Ready p o) = p
pe_of (Walk p e q) = p
pe_of (Fences b) = record { 0 = 0 }

abbrev pub is_kept : Check → Bool
is_kept (Kept a) = true
is_kept (Ready p o) = false
is_kept (Walk p e q) = false
is_kept (Fences b) = false

abbrev pub known : Check → Outcome
known (Kept a) = kept a
known (Ready p o) = o
known (Walk p e q) = done Keep
known (Fences b) = done (Fence b)
