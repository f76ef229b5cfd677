-- What a request comes to, by its owner.
--     by_owner k o        k of the PE that it belongs to; nobody's is refused
-- Assumes nothing.
use Rattle.kinds.specs.Lookup.{Owner}
use Rattle.std.specs.Prelude.{Ok, Err}
use Rattle.kinds.specs.Answer.{refuse}
use Rattle.kinds.specs.declared.outcome.Check.{Check}
use Rattle.kinds.specs.declared.outcome.Check.TheVariants.{Kept}
use Rattle.kinds.specs.declared.number.PeNumber.{PeNumber}

unfoldable pub by_owner : (PeNumber → Check) → Owner → Check
by_owner k (Ok p) = k p
by_owner k (Err r) = Kept (refuse r)
