-- What is left after the checks is what the definition says.
--     finished-is         of every check
--     checked-is          checks by lengths k, which are those of the tables: the definition's
--     decided-is          THE LAW: and finished, they are its answer and effect
-- Assumes nothing.
use Rattle.std.specs.Prelude.{◌≡◌, refl, List, ℕ, length}
use Rattle.std.proofs.Common.{◌∙◌}
use Rattle.kinds.specs.declared.outcome.Check.TheVariants.{Kept, Ready, Walk, Fences}
use Rattle.kinds.specs.declared.outcome.Check.{Check}
use Rattle.kinds.specs.declared.outcome.Outcome.{Outcome}
use Rattle.kinds.specs.declared.record.Lengths.{Lengths}
use Rattle.kinds.specs.declared.request.Request.{Request}
use Rattle.profile.specs.Step.{finish, checked, checked_on, decided}
use Rattle.profile.specs.Tables.{Tables, Live, lengths, sized}
use Rattle.decide.specs.Finished.{finished}

pub finished-is : (i : ℕ) (m : List ℕ) (x : Check) → finished i m x ≡ finish i m x
unfolding finish
finished-is i m (Kept a) = refl
finished-is i m (Ready p o) = refl
finished-is i m (Walk p e q) = refl
finished-is i m (Fences b) = refl

module _ (f : Tables) (m : List ℕ) (s : Live) (q : Request) {k : Lengths} {c : Check} (measured : k ≡ lengths f (length m) s)
    (checks : c ≡ (checked f.sizes f.installed f.requesters f.entries f.windows f.segments s (sized f.sizes k) q)) where
  pub checked-is : c ≡ (checked_on f (length m) s q)
  checked-is = checks ∙ rw measured

  pub decided-is : {o : Outcome} → o ≡ finished f.installed m c → o ≡ decided f m s q
  decided-is h = h ∙ rw checked-is (finished-is f.installed m (checked_on f (length m) s q))
