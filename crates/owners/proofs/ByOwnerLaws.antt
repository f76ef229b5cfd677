-- Laws of what a request comes to by its owner.
--     asked_by            what is asked, in this form, of a request that is refused where it is nobody's: all are but a fence clear. With `ask` unfolded
--                         it names what a request of its kind reads and nothing else
--     asked-case          so what is found for a request of a kind is what is asked of its owner
--     of_pe_lem, of_nobody  what is found by an owner that was looked up
-- Assumes nothing.
use Rattle.kinds.specs.Lookup.{Owner}
use Rattle.std.specs.Prelude.{◌≡◌, List, ℕ, Ok, Err}
use Rattle.std.proofs.Math.Path.{refl}
use Rattle.std.proofs.Common.{sym, ◌∙◌}
use Rattle.kinds.specs.Answer.{refuse}
use Rattle.kinds.specs.declared.outcome.Check.TheVariants.{Kept}
use Rattle.kinds.specs.declared.answer.Reason.{Reason}
use Rattle.kinds.specs.declared.number.PeNumber.{PeNumber}
use Rattle.kinds.specs.declared.outcome.Check.{Check}
use Rattle.kinds.specs.declared.record.Sizes.{Sizes}
use Rattle.kinds.specs.declared.request.Request.{Request}
use Rattle.profile.specs.Owner.{owner_in}
use Rattle.profile.specs.Step.{unowned, ask, asked}
use Rattle.profile.specs.Tables.{Live}
use Rattle.owners.specs.ByOwner.{by_owner}

module _ (z : Sizes) (b : ℕ) (q e w g : List ℕ) (s : Live) where
  pub asked_by : (y : Request) → ((r : Reason) → unowned y r ≡ Kept (refuse r)) → (o : Owner) → asked z b q e w g s y o ≡ by_owner (λ p. ask z b q e w g s p y) o
  unfolding asked by_owner
  asked_by y refused (Ok p) = refl
  asked_by y refused (Err r) = refused r

  pub asked-case : {y x : Request} {c : Check} → y ≡ x → ((r : Reason) → unowned x r ≡ Kept (refuse r))
      → c ≡ (by_owner (λ p. ask z b q e w g s p x) (owner_in z q w g s.interrupts x)) → c ≡ (asked z b q e w g s y (owner_in z q w g s.interrupts y))
  asked-case {x = x} i refused h = rw i (h ∙ sym (asked_by x refused (owner_in z q w g s.interrupts x)))

module _ (k : PeNumber → Check) (o : Owner) {i : Owner} (found : i ≡ o) where
  pub of_pe_lem : {p : PeNumber} {x : Check} → i ≡ Ok p → x ≡ (k p) → x ≡ (by_owner k o)
  unfolding by_owner
  of_pe_lem e h = rw (← found, e) h

  pub of_nobody : {r : Reason} {x : Check} → i ≡ Err r → x ≡ (Kept (refuse r)) → x ≡ (by_owner k o)
  unfolding by_owner
  of_nobody e h = rw (← found, e) h
