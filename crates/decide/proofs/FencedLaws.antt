-- What `ask` is proved from where it is about the fence; b: the bridge is fenced.
--     passed              a request on a bridge that is not
--     stopped, never_stopped  one of a kind that the fence stops, and of one that it lets pass
--     load-stopped        a load, whose all ones are those of its width
-- Assumes nothing.
use mathlib.Core.Path.{◌≡◌, ◌∙◌}
use mathlib.Core.Bool.{Bool, true, false}
use Prim.Native.Nat.{ℕ, min}
use Rattle.kinds.specs.declared.outcome.Check.TheVariants.{Kept}
use Rattle.kinds.proofs.Tests.{and_false}
use Rattle.kinds.specs.declared.answer.Answer.TheVariants.{Ones}
use Rattle.kinds.specs.declared.answer.Reason.TheVariants.{Fenced}
use Rattle.kinds.specs.declared.number.ByteAddress.{ByteAddress}
use Rattle.kinds.specs.declared.outcome.Check.{Check}
use Rattle.kinds.specs.declared.request.Request.{Request}
use Rattle.kinds.specs.declared.request.Request.TheVariants.{Load}
use Rattle.profile.specs.Fence.{stops, shut}
use Rattle.profile.specs.Step.{formed}
use Rattle.profile.specs.Windows.{ones_of}
use Rattle.mmio.proofs.AccessLaws.{ones-formed}
use Rattle.decide.specs.PastFence.{past_fence}

module _ (b : Bool) (q : Request) (o : Check) {x : Check} where
  pub passed : b ≡ false → x ≡ o → x ≡ (past_fence b q o)
  passed h f = f ∙ rw h

  module _ {k : Request} (is : q ≡ k) where
    pub stopped : b ≡ true → stops k ≡ true → x ≡ (Kept (shut k)) → x ≡ (past_fence b q o)
    stopped h s f = f ∙ rw (is, h, s)

    pub never_stopped : stops k ≡ false → x ≡ o → x ≡ (past_fence b q o)
    never_stopped s f = f ∙ rw (is, s, and_false)

  pub load-stopped : {a : ByteAddress} {w c : ℕ} → q ≡ Load a w → formed q ≡ true → c ≡ ones_of (min w 8) → b ≡ true → x ≡ (Kept (Ones Fenced c))
      → x ≡ (past_fence b q o)
  unfolding formed stops shut
  load-stopped {a} {w} is good ones h f = f ∙ rw (is, h, ones, ones-formed a w (rw is at good))
