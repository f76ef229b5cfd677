-- What `pass_checks` is proved from: what N is found to be, and what the checks come to then. Assumes nothing.
use Rattle.std.specs.Prelude.{◌≡◌, refl, Bool, true, false, cond, ℕ, Result, Ok, Err}
use Rattle.std.specs.Result.{IsErrAnd}
use Rattle.std.proofs.Common.{arith, sym, ◌∙◌}
use Rattle.kinds.specs.Answer.{refuse}
use Rattle.kinds.specs.Outcome.{settled}
use Rattle.kinds.specs.Words.{at}
use Rattle.kinds.specs.declared.answer.Reason.{Reason}
use Rattle.kinds.specs.declared.answer.Reason.TheVariants.{TableLength, BadRequest}
use Rattle.kinds.specs.declared.outcome.Check.{Check}
use Rattle.kinds.specs.declared.outcome.Check.TheVariants.{Kept}
use Rattle.kinds.specs.declared.request.Request.{Request}
use Rattle.profile.specs.Fence.{fence_word, fenced}
use Rattle.profile.specs.Owner.{owner_in}
use Rattle.kinds.specs.declared.record.Lengths.{Lengths}
use Rattle.profile.specs.Step.{formed, asked, checked}
use Rattle.profile.specs.Tables.{Tables, Live, sized}
use Rattle.decide.specs.PastFence.{past_fence}

pub some_true : (n p : ℕ) (x : Reason) (b : Bool) → cond b (Ok n) (Err x) ≡ Ok p → b ≡ true
some_true n p x true e = refl
some_true n p x false e = grind arith

pub some_is : (n p : ℕ) (x : Reason) (b : Bool) → cond b (Ok n) (Err x) ≡ Ok p → p ≡ n
some_is n p x true e = grind arith
some_is n p x false e = grind arith

pub err_false : (n : ℕ) (x r : Reason) (b : Bool) → cond b (Ok n) (Err x) ≡ Err r → (b ≡ false) × (r ≡ x)
err_false n x r true e = grind arith
err_false n x r false e = (refl, grind arith)

-- N by the lengths l, and what the checks come to
module _ (f : Tables) (l : Lengths) (s : Live) (y : Request) {r : Result ℕ Reason} (found : r ≡ cond (sized f.sizes l) (Ok f.sizes.pes) (Err TableLength)) where
  abbrev checks : Check
  checks = checked f.sizes f.installed f.requesters f.entries f.windows f.segments s (sized f.sizes l) y

  pub not_sized : {x : Reason} → r ≡ Err x → Kept (refuse x) ≡ checks
  unfolding checked
  not_sized {x} e =
      let u = err_false f.sizes.pes TableLength x (sized f.sizes l) (sym found ∙ e) in rw (u.0, u.1)

  -- what `?` hands on of it
  pub not_settled : {x : Reason} (z : Result Check Reason) → r ≡ Err x → IsErrAnd z (λ v. v ≡ x) → settled z ≡ checks
  not_settled (Ok a) e h = absurd h
  not_settled (Err v) e h = rw h (not_sized e)

  module _ {p : ℕ} (e : r ≡ Ok p) where
    good : sized f.sizes l ≡ true
    good = some_true f.sizes.pes p TableLength (sized f.sizes l) (sym found ∙ e)

    pub pes_is : p ≡ f.sizes.pes
    pes_is = some_is f.sizes.pes p TableLength (sized f.sizes l) (sym found ∙ e)

    pub unformed : {b : Bool} → b ≡ formed y → b ≡ false → Kept (refuse BadRequest) ≡ checks
    unfolding checked
    unformed h o = rw (good, ← h, o)

    pub asked_on : {b d : Bool} {x : Check} → b ≡ formed y → b ≡ true → d ≡ fenced (at s.state (fence_word f.sizes.pes))
        → x ≡ past_fence d y (asked f.sizes f.installed f.requesters f.entries f.windows f.segments s y (owner_in f.sizes f.requesters f.windows f.segments s.interrupts y))
        → x ≡ checks
    unfolding checked
    asked_on h o fence x = x ∙ rw (good, ← h, o, ← fence)
