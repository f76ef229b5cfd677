-- The width of a load or store that is not badly formed.
--     width_most          it is at most 8 bytes
--     ones-formed         so its all ones are those that `ones` gives
-- Assumes nothing.
use Rattle.std.specs.Prelude.{◌≡◌, true, ◌||◌, ℕ, ◌%◌, ◌≤◌, min, eqb}
use Rattle.std.proofs.Common.{ap, arith, eqb-true}
use Rattle.std.proofs.Math.Nat.{min-eq_left}
use Rattle.kinds.proofs.Tests.{and_left, or_cases}
use Rattle.kinds.specs.declared.number.ByteAddress.{ByteAddress}
use Rattle.profile.specs.Step.{access_formed}
use Rattle.profile.specs.Windows.{ones_of}

pub width_most : (a : ByteAddress) (w : ℕ) → access_formed a w ≡ true → w ≤ 8
unfolding access_formed
width_most a w h =
    or_cases (eqb w 1 || eqb w 2 || eqb w 4) (eqb w 8) (and_left (eqb w 1 || eqb w 2 || eqb w 4 || eqb w 8) (eqb (a.0 % w) 0) h)
    (λ p. or_cases (eqb w 1 || eqb w 2) (eqb w 4) p
    (λ q. or_cases (eqb w 1) (eqb w 2) q (λ o. omega (arith, eqb-true w 1 o)) (λ o. omega (arith, eqb-true w 2 o)))
    (λ o. omega (arith, eqb-true w 4 o)))
    (λ o. omega (arith, eqb-true w 8 o))

pub ones-formed : (a : ByteAddress) (w : ℕ) → access_formed a w ≡ true → ones_of (min w 8) ≡ ones_of w
ones-formed a w h = ap ones_of (min-eq_left (width_most a w h))
