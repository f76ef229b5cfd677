-- What a test over the numbers below a bound says, and how a loop makes it.
--     any_none            where no number is found, P holds of none; none_any is the way back
--     any_found, any_next, any-done   what the loop's turn finds and leaves, and its end; `left` numbers are left, and b is what P says of the last
-- Assumes nothing.
use Rattle.std.specs.Prelude.{◌≡◌, refl, Bool, true, false, cond, eqb}
use Rattle.std.proofs.Common.{◌∙◌, sub-one, eqb-true}
use Prim.Native.Nat.{ℕ, zero, suc, ◌-◌, ◌<◌, ◌≤◌}
use native.Mathlib.Omega.{arith}
use Rattle.std.proofs.lemmas.Bool.{eqb-false}
use Rattle.kinds.proofs.Tests.{by_cases, clash}
use Rattle.isolation_groups.specs.Any.{any}

pub any_none : (n : ℕ) (P : ℕ → Bool) → any n P ≡ false → (i : ℕ) → i < n → P i ≡ false
unfolding any
any_none zero P e i h = absurd (omega arith)
any_none (suc k) P e i h =
    by_cases (P k) (λ o. clash refl (rw o at e))
    (λ o. by_cases (eqb i k) (λ s. rw (eqb-true i k s) o) (λ s. let z = eqb-false i k s in any_none k P (rw o at e) i (omega arith)))

pub none_any : (n : ℕ) (P : ℕ → Bool) → ((i : ℕ) → i < n → P i ≡ false) → any n P ≡ false
unfolding any
none_any zero P h = refl
none_any (suc k) P h = rw (h k (omega arith)) (none_any k P (λ i l. h i (omega arith)))

module _ (n : ℕ) (P : ℕ → Bool) where
  any_last : (left : ℕ) → 0 < left → any left P ≡ cond (P (left - 1)) true (any (left - 1) P)
  unfolding any
  any_last zero h = absurd (omega arith)
  any_last (suc k) h = rw (sub-one (suc k))

  module _ (left : ℕ) {b : Bool} (same : any n P ≡ any left P) (more : 0 < left) (told : b ≡ P (left - 1)) where
    pub any_found : b ≡ true → true ≡ any n P
    any_found o = rw (same, any_last left more, ← told, o)

    pub any_next : b ≡ false → any n P ≡ any (left - 1) P
    any_next o = same ∙ rw (any_last left more, ← told, o)

  pub any-done : (left : ℕ) → any n P ≡ any left P → left ≤ 0 → false ≡ any n P
  unfolding any
  any-done left same h = let z : left ≡ 0 = omega arith in rw (same, z)
