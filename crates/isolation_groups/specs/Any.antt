-- A test over the numbers below a bound, as a loop that counts down makes it.
--     any n P             P holds of some number below n
-- Assumes nothing.
use Rattle.std.specs.Prelude.{Bool, true, false, cond, ℕ, zero, suc}

unfoldable pub any : ℕ → (ℕ → Bool) → Bool
any zero P = false
any (suc k) P = cond (P k) true (any k P)
