-- What the functions of one lent table cite.
--     no_state, fence_in, fence-out   how many words of a state are in use
-- Assumes nothing.
use mathlib.Core.Path.{◌≡◌, sym}
use Prim.Native.Nat.{ℕ, ◌+◌, ◌*◌, ◌<◌, ◌≤◌, min}
use native.Mathlib.Nat.{one-mul, min-eq_left}
use native.Mathlib.Omega.{arith}
use borrow.Author.Tests.{ne_eqb}
use Rattle.profile.specs.Tables.{state_words, fence_words}
use Rattle.replay_tables.specs.Lent.{state_used}

-- the words of a state that are in use: none, all, or those of the PEs and the fence word
pub no_state : (n k : ℕ) → n ≡ 0 → 0 ≡ min (state_used n) k
no_state n k z = rw z (sym (min-eq_left (omega arith)))

module _ (n k : ℕ) (some : n ≡ 0 → ⊥) {end : ℕ} (e : end ≡ min (n * state_words) k) where
  there : state_used n ≡ n * state_words + fence_words
  there = rw (ne_eqb n 0 some, one-mul)

  pub fence_in : end < k → end + fence_words ≡ min (state_used n) k
  fence_in h = rw there (omega (arith, e))

  pub fence-out : k ≤ end → end ≡ min (state_used n) k
  fence-out h = rw there (omega (arith, e))
