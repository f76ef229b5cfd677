-- What `ones` is proved from: all ones of a width below a word's, and of a word's. Assumes nothing.
use mathlib.Core.Path.{◌≡◌}
use Prim.Native.Nat.{ℕ, ◌-◌, ◌*◌, ◌%◌, ◌^◌, ◌≤◌, ◌<◌, min}
use native.Mathlib.Nat.{min-eq_left, min-eq_right}
use native.Mathlib.Omega.{arith}
use Rattle.kinds.proofs.Powers.{one_shl, one_shl_pos}
use Rattle.profile.specs.Windows.{ones_of}

module _ (w : ℕ) (h : w < 8) where
  bits_fit : 8 * w < 64
  bits_fit = omega arith

  pub ones_fit : 1 ≤ 1 * 2 ^ (8 * w) % 2 ^ 64
  ones_fit = one_shl_pos (8 * w) bits_fit

  pub ones_narrow : 1 * 2 ^ (8 * w) % 2 ^ 64 - 1 ≡ ones_of (min w 8)
  unfolding ones_of
  ones_narrow = let few : w ≤ 8 = omega arith in rw (one_shl (8 * w) bits_fit, min-eq_left few)

pub ones_wide : (w : ℕ) → 8 ≤ w → 2 ^ 64 - 1 ≡ ones_of (min w 8)
unfolding ones_of
ones_wide w h = rw (min-eq_right h)
