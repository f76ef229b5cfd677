-- What the functions over pages are proved from. Assumes nothing.
use mathlib.Core.Path.{◌≡◌}
use Prim.Native.Nat.{ℕ, ◌+◌, ◌-◌, ◌*◌, ◌/◌, ◌%◌, ◌^◌, ◌≤◌, ◌<◌}
use lib.Bits.{bit_and, bit_or}
use Rattle.kinds.specs.Number.{page_bits, page_number}
use Rattle.kinds.proofs.NumberLaws.{bits_below}
use Rattle.kinds.proofs.Powers.{one_shl_pos, joined}
use Rattle.kinds.specs.declared.number.ByteAddress.{ByteAddress}
use Rattle.kinds.specs.declared.number.PageNumber.{PageNumber}
use Rattle.kinds.specs.declared.number.PageSize.{PageSize}

module _ (size : PageSize) {k : ℕ} (e : k ≡ page_bits size) where
  pub shift_fits : k < 64
  shift_fits = rw e (bits_below size)

  pub mask_fits : 1 ≤ (1 * 2 ^ k) % 2 ^ 64
  mask_fits = one_shl_pos k shift_fits

  pub paged : (a : ByteAddress) → ◌≡◌ {A = PageNumber} (record { 0 = a.0 / 2 ^ k }) (page_number size a)
  paged a = rw e

  pub joined_at : (p x : ℕ) → bit_or (p * 2 ^ k % 2 ^ 64) (bit_and x (1 * 2 ^ k % 2 ^ 64 - 1)) ≡ (p * 2 ^ page_bits size + x % 2 ^ page_bits size) % 2 ^ 64
  joined_at p x = rw (← e) (joined p x k shift_fits)
