-- One fact for all page sizes, and what it gives.
--     bits_most           a page has at most 28 address bits; bits_below: so a shift by them is defined
--     byte_split          an address is its page with its offset
--     byte_fits           a page number that a 64-bit word holds gives a 64-bit address
-- Assumes nothing.
use Rattle.std.specs.Prelude.{◌≡◌, ℕ, ◌/◌, ◌^◌, ◌≤◌, ◌<◌}
use Rattle.std.proofs.Common.{arith}
use Rattle.std.proofs.Math.Pow.{split}
use Rattle.kinds.specs.Number.{page_bits, page_number, byte_address}
use Rattle.kinds.proofs.Powers.{joined-fits}
use Rattle.kinds.specs.declared.number.ByteAddress.{ByteAddress}
use Rattle.kinds.specs.declared.number.PageSize.{PageSize}
use Rattle.kinds.specs.declared.number.PageSize.TheVariants.{K4, K64, M16, M256}

pub bits_most : (s : PageSize) → page_bits s ≤ 28
bits_most K4 = omega arith
bits_most K64 = omega arith
bits_most M16 = omega arith
bits_most M256 = omega arith

pub bits_below : (s : PageSize) → page_bits s < 64
bits_below s = omega (arith, bits_most s)

pub byte_split : (s : PageSize) (a : ByteAddress) → byte_address s (page_number s a) a ≡ a
byte_split s a = rw (split a.0 (page_bits s))

-- w is a table word: its page number is in 64 bits with any offset
pub byte_fits : (s : PageSize) (w : ℕ) (a : ByteAddress) → w < 2 ^ 64 → (byte_address s (record { 0 = w / 2 ^ page_bits s }) a).0 < 2 ^ 64
byte_fits s w a h = joined-fits w a.0 (page_bits s) (bits_below s) h
