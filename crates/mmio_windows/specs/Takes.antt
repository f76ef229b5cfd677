-- Which window takes an address.
--     placed l m b n a    n is a power of two from 2 ^ l to 2 ^ m, b is a multiple of it, and a is one of the n bytes from b
--     m32_takes ..        M32 is open and covers the address; m64_takes w a: so is and does M64 window w
-- Assumes nothing.
use Rattle.std.specs.Prelude.{ℕ, ◌-◌, ◌%◌, Bool, ◌&&◌, ◌==◌}
use Rattle.kinds.specs.declared.number.ByteAddress.{ByteAddress}
use Rattle.kinds.specs.declared.record.Window.{Window}
use Rattle.profile.specs.Windows.{is_power, covers, m32_open, m64_open}

unfoldable pub placed : (least most base size : ℕ) → ByteAddress → Bool
placed l m b n a = is_power l (m - l) n && b % n == 0 && covers b n a

unfoldable pub m32_takes : (base size pci : ℕ) → ByteAddress → Bool
m32_takes b n c a = m32_open b n c && covers b n a

unfoldable pub m64_takes : Window → ByteAddress → Bool
m64_takes w a = m64_open w && covers w.base w.size a
