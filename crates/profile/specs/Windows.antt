-- 01, 'Loads and stores': the windows.
--     is_power k n x      x is a power of two from 2 ^ k to 2 ^ (k + n)
--     covers b n a        a is one of the n bytes from b
--     segment_of b n a    the number of the segment of a, of 256 equal ones of the n bytes from b
--     m32_open b n c      M32 of base b, size n and PCI base c is open: 1 MiB to 4 GiB, both bases multiples of the size, the PCI side ending at or
--                         below 2 ^ 32
--     m64_open w          an M64 window is open: 256 MiB to 2 ^ 50, its base a multiple of the size, mode 1 or 2
--     m32_words ..        the words of M32, which come first, of an M64 window, and the number of M64 windows
--     window ws k         M64 window k of the table
--     m64_pe w a          the number that window w gives as the PE of a: its PE word in mode 1, else the segment
--     m64 w a h           what window w gives where it takes a, else h; m64_from ws n k a: the first of n windows from window k that takes a
--     route ws ss a       the first open window that covers a: its PE's number, below N or not, and the PCI address. M32 first, then M64 0 to 15.
--                         A word of a PE that a table does not have is no PE's number
--     ones_of w           all ones of w bytes
-- Assumes nothing.
use Rattle.kinds.specs.Lookup.{Route, hit}
use Rattle.std.specs.Prelude.{Bool, cond, ◌&&◌, ◌||◌, List, ℕ, zero, suc, ◌+◌, ◌-◌, ◌*◌, ◌/◌, ◌%◌, ◌^◌, leb, ltb, eqb, None}
use Rattle.kinds.specs.Words.{at, pe_at}
use Rattle.kinds.specs.declared.number.ByteAddress.{ByteAddress}
use Rattle.kinds.specs.declared.record.Window.{Window}
use Rattle.profile.specs.Tables.{segment_count}

unfoldable pub is_power : (k n x : ℕ) → Bool
is_power k zero x = eqb x (2 ^ k)
is_power k (suc n) x = eqb x (2 ^ (k + suc n)) || is_power k n x

unfoldable pub covers : (base size : ℕ) → ByteAddress → Bool
covers b n a = leb b a.0 && ltb (a.0 - b) n

unfoldable pub segment_of : (base size : ℕ) → ByteAddress → ℕ
segment_of b n a = (a.0 - b) / (n / segment_count)

unfoldable pub m32_open : (base size pci : ℕ) → Bool
m32_open b n c = is_power 20 12 n && eqb (b % n) 0 && eqb (c % n) 0 && leb (c + n) (2 ^ 32)

unfoldable pub m64_open : Window → Bool
m64_open w = is_power 28 22 w.size && eqb (w.base % w.size) 0 && (eqb w.mode 1 || eqb w.mode 2)

-- mode 1: the whole window is its PE's; mode 2: the number of the segment is the PE
unfoldable pub m64_pe : Window → ByteAddress → ℕ
m64_pe w a = cond (eqb w.mode 1) w.pe (segment_of w.base w.size a)

abbrev pub m32_words : ℕ
m32_words = 3

abbrev pub m64_words : ℕ
m64_words = 4

abbrev pub m64_count : ℕ
m64_count = 16

abbrev pub window : List ℕ → ℕ → Window
window ws k = record {
  base = at ws (m32_words + k * m64_words);
  size = at ws (m32_words + (k * m64_words + 1));
  mode = at ws (m32_words + (k * m64_words + 2));
  pe = pe_at ws (m32_words + (k * m64_words + 3));
}

unfoldable pub m64 : Window → ByteAddress → Route → Route
m64 w a rest = cond (m64_open w && covers w.base w.size a) (hit (m64_pe w a) a) rest

-- n M64 windows, from number k
unfoldable pub m64_from : List ℕ → (n k : ℕ) → ByteAddress → Route
m64_from ws zero k a = None
m64_from ws (suc n) k a = m64 (window ws k) a (m64_from ws n (k + 1) a)

unfoldable pub route : (windows segments : List ℕ) → ByteAddress → Route
route ws ss a =
    cond (m32_open (at ws 0) (at ws 1) (at ws 2) && covers (at ws 0) (at ws 1) a)
    (hit (pe_at ss (segment_of (at ws 0) (at ws 1) a)) (record { 0 = a.0 - at ws 0 + at ws 2 }))
    (m64_from ws m64_count 0 a)

unfoldable pub ones_of : (width : ℕ) → ℕ
ones_of w = 2 ^ (8 * w) - 1
