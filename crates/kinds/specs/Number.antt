-- Pages, words of memory and bytes: the ways from one kind of number to another.
--     page_bits s         the address bits inside a page of size s
--     page_number s a     the page that byte address a lies in
--     byte_address s p a  the byte address in page p at the offset that a has in its own page
--     word_bytes           the bytes of a word of memory
--     word_address k      the byte address of word k of memory
--     no_word              the address that stands where no word of memory is named
--     last_byte a n       the address of the last of n bytes from a
-- Assumes nothing.
use Rattle.std.specs.Prelude.{ℕ, ◌+◌, ◌-◌, ◌*◌, ◌/◌, ◌%◌, ◌^◌}
use Rattle.kinds.specs.declared.number.ByteAddress.{ByteAddress}
use Rattle.kinds.specs.declared.number.PageNumber.{PageNumber}
use Rattle.kinds.specs.declared.number.PageSize.{PageSize}
use Rattle.kinds.specs.declared.number.PageSize.TheVariants.{K4, K64, M16, M256}

abbrev pub page_bits : PageSize → ℕ
page_bits K4 = 12
page_bits K64 = 16
page_bits M16 = 24
page_bits M256 = 28

abbrev pub page_number : PageSize → ByteAddress → PageNumber
page_number s a = record { 0 = a.0 / 2 ^ page_bits s }

abbrev pub byte_address : PageSize → PageNumber → ByteAddress → ByteAddress
byte_address s p a = record { 0 = p.0 * 2 ^ page_bits s + a.0 % 2 ^ page_bits s }

abbrev pub word_bytes : ℕ
word_bytes = 8

abbrev pub word_address : ℕ → ByteAddress
word_address k = record { 0 = k * word_bytes }

abbrev pub no_word : ByteAddress
no_word = record { 0 = 0 }

abbrev pub last_byte : ByteAddress → (length : ℕ) → ByteAddress
last_byte a n = record { 0 = a.0 + (n - 1) }
