-- Numbers of one kind from those of another, in one table with one statement over it.
--     Conversion          what a definition gives, and what it should give
--     conversions         the page of an address and an address in a page, by each page size; addresses of words of memory; the last byte of a
--                         range
--     conversions_hold    THE STATEMENT: each gives the number of its row
-- Assumes nothing.
use Rattle.std.specs.Prelude.{◌≡◌, refl, List, [], ◌∷◌, map, ℕ}
use Rattle.kinds.specs.Number.{page_number, byte_address, word_address, no_word, last_byte}
use Rattle.kinds.specs.declared.number.PageSize.{PageSize}
use Rattle.kinds.specs.declared.number.PageSize.TheVariants.{K4, K64, M16, M256}

pub record Conversion : Type 0 where
  pub gives : ℕ
  pub wanted : ℕ

abbrev pub page : PageSize → (address wanted : ℕ) → Conversion
page s a n = record { gives = (page_number s (record { 0 = a })).0; wanted = n }

abbrev pub byte : PageSize → (page inside wanted : ℕ) → Conversion
byte s p a n = record { gives = (byte_address s (record { 0 = p }) (record { 0 = a })).0; wanted = n }

abbrev pub word : (place wanted : ℕ) → Conversion
word k n = record { gives = (word_address k).0; wanted = n }

abbrev pub last : (address length wanted : ℕ) → Conversion
last a l n = record { gives = (last_byte (record { 0 = a }) l).0; wanted = n }

unfoldable pub conversions : List Conversion
conversions =
    page K4 0x123456789 0x123456
    ∷ page K64 0x123456789 0x12345
    ∷ page M16 0x123456789 0x123
    ∷ page M256 0x123456789 0x12
    ∷ byte K4 0x77 0x123456789 0x77789
    ∷ byte K64 0x77 0x123456789 0x776789
    ∷ byte M16 0x77 0x123456789 0x77456789
    ∷ byte M256 0x77 0x123456789 0x773456789
    -- the first word, the second, case B's, and the last that has an address of 64 bits
    ∷ word 0 0
    ∷ word 1 8
    ∷ word 0x5FF 0x2FF8
    ∷ word 0x1FFFFFFFFFFFFFFF 0xFFFFFFFFFFFFFFF8
    ∷ record { gives = no_word.0; wanted = 0 }
    -- one byte, two, a block, and the last range below 2 ^ 64
    ∷ last 0x5000 1 0x5000
    ∷ last 0x5000 2 0x5001
    ∷ last 0x5000 4096 0x5FFF
    ∷ last 0xFFFFFFFFFFFFFFF8 8 0xFFFFFFFFFFFFFFFF
    ∷ []

pub conversions_hold : map (λ c. c.gives) conversions ≡ map (λ c. c.wanted) conversions
unfolding conversions
conversions_hold = refl
