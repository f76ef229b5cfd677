-- 01, 'DMA': the class of an address, the translation entry that it picks, and what the entry says before memory is read.
--     class_of a           what address bits 63 to 60 ask for; within class 0, 0xFFFF0000..0xFFFFFFFF is the 32-bit MSI window
--     entry_in l p h      the first (h = 0) or second (h = 1) record of PE p in the table l of translation entries; entry f p h: in the tables f
--     most_table_code ..  the largest table code; the bits of an index beyond it; the most levels
--     offset_bits         59, the bits of an offset; half a, offset a: the bit of the address above them, and its low 59 bits
--     page_size e         the page size of page code 1, 5, 13 or 17: 2 ^ (code + 11) bytes
--     page_of e o          the page of offset o, by that size
--     index_bits e        a table has 2 ^ (code + 8) words
--     span e              page bits plus levels times index bits
--     aligned n b         base b is a multiple of the bytes of a table of 2 ^ n words
--     table_good e        table code 1 to 31
--     bypass e            page code 0; bypass_good e: start below end, end at most 2 ^ 35, in units of 16 MiB; in_bypass e o: offset o is inside
--     pages_good e        a known page code, 1 to 5 levels, an aligned base, a span of at most 59; page_tests e: these tests
--     paged e             the entry is good and has pages
--     walks e o           and offset o is inside them: the page table is walked
--     walkable e          a table that can be walked at all: table code at most 31, at most 5 levels, at most 59 bits of all indexes, an aligned
--                         base. Every entry that walks is so; walkable_tests e: these tests
--     unwalked e o        else: bypass, 6 or 7, with no word of memory asked for, so none that failed
-- Assumes nothing.
use Rattle.kinds.specs.Lookup.{Translated, fault}
use Rattle.std.specs.Prelude.{Bool, cond, not, ◌&&◌, ◌||◌, List, [], ◌∷◌, ℕ, ◌+◌, ◌*◌, ◌/◌, ◌%◌, ◌^◌, leb, ltb, eqb, Ok}
use Rattle.kinds.specs.Number.{page_bits, page_number, no_word}
use Rattle.kinds.specs.Tests.{all}
use Rattle.kinds.specs.Words.{at}
use Rattle.kinds.specs.declared.answer.Reason.TheVariants.{BadEntry, OutsideWindow}
use Rattle.kinds.specs.declared.number.ByteAddress.{ByteAddress}
use Rattle.kinds.specs.declared.number.PageNumber.{PageNumber}
use Rattle.kinds.specs.declared.number.PageSize.{PageSize}
use Rattle.kinds.specs.declared.number.PageSize.TheVariants.{K4, K64, M16, M256}
use Rattle.kinds.specs.declared.number.PeNumber.{PeNumber}
use Rattle.kinds.specs.declared.record.TranslationEntry.{TranslationEntry}
use Rattle.kinds.specs.declared.request.AddressClass.{AddressClass}
use Rattle.kinds.specs.declared.request.AddressClass.TheVariants.{Dma, Msi32, Msi64, Unserved}
use Rattle.profile.specs.Tables.{Tables, entry_words, record_words}

unfoldable pub class_of : ByteAddress → AddressClass
class_of a =
    cond (eqb (a.0 / 2 ^ 60) 0) (cond (leb 0xFFFF0000 a.0 && leb a.0 0xFFFFFFFF) Msi32 Dma)
    (cond (eqb (a.0 / 2 ^ 60) 1) Msi64 Unserved)

abbrev pub offset_bits : ℕ
offset_bits = 59

abbrev pub most_table_code : ℕ
most_table_code = 31

abbrev pub code_bits : ℕ
code_bits = 8

abbrev pub most_levels : ℕ
most_levels = 5

abbrev pub half : ByteAddress → ℕ
half a = a.0 / 2 ^ offset_bits % 2

abbrev pub offset : ByteAddress → ByteAddress
offset a = record { 0 = a.0 % 2 ^ offset_bits }

abbrev pub entry_in : List ℕ → PeNumber → (half : ℕ) → TranslationEntry
entry_in l p h = record {
  base = at l (p.0 * entry_words + h * record_words);
  levels = at l (p.0 * entry_words + (h * record_words + 1));
  table = at l (p.0 * entry_words + (h * record_words + 2));
  page = at l (p.0 * entry_words + (h * record_words + 3));
}

abbrev pub entry : Tables → PeNumber → (half : ℕ) → TranslationEntry
entry f p h = entry_in f.entries p h

unfoldable pub page_size : TranslationEntry → PageSize
page_size e = cond (eqb e.page 1) K4 (cond (eqb e.page 5) K64 (cond (eqb e.page 13) M16 M256))

abbrev pub page_of : TranslationEntry → (offset : ByteAddress) → PageNumber
page_of e o = page_number (page_size e) o

abbrev pub index_bits : TranslationEntry → ℕ
index_bits e = e.table + code_bits

unfoldable pub span : TranslationEntry → ℕ
span e = page_bits (page_size e) + e.levels * index_bits e

-- a multiple of the bytes of a table of 2 ^ bits words
unfoldable pub aligned : (bits : ℕ) → ByteAddress → Bool
aligned bits b = eqb (b.0 % 2 ^ (3 + bits)) 0

unfoldable pub table_good : TranslationEntry → Bool
table_good e = leb 1 e.table && leb e.table most_table_code

abbrev pub bypass : TranslationEntry → Bool
bypass e = eqb e.page 0

unfoldable pub bypass_good : TranslationEntry → Bool
bypass_good e = ltb e.base e.levels && leb e.levels (2 ^ 35)

abbrev pub page_tests : TranslationEntry → List Bool
page_tests e =
    (eqb e.page 1 || eqb e.page 5 || eqb e.page 13 || eqb e.page 17)
    ∷ leb 1 e.levels ∷ leb e.levels most_levels ∷ aligned (index_bits e) (record { 0 = e.base }) ∷ leb (span e) offset_bits ∷ []

unfoldable pub pages_good : TranslationEntry → Bool
pages_good e = all (page_tests e)

unfoldable pub paged : TranslationEntry → Bool
paged e = table_good e && not (bypass e) && pages_good e

unfoldable pub walks : TranslationEntry → (offset : ByteAddress) → Bool
walks e o = paged e && ltb o.0 (2 ^ span e)

abbrev pub walkable_tests : TranslationEntry → List Bool
walkable_tests e =
    leb e.table most_table_code ∷ leb e.levels most_levels ∷ leb (index_bits e * e.levels) offset_bits ∷ aligned (index_bits e) (record { 0 = e.base }) ∷ []

unfoldable pub walkable : TranslationEntry → Bool
walkable e = all (walkable_tests e)

-- inside the bypass range, its end not included
unfoldable pub in_bypass : TranslationEntry → (offset : ByteAddress) → Bool
in_bypass e o = leb (e.base * 2 ^ 24) o.0 && ltb o.0 (e.levels * 2 ^ 24)

unfoldable pub unwalked : TranslationEntry → (offset : ByteAddress) → Translated
unwalked e o =
    cond (table_good e)
    (cond (bypass e)
    (cond (bypass_good e) (cond (in_bypass e o) (Ok o) (fault OutsideWindow no_word)) (fault BadEntry no_word))
    (cond (pages_good e) (fault OutsideWindow no_word) (fault BadEntry no_word)))
    (fault BadEntry no_word)
