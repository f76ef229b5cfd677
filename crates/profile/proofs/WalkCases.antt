-- The walk of a page table: page sizes, levels, reasons 8 and 15 with their counts of table words.
--     pages               every page size passes with its page offset; what is ignored in the last word; the direction
--     levels              1 to 5 levels; tables that lead to themselves, to address 0, or on by a word of the other direction
--     forbidden           reason 8: the last word, an upper word, a lower table misaligned; before 15
--     missing             reason 15, at the first word and at later ones, and the last word of memory
--     walk_cases          all of them
--     Translating         a memory, an entry, a direction and an offset, and its translation: the address or the fault with its word, and the words read
--     translations        each way that a translation ends, by the addresses of words; translations_hold: THE STATEMENT over them
-- Assumes nothing.
use Rattle.kinds.specs.Lookup.{Translated, fault}
use Rattle.std.specs.Prelude.{◌≡◌, refl, List, [], ◌∷◌, ◌++◌, map, ℕ, ◌/◌, Ok}
use Rattle.kinds.specs.declared.answer.Reason.{Reason}
use Rattle.kinds.specs.declared.answer.Reason.TheVariants.{BadEntry, OutsideWindow, TableWord, OutsideMemory}
use Rattle.kinds.specs.declared.number.ByteAddress.{ByteAddress}
use Rattle.kinds.specs.declared.record.TranslationEntry.{TranslationEntry}
use Rattle.kinds.specs.declared.request.Direction.{Direction}
use Rattle.kinds.specs.declared.request.Direction.TheVariants.{Read, Write}
use Rattle.profile.proofs.Opened.{opened}
use Rattle.profile.specs.Tables.{Tables}
use Rattle.profile.specs.Walk.{Translation, translated}
use Rattle.profile.proofs.Case.{Case, largest, installing, plain, idle, empty, words, read, write, pass, keeps, freezes_at}
use Rattle.profile.proofs.DmaCases.{first, passes}

-- a write of one byte that passes; a read and a write that freeze PE 2 with reason 8, and a read with reason 15, after n words, by the word at w
abbrev pub writes : Tables → List ℕ → (address to words : ℕ) → Case
writes f m a b n = keeps f m idle (write 5 a 1 0) (pass b 2 n)

abbrev pub read_forbidden : Tables → List ℕ → (address words word : ℕ) → Case
read_forbidden f m a n w = freezes_at f m (read 5 a 1) TableWord n 8 a w

abbrev pub write_forbidden : Tables → List ℕ → (address words word : ℕ) → Case
write_forbidden f m a n w = freezes_at f m (write 5 a 1 0) TableWord n 8 a w

abbrev pub absent : Tables → List ℕ → (address words word : ℕ) → Case
absent f m a n w = freezes_at f m (read 5 a 1) OutsideMemory n 15 a w

-- word 3 of the table at 0x2000
abbrev pub third : (word : ℕ) → List ℕ
third w = words 0x2018 w empty

unfoldable pub pages : List Case
pages =
    -- 4 KiB, 64 KiB, 16 MiB, 256 MiB
    passes (installing largest (first 0x2000 1 1 1)) (third 0xFEDCBA9876543003) 0x3ABC 0xFEDCBA9876543ABC 1
    ∷ passes (installing largest (first 0x2000 1 1 5)) (third 0xFEDCBA9876543003) 0x3ABCD 0xFEDCBA987654ABCD 1
    ∷ passes (installing largest (first 0x2000 1 1 13)) (third 0xFEDCBA9876543003) 0x3ABCDEF 0xFEDCBA9876ABCDEF 1
    ∷ passes (installing largest (first 0x2000 1 1 17)) (third 0xFEDCBA9876543003) 0x3ABCDEF1 0xFEDCBA987ABCDEF1 1
    -- the last page, and bits 11..2 of the word, which are ignored
    ∷ passes (installing largest plain) (words 0x2FF8 0xFFFFFFFFFFFFFFFF empty) 0x1FFFFE 0xFFFFFFFFFFFFFFFE 1
    ∷ passes plain (third 0x12345FFD) 0x3000 0x12345000 1
    -- read-valid and write-valid
    ∷ passes plain (third 0x12345001) 0x3ABC 0x12345ABC 1
    ∷ writes plain (third 0x12345002) 0x3ABC 0x12345ABC 1
    ∷ []

-- tables at 0x1000, 0x2000, .., 0x5000, of which word k of the k-th leads to the next: five levels from 0x1000, one from 0x5000
abbrev pub chain : List ℕ
chain = words 0x1008 0x2001 (words 0x2010 0x3002 (words 0x3018 0x4003 (words 0x4020 0x5FFD (words 0x5028 0x12345003 empty))))

-- a table at 0x2000 whose word 2 is `upper`, and one at 0x5000 whose word 3 is 0x9003
abbrev pub through : (upper : ℕ) → List ℕ
through u = words 0x2010 u (words 0x5018 0x9003 empty)

unfoldable pub levels : List Case
levels =
    passes (first 0x5000 1 1 1) chain 0x5ABC 0x12345ABC 1
    ∷ passes (first 0x4000 2 1 1) chain 0x805ABC 0x12345ABC 2
    ∷ passes (first 0x3000 3 1 1) chain 0xC0805ABC 0x12345ABC 3
    ∷ passes (first 0x2000 4 1 1) chain 0x100C0805ABC 0x12345ABC 4
    ∷ passes (first 0x1000 5 1 1) chain 0x10100C0805ABC 0x12345ABC 5
    -- an upper word of either direction leads on for both
    ∷ passes (first 0x2000 2 1 1) (through 0x5002) 0x403010 0x9010 2
    ∷ writes (first 0x2000 2 1 1) (through 0x5001) 0x403010 0x9010 2
    -- tables of 1,024 words, and the lower one aligned
    ∷ passes (first 0x2000 2 2 1) (words 0x2008 0x4001 (words 0x4018 0x9003 empty)) 0x403010 0x9010 2
    -- a table that is its own lower table, and one at address 0
    ∷ passes (first 0x2000 2 1 1) (words 0x2000 0x2003 empty) 0xABC 0x2ABC 2
    ∷ passes (first 0x2000 5 1 1) (words 0x2000 0x2003 empty) 0xABC 0x2ABC 5
    ∷ passes (first 0x2000 2 1 1) (words 0x2000 0x1 (words 0x18 0x12345003 empty)) 0x3ABC 0x12345ABC 2
    ∷ []

unfoldable pub forbidden : List Case
forbidden =
    -- the last word
    read_forbidden plain (third 0x12345002) 0x3ABC 1 0x2018
    ∷ write_forbidden plain (third 0x12345001) 0x3ABC 1 0x2018
    ∷ read_forbidden plain (third 0x12345FFC) 0x3ABC 1 0x2018
    ∷ write_forbidden (first 0x2000 2 1 1) (words 0x5018 0x9001 (through 0x5003)) 0x403010 2 0x5018
    ∷ read_forbidden (first 0x1000 5 1 1) (words 0x5028 0x12345002 chain) 0x10100C0805ABC 5 0x5028
    -- an upper word with both bits zero, with a good table behind it or one that is outside memory; the first of five, and the third
    ∷ read_forbidden (first 0x2000 2 1 1) (through 0x5000) 0x403010 1 0x2010
    ∷ write_forbidden (first 0x2000 2 1 1) (through 0x5FFC) 0x403010 1 0x2010
    ∷ read_forbidden (first 0x2000 2 1 1) (through 0x10000000) 0x403010 1 0x2010
    ∷ read_forbidden (first 0x1000 5 1 1) (words 0x1008 0x2000 chain) 0x10100C0805ABC 1 0x1008
    ∷ read_forbidden (first 0x1000 5 1 1) (words 0x3018 0x4000 chain) 0x10100C0805ABC 3 0x3018
    -- a lower table misaligned: the upper word is counted and named, and no further one is read, in memory or not
    ∷ read_forbidden (first 0x2000 2 2 1) (words 0x2008 0x5003 (words 0x5018 0x9003 empty)) 0x403010 1 0x2008
    ∷ read_forbidden (first 0x2000 2 2 1) (words 0x2008 0x10001003 empty) 0x403010 1 0x2008
    -- a table at address 0: its first word, which is named as none is, and another one
    ∷ read_forbidden (first 0 1 1 1) empty 0xABC 1 0
    ∷ read_forbidden (first 0x2000 2 1 1) (words 0x2000 0x1 empty) 0x3ABC 2 0x18
    ∷ []

unfoldable pub missing : List Case
missing =
    -- the first word: it is not counted
    absent (first 0x6000 1 1 1) empty 0x3ABC 0 0x6018
    ∷ absent (first 0xFFFFFFFFFFFFF000 1 1 1) empty 0x3ABC 0 0xFFFFFFFFFFFFF018
    ∷ absent (first 0xFFFFFFFFFFFFF000 1 1 1) empty 0x1FFABC 0 0xFFFFFFFFFFFFFFF8
    ∷ absent plain [] 0x3ABC 0 0x2018
    ∷ absent (first 0 1 1 1) [] 0xABC 0 0
    -- the last word of memory, and the one after it
    ∷ passes (first 0x5000 1 1 1) (words 0x5138 0x12345003 empty) 0x27ABC 0x12345ABC 1
    ∷ absent (first 0x5000 1 1 1) (words 0x5138 0x12345003 empty) 0x28ABC 0 0x5140
    -- a later word
    ∷ absent (first 0x2000 2 1 1) (through 0x10000001) 0x403010 1 0x10000018
    ∷ absent (first 0x2000 2 1 1) (through 0xFFFFFFFFFFFFF003) 0x403010 1 0xFFFFFFFFFFFFF018
    -- of five levels each
    ∷ absent (first 0x100000 5 1 1) chain 0x10100C0805ABC 0 0x100008
    ∷ absent (first 0x1000 5 1 1) (words 0x1008 0x7001 chain) 0x10100C0805ABC 1 0x7010
    ∷ absent (first 0x1000 5 1 1) (words 0x2010 0x7002 chain) 0x10100C0805ABC 2 0x7018
    ∷ absent (first 0x1000 5 1 1) (words 0x3018 0x7003 chain) 0x10100C0805ABC 3 0x7020
    ∷ absent (first 0x1000 5 1 1) (words 0x4020 0x6001 chain) 0x10100C0805ABC 4 0x6028
    ∷ []

unfoldable pub walk_cases : List Case
unfolding pages levels forbidden missing
walk_cases = pages ++ levels ++ forbidden ++ missing

-- ---- the translation alone

pub record Translating : Type 0 where
  pub memory : List ℕ
  pub entry : TranslationEntry
  pub direction : Direction
  pub offset : ByteAddress
  pub translation : Translation

-- by the entry b, l, c, p; a word read is named by its address
abbrev pub translating : List ℕ → (b l c p : ℕ) → Direction → (offset : ℕ) → Translated → (read : List ℕ) → Translating
translating m b l c p d o x r = record {
  memory = m;
  entry = record { base = b; levels = l; table = c; page = p };
  direction = d;
  offset = record { 0 = o };
  translation = record { result = x; reads = map (λ a. a / 8) r };
}

abbrev pub to : ℕ → Translated
to a = Ok (record { 0 = a })

abbrev pub faulted : Reason → (word : ℕ) → Translated
faulted r a = fault r (record { 0 = a })

unfoldable pub translations : List Translating
translations =
    -- to a last word, by one level and by five
    translating chain 0x5000 1 1 1 Read 0x5ABC (to 0x12345ABC) (0x5028 ∷ [])
    ∷ translating chain 0x1000 5 1 1 Write 0x10100C0805ABC (to 0x12345ABC) (0x1008 ∷ 0x2010 ∷ 0x3018 ∷ 0x4020 ∷ 0x5028 ∷ [])
    -- 8: the last word, an upper word, a lower table misaligned
    ∷ translating (words 0x5028 0x12345002 chain) 0x4000 2 1 1 Read 0x805ABC (faulted TableWord 0x5028) (0x4020 ∷ 0x5028 ∷ [])
    ∷ translating (words 0x4020 0x5000 chain) 0x3000 3 1 1 Read 0xC0805ABC (faulted TableWord 0x4020) (0x3018 ∷ 0x4020 ∷ [])
    ∷ translating (words 0x2008 0x5003 empty) 0x2000 2 2 1 Read 0x403010 (faulted TableWord 0x2008) (0x2008 ∷ [])
    -- 15: the first word, and a later one, which is not among those read
    ∷ translating empty 0x6000 1 1 1 Read 0x3ABC (faulted OutsideMemory 0x6018) []
    ∷ translating (words 0x4020 0x6001 chain) 0x4000 2 1 1 Write 0x805ABC (faulted OutsideMemory 0x6028) (0x4020 ∷ [])
    -- bypass, and its 7 and 6
    ∷ translating empty 1 2 1 0 Read 0x1000000 (to 0x1000000) []
    ∷ translating empty 1 2 1 0 Read 0x2000000 (faulted OutsideWindow 0) []
    ∷ translating empty 2 2 1 0 Read 0x2000000 (faulted BadEntry 0) []
    -- 7 and 6 of pages; a bad table code
    ∷ translating empty 0x2000 1 1 1 Read 0x200000 (faulted OutsideWindow 0) []
    ∷ translating empty 0x2000 1 1 2 Read 0x3ABC (faulted BadEntry 0) []
    ∷ translating empty 0x2000 1 0 1 Read 0x3ABC (faulted BadEntry 0) []
    ∷ []

pub translations_hold : map (λ c. translated c.memory c.entry c.direction c.offset) translations ≡ map (λ c. c.translation) translations
unfolding opened translations
translations_hold = refl
