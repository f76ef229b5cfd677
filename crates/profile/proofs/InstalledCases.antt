-- 02, [7]: the installed size, the last test of a DMA.
--     above i f m q n a   under size i, request q of PE 2 is 17 after n words: PE 2 alone is frozen, its record has the request's address a
--     inside i f m q b n  under size i, it passes to b after n words
--     edges               the last byte just below the size and just at it: in pages of each size, over one level and five, and in a bypass
--     extremes            sizes 0, 1 and 2 ^ 64 - 1; a range that ends at 2 ^ 64 - 1
--     order               every other check comes first, where both conditions hold
--     untested            what the size does not touch: the table words that a walk reads, MSI, loads and stores, messages and firmware
--     leaves              17 on a record that is not empty, on one with words left over, on a PE that is MMIO stopped
--     installed_cases     all of them
-- Assumes nothing.
use Rattle.std.specs.Prelude.{List, [], ◌∷◌, ◌++◌, ℕ, ◌+◌, ◌-◌, ◌^◌}
use Rattle.kinds.specs.declared.answer.Answer.TheVariants.{Msi, Done}
use Rattle.kinds.specs.declared.answer.Reason.TheVariants.{TableLength, BadRequest, UnknownRequester, DmaStopped, AddressClass, BadEntry, OutsideWindow, TableWord, MsiRefused, OutsideMemory, AboveInstalled}
use Rattle.kinds.specs.declared.request.Part.TheVariants.{Record}
use Rattle.kinds.specs.declared.request.Request.{Request}
use Rattle.kinds.specs.declared.request.Request.TheVariants.{Error, Clear}
use Rattle.profile.specs.Tables.{Tables, Live}
use Rattle.profile.proofs.Case.{Case, gib4, largest, installing, plain, short, idle, endpoint, endpoint_at, stopped, empty, words, read, write, load, store, pass, row, keeps, refuses, refuse_at, freezes_at, freezes}
use Rattle.profile.proofs.Cases.{memory_a, memory_b, bypass_g, presented, window_i}
use Rattle.profile.proofs.DmaCases.{first, second}
use Rattle.profile.proofs.WalkCases.{third, chain, through}

abbrev pub above : (installed : ℕ) → Tables → List ℕ → Request → (words address : ℕ) → Case
above i f m q n a = freezes_at (installing i f) m q AboveInstalled n 17 a 0

abbrev pub inside : (installed : ℕ) → Tables → List ℕ → Request → (to words : ℕ) → Case
inside i f m q b n = keeps (installing i f) m idle q (pass b 2 n)

-- a read of n bytes at address a that ends at the last byte below i, and at size i - 1
abbrev pub edge : (installed : ℕ) → Tables → List ℕ → (address length to words : ℕ) → List Case
edge i f m a l b n = inside i f m (read 5 a l) b n ∷ above (i - 1) f m (read 5 a l) n a ∷ []

-- a byte in the last page below 4 GiB, and the one after it, by a page code
abbrev pub top_page : (code inside outside to : ℕ) → List Case
top_page c a o b =
    inside gib4 (first 0x2000 1 1 c) (words 0x2008 (gib4 + 3) (words 0x2000 0xFFFFFFFF empty)) (read 5 a 1) b 1
    ∷ above gib4 (first 0x2000 1 1 c) (words 0x2008 (gib4 + 3) (words 0x2000 0xFFFFFFFF empty)) (read 5 o 1) 1 o
    ∷ []

unfoldable pub edges : List Case
unfolding memory_a bypass_g
edges =
    -- four bytes, one, and a whole block, in case A's page
    edge 0x12345AC0 plain memory_a 0x3ABC 4 0x12345ABC 1
    ++ edge 0x12345ABD plain memory_a 0x3ABC 1 0x12345ABC 1
    ++ edge 0x12346000 plain memory_a 0x3000 4096 0x12345000 1
    -- a write; the size at the first byte, and between the first and the last
    ++ (inside 0x12345AC0 plain memory_a (write 5 0x3ABC 4 7) 0x12345ABC 1
    ∷ above 0x12345ABF plain memory_a (write 5 0x3ABC 4 7) 1 0x3ABC
    ∷ above 0x12345ABC plain memory_a (read 5 0x3ABC 4) 1 0x3ABC
    ∷ above 0x12345ABD plain memory_a (read 5 0x3ABC 4) 1 0x3ABC
    -- the size is no multiple of a page: it cuts one
    ∷ inside 0x12345800 plain memory_a (read 5 0x3000 0x800) 0x12345000 1
    ∷ above 0x12345800 plain memory_a (read 5 0x3000 0x801) 1 0x3000 ∷ [])
    -- pages of 4 KiB, 64 KiB, 16 MiB and 256 MiB, at 4 GiB
    ++ top_page 1 0xFFF 0x1000 0xFFFFFFFF
    ++ top_page 5 0xFFFF 0x10000 0xFFFFFFFF
    ++ top_page 13 0xFFFFFF 0x1000000 0xFFFFFFFF
    ++ top_page 17 0xFFFFFFF 0x10000000 0xFFFFFFFF
    -- two levels and five: the count is that of the walk
    ++ edge 0x9014 (first 0x2000 2 1 1) (through 0x5001) 0x403010 4 0x9010 2
    ++ edge 0x12345ABD (first 0x1000 5 1 1) chain 0x10100C0805ABC 1 0x12345ABC 5
    -- a bypass, by the first record and by the second, and at 4 GiB
    ++ edge 0x1000004 (first 1 2 1 0) empty 0x1000000 4 0x1000000 0
    ++ edge 0x1000004 bypass_g empty 0x0800000001000000 4 0x1000000 0
    ++ edge gib4 (second 0 (2 ^ 35) 1 0) empty 0x08000000FFFFF000 4096 0xFFFFF000 0
    ++ (above gib4 (second 0 (2 ^ 35) 1 0) empty (write 5 0x0800000100000000 1 0) 0 0x0800000100000000 ∷ [])

-- the last page of all: 0xFFFFFFFFFFFFF000
abbrev pub top_memory : List ℕ
top_memory = words 0x2FF8 0xFFFFFFFFFFFFF003 empty

unfoldable pub extremes : List Case
unfolding memory_a bypass_g
extremes =
    -- 0 refuses every DMA that would pass; under 1, byte 0 is there
    above 0 plain memory_a (read 5 0x3ABC 4) 1 0x3ABC
    ∷ above 0 bypass_g empty (read 5 0x0800000001000000 4) 0 0x0800000001000000
    ∷ above 0 (first 0 1 1 0) empty (read 5 0 1) 0 0
    ∷ inside 1 (first 0 1 1 0) empty (read 5 0 1) 0 0
    ∷ above 1 (first 0 1 1 0) empty (read 5 0 2) 0 0
    -- 2 ^ 64 - 1: byte 2 ^ 64 - 2 is there, byte 2 ^ 64 - 1 is not, and nothing wraps
    ∷ inside largest plain top_memory (read 5 0x1FFFF8 7) 0xFFFFFFFFFFFFFFF8 1
    ∷ above largest plain top_memory (read 5 0x1FFFF8 8) 1 0x1FFFF8
    ∷ above largest plain top_memory (read 5 0x1FFFFF 1) 1 0x1FFFFF
    ∷ above largest plain top_memory (write 5 0x1FF000 4096 0) 1 0x1FF000
    ∷ above gib4 plain top_memory (read 5 0x1FFFFF 1) 1 0x1FFFFF
    ∷ above 0 plain top_memory (read 5 0x1FF000 4096) 1 0x1FF000
    ∷ []

unfoldable pub order : List Case
unfolding memory_a memory_b bypass_g
order =
    -- 1, 2, 3 and 4
    refuses (installing 0 short) idle (read 5 0x3ABC 4) TableLength
    ∷ refuses (installing 0 plain) idle (read 5 0x3ABC 0) BadRequest
    ∷ refuses (installing 0 plain) idle (read 8 0x3ABC 4) UnknownRequester
    ∷ refuses (installing 0 plain) stopped (read 5 0x3ABC 4) DmaStopped
    -- 5, 6, 7 of pages and of a bypass, 9
    ∷ freezes (installing 0 plain) memory_a (read 5 0x2000000000000000 4) AddressClass 5 0x2000000000000000
    ∷ freezes (installing 0 plain) memory_a (read 5 0x0800000000003ABC 4) BadEntry 6 0x0800000000003ABC
    ∷ freezes (installing 0 plain) memory_a (read 5 0x200000 4) OutsideWindow 7 0x200000
    ∷ freezes (installing 0 bypass_g) empty (read 5 0x0800000002000000 4) OutsideWindow 7 0x0800000002000000
    ∷ freezes (installing 0 plain) memory_a (read 5 0xFFFF0070 4) MsiRefused 9 0xFFFF0070
    -- 15
    ∷ freezes_at (installing 0 plain) [] (read 5 0x3ABC 4) OutsideMemory 0 15 0x3ABC 0x2018
    -- 8: the direction, of a read and of a write, an upper word, and a lower table misaligned
    ∷ freezes_at (installing 0 plain) memory_b (read 5 0x1FFFFF 1) TableWord 1 8 0x1FFFFF 0x2FF8
    ∷ freezes_at (installing 0 plain) (third 0x12345001) (write 5 0x3ABC 4 0) TableWord 1 8 0x3ABC 0x2018
    ∷ freezes_at plain (third (gib4 + 1)) (write 5 0x3ABC 4 0) TableWord 1 8 0x3ABC 0x2018
    ∷ freezes_at (installing 0 (first 0x2000 2 1 1)) (through 0x5000) (read 5 0x403010 1) TableWord 1 8 0x403010 0x2010
    ∷ freezes_at (installing 0 (first 0x2000 2 2 1)) (words 0x2008 0x5003 empty) (read 5 0x403010 1) TableWord 1 8 0x403010 0x2008
    ∷ []

unfoldable pub untested : List Case
unfolding memory_a presented window_i
untested =
    -- tables at and above the size, of one level and of two, whose last word leads below it
    inside 0x1000 plain (third 3) (read 5 0x3ABC 4) 0xABC 1
    ∷ inside 0x2000 (first 0x2000 2 1 1) (words 0x5018 0x1003 (through 0x5001)) (write 5 0x403010 4 0) 0x1010 2
    -- MSI by both windows, a load and a store
    ∷ row (installing 0 plain) memory_a idle (write 5 0x1000000000000070 4 3) (Msi 7 5 6) presented
    ∷ row (installing 0 plain) memory_a idle (write 5 0xFFFF0070 4 0) (Msi 7 5 6) presented
    ∷ keeps (installing 0 window_i) empty idle (load 0x100300010 4) (pass 0x80300010 1 0)
    ∷ keeps (installing 0 window_i) empty idle (store 0x100300010 4) (pass 0x80300010 1 0)
    -- an error message, and a clear
    ∷ row (installing 0 plain) memory_a idle (Error 5) Done (endpoint 3 12 5)
    ∷ row (installing 0 plain) memory_a (endpoint 3 17 0x3ABC) (Clear 2 Record) Done (endpoint 3 0 0)
    ∷ []

-- PE 2's state met, and left
abbrev pub leaving : (met left : Live) → Case
leaving s t = row (installing 0x12345000 plain) (words 0x2018 0x12345003 empty) s (read 5 0x3ABC 4) (refuse_at AboveInstalled 1 0) t

unfoldable pub leaves : List Case
leaves =
    leaving (endpoint_at 0 7 7 9) (endpoint_at 3 7 7 9)
    ∷ leaving (endpoint_at 0 0 7 9) (endpoint 3 17 0x3ABC)
    ∷ leaving (endpoint 1 0 0) (endpoint 3 17 0x3ABC)
    ∷ leaving (endpoint 0xFC 0 0) (endpoint 0xFF 17 0x3ABC)
    ∷ []

unfoldable pub installed_cases : List Case
unfolding edges extremes order untested leaves
installed_cases = edges ++ extremes ++ order ++ untested ++ leaves
