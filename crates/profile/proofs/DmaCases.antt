-- The order of the checks of a DMA, the classes of addresses, and what a translation entry says before memory is read.
--     dma_checks          1, 2, 3, 4, then class: each neighbouring pair where both conditions hold and the first decides
--     classes             reason 5 for the top four address bits 2 to 15; the edges of the MSI windows; bit 59
--     bad_entries         reason 6, each breach alone; before 7 and 15
--     outside             reason 7, before 8 and 15
--     good_entries        the entries at the limits that are good, and the edges of a bypass
--     dma_cases           all of them
-- Assumes nothing.
use Rattle.std.specs.Prelude.{List, [], ◌∷◌, ◌++◌, map, ℕ, ◌+◌, ◌-◌, ◌*◌, ◌^◌}
use Rattle.kinds.specs.declared.answer.Reason.{Reason}
use Rattle.kinds.specs.declared.answer.Reason.TheVariants.{TableLength, BadRequest, UnknownRequester, DmaStopped, AddressClass, BadEntry, OutsideWindow, MsiRefused, OutsideMemory}
use Rattle.profile.specs.Tables.{Tables}
use Rattle.profile.proofs.Case.{Case, largest, installing, entered, none, plain, short, idle, endpoint, state_row, calm, states, stopped, empty, words, read, write, pass, keeps, refuses, freezes_at, freezes}

-- PE 2's first record, with no second one; its second, with no first one
abbrev pub first : (base levels table page : ℕ) → Tables
first b l t p = entered (b ∷ l ∷ t ∷ p ∷ []) none

abbrev pub second : (base levels table page : ℕ) → Tables
second b l t p = entered none (b ∷ l ∷ t ∷ p ∷ [])

-- a read of one byte by requester 5 that freezes PE 2, and one that passes
abbrev pub fails : Tables → List ℕ → (address : ℕ) → Reason → (number : ℕ) → Case
fails f m a r k = freezes f m (read 5 a 1) r k a

abbrev pub passes : Tables → List ℕ → (address to words : ℕ) → Case
passes f m a b n = keeps f m idle (read 5 a 1) (pass b 2 n)

-- word 3 of the table at 0x2000, and of that at 0
abbrev pub memory : List ℕ
memory = words 0x18 0x12345003 (words 0x2018 0x12345003 empty)

unfoldable pub dma_checks : List Case
dma_checks =
    -- 1 before 2
    refuses short idle (read 5 0x3000 0) TableLength
    -- 2 before 3: no such requester; nobody's requester
    ∷ refuses plain idle (read 8 0x3000 0) BadRequest
    ∷ refuses plain idle (read 0 0x3FFF 2) BadRequest
    -- 2 before 4, and before the class
    ∷ refuses plain stopped (read 5 0x3000 4097) BadRequest
    ∷ refuses plain idle (write 5 0x1000000000000070 0 3) BadRequest
    ∷ refuses plain idle (read 5 0x2000000000000000 0) BadRequest
    -- 3 before 4: requester R; PE words 9 and N
    ∷ refuses plain stopped (read 8 0x3ABC 4) UnknownRequester
    ∷ refuses plain stopped (read 0 0x3ABC 4) UnknownRequester
    ∷ refuses plain stopped (read 7 0x3ABC 4) UnknownRequester
    -- 3 before the class; a requester is not cut to 16 bits
    ∷ refuses plain idle (read 7 0x2000000000000000 4) UnknownRequester
    ∷ refuses plain idle (read 0x10005 0x3ABC 4) UnknownRequester
    -- 4: the DMA stop bit, whatever the bits above the lowest two; before 5, before an MSI, good or bad, before 6, 7 and 8
    ∷ refuses plain (endpoint 2 0 0) (read 5 0x3ABC 4) DmaStopped
    ∷ refuses plain (endpoint 6 8 0x3ABC) (read 5 0x3ABC 4) DmaStopped
    ∷ refuses plain stopped (read 5 0x2000000000000000 4) DmaStopped
    ∷ refuses plain stopped (write 5 0x1000000000000070 4 3) DmaStopped
    ∷ refuses plain stopped (read 5 0xFFFF0070 4) DmaStopped
    ∷ refuses (entered none none) stopped (read 5 0x3ABC 4) DmaStopped
    ∷ refuses plain stopped (read 5 0x200000 4) DmaStopped
    ∷ refuses plain stopped (read 5 0x3ABC 4) DmaStopped
    -- the MMIO stop bit alone, the upper bits and the stop bits of others do not stop a DMA
    ∷ keeps plain memory (endpoint 1 0 0) (read 5 0x3ABC 4) (pass 0x12345ABC 2 1)
    ∷ keeps plain memory (endpoint 5 0 0) (read 5 0x3ABC 4) (pass 0x12345ABC 2 1)
    ∷ keeps plain memory (states (state_row 3 0 0) (state_row 3 0 0) calm (state_row 3 0 0)) (read 5 0x3ABC 4) (pass 0x12345ABC 2 1)
    ∷ []

unfoldable pub classes : List Case
classes =
    map (λ k. fails plain empty (k * 2 ^ 60) AddressClass 5) (2 ∷ 3 ∷ 4 ∷ 5 ∷ 6 ∷ 7 ∷ 8 ∷ 9 ∷ 10 ∷ 11 ∷ 12 ∷ 13 ∷ 14 ∷ 15 ∷ [])
    ++ (fails plain empty 0xFFFFFFFFFFFFFFFF AddressClass 5
    -- before and after each MSI window, and its first and last byte: a read there is 9
    ∷ fails plain empty 0xFFFEFFFF OutsideWindow 7
    ∷ fails plain empty 0xFFFF0000 MsiRefused 9
    ∷ fails plain empty 0xFFFFFFFF MsiRefused 9
    ∷ fails plain empty 0x100000000 OutsideWindow 7
    ∷ fails plain empty 0x0FFFFFFFFFFFFFFF BadEntry 6
    ∷ fails plain empty 0x1000000000000000 MsiRefused 9
    ∷ fails plain empty 0x1FFFFFFFFFFFFFFF MsiRefused 9
    -- bit 59 picks the record
    ∷ passes plain memory 0x3ABC 0x12345ABC 1
    ∷ fails plain memory 0x0800000000003ABC BadEntry 6
    ∷ passes (second 0x2000 1 1 1) memory 0x0800000000003ABC 0x12345ABC 1
    ∷ fails (second 0x2000 1 1 1) memory 0x3ABC BadEntry 6
    ∷ [])

unfoldable pub bad_entries : List Case
bad_entries =
    -- the table code, for pages and for a bypass
    fails (first 0x2000 1 0 1) memory 0x3ABC BadEntry 6
    ∷ fails (first 0 1 32 1) memory 0x3ABC BadEntry 6
    ∷ fails (first 0 1 0 0) memory 0x3ABC BadEntry 6
    ∷ fails (first 0 1 32 0) memory 0x3ABC BadEntry 6
    -- levels, the base, and the sum of bits
    ∷ fails (first 0x2000 0 1 1) memory 0xABC BadEntry 6
    ∷ fails (first 0x2000 6 1 1) memory 0x3ABC BadEntry 6
    ∷ fails (first 0x2000 0xFFFFFFFFFFFFFFFF 1 1) memory 0x3ABC BadEntry 6
    ∷ fails (first 0x2008 1 1 1) memory 0x3ABC BadEntry 6
    ∷ fails (first 0x2800 1 1 1) memory 0x3ABC BadEntry 6
    ∷ fails (first 0x1000 1 2 1) memory 0x3ABC BadEntry 6
    ∷ fails (first 0 4 4 1) memory 0x3ABC BadEntry 6
    ∷ fails (first 0 1 28 13) memory 0x3ABC BadEntry 6
    -- a bypass that starts at its end, after it, or ends above 2 ^ 35
    ∷ fails (first 1 1 1 0) memory 0x1000000 BadEntry 6
    ∷ fails (first 2 1 1 0) memory 0x1000000 BadEntry 6
    ∷ fails (first 0 (1 + 2 ^ 35) 1 0) memory 0x3ABC BadEntry 6
    -- 6 before 7: the offset is outside too; 6 before 15: the table is outside memory too
    ∷ fails (first 0x2000 1 0 1) memory 0x200000 BadEntry 6
    ∷ fails (first 0x2008 1 1 1) memory 0x200000 BadEntry 6
    ∷ fails (first 0x2000 1 1 2) memory 0x200000 BadEntry 6
    ∷ fails (first 2 1 1 0) memory 0x8000000 BadEntry 6
    ∷ fails (first 0x100008 1 1 1) memory 0x3ABC BadEntry 6
    -- other page codes
    ∷ map (λ c. fails (first 0x2000 1 1 c) memory 0x3ABC BadEntry 6) (2 ∷ 3 ∷ 4 ∷ 6 ∷ 12 ∷ 14 ∷ 16 ∷ 18 ∷ 0xFFFFFFFFFFFFFFFF ∷ [])

unfoldable pub outside : List Case
outside =
    -- 7 before 8: word 0 of the table forbids all; 7 before 15: the table is outside memory
    fails plain memory 0x200000 OutsideWindow 7
    ∷ fails (first 0x100000 1 1 1) memory 0x200000 OutsideWindow 7
    -- a high bit of the offset is not masked off
    ∷ fails plain memory 0x203ABC OutsideWindow 7
    ∷ fails plain memory 0x0400000000003ABC OutsideWindow 7
    ∷ fails (first 0x2000 1 1 5) memory 0x2000000 OutsideWindow 7
    ∷ fails (first 0x2000 2 1 1) memory 0x40000000 OutsideWindow 7
    -- before the start of a bypass, and at its end
    ∷ fails (first 1 2 1 0) memory 0xFFFFFF OutsideWindow 7
    ∷ fails (first 1 2 1 0) memory 0x2000000 OutsideWindow 7
    ∷ fails (first (2 ^ 35 - 1) (2 ^ 35) 1 0) memory 0x07FFFFFFFEFFFFFF OutsideWindow 7
    -- the value is the whole address
    ∷ fails (second 0x2000 1 1 1) memory 0x0800000000200000 OutsideWindow 7
    ∷ []

unfoldable pub good_entries : List Case
good_entries =
    -- table code 31
    passes (first 0 1 31 1) memory 0x3ABC 0x12345ABC 1
    ∷ passes (first 0 1 31 0) memory 0x3ABC 0x3ABC 0
    -- 59 bits: no offset is outside
    ∷ passes (first 0 1 27 13) memory 0x3ABCDEF 0x12ABCDEF 1
    ∷ freezes_at (first 0 1 27 13) memory (read 5 0x07FFFFFFFFFFFFFF 1) OutsideMemory 0 15 0x07FFFFFFFFFFFFFF 0x3FFFFFFFF8
    -- the first and the last byte of a bypass; base and levels are no base and no levels there
    ∷ passes (first 1 2 1 0) memory 0x1000000 0x1000000 0
    ∷ passes (first 1 2 1 0) memory 0x1FFFFFF 0x1FFFFFF 0
    ∷ passes (first 7 9 31 0) memory 0x7000000 0x7000000 0
    ∷ passes (first 0 (2 ^ 35) 1 0) memory 0 0 0
    ∷ passes (installing largest (first 0 (2 ^ 35) 1 0)) memory 0x07FFFFFFFFFFFFFF 0x07FFFFFFFFFFFFFF 0
    ∷ passes (installing largest (first (2 ^ 35 - 1) (2 ^ 35) 1 0)) memory 0x07FFFFFFFF000000 0x07FFFFFFFF000000 0
    ∷ passes (installing largest (second 0 (2 ^ 35) 1 0)) memory 0x0FFFFFFFFFFFFFFF 0x07FFFFFFFFFFFFFF 0
    -- the 32-bit MSI window lies in the first record only
    ∷ fails (first 0 (2 ^ 35) 1 0) memory 0xFFFF0000 MsiRefused 9
    ∷ passes (second 0 (2 ^ 35) 1 0) memory 0x08000000FFFF0000 0xFFFF0000 0
    ∷ []

unfoldable pub dma_cases : List Case
unfolding dma_checks classes bad_entries outside good_entries
dma_cases = dma_checks ++ classes ++ bad_entries ++ outside ++ good_entries
