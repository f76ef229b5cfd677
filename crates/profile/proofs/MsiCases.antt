-- MSI delivery, and the firmware requests of an interrupt: P and Q, numbers, and each condition of reasons 9 and 14.
--     arrivals            an arriving MSI for each P, Q and priority 255 or not
--     numbers             the number: data ORed with address bits, and what is ignored
--     bits_of_numbers     the number itself, bit for bit, in both windows; numbers_hold: THE STATEMENT over them
--     bad_msi             reason 9, each condition alone
--     endings             the end of an interrupt, for each P, Q and priority 255 or not
--     priorities          a priority set, from 255 and to 255 or not, for each P and Q
--     bad_interrupts      1 before 2, 2 before 14, and each condition of 14
--     msi_cases           all of them
--     last_interrupts     4,096 interrupts: the last in both windows, number 4,096; one interrupt more
-- Assumes nothing.
use Rattle.std.specs.Prelude.{◌≡◌, refl, List, [], ◌∷◌, ◌++◌, map, ℕ, ◌+◌, ◌-◌, ◌*◌, ◌^◌, replicate}
use Rattle.kinds.specs.declared.answer.Answer.{Answer}
use Rattle.kinds.specs.Answer.{refuse}
use Rattle.kinds.specs.declared.answer.Answer.TheVariants.{Msi, Held, Done}
use Rattle.kinds.specs.declared.answer.Reason.TheVariants.{TableLength, BadRequest, MsiRefused, BadFirmware}
use Rattle.kinds.specs.declared.request.Request.{Request}
use Rattle.kinds.specs.declared.request.Request.TheVariants.{End, Priority}
use Rattle.profile.proofs.Opened.{opened}
use Rattle.profile.specs.Tables.{Tables, Live, interrupt_words}
use Rattle.profile.specs.Msi.{number32, number64}
use Rattle.profile.proofs.Case.{Case, plain, short, state_row, calm, endpoints, ended, live, idle, empty, read, write, row, refuses, freezes}

-- interrupt 7 with these words, nobody stopped; the same with PE 2 frozen by reason 9 at address a
abbrev pub irq : (pe server priority bits : ℕ) → Live
irq e v p b = live (endpoints 4 calm) (e ∷ v ∷ p ∷ b ∷ [])

abbrev pub irq_frozen : (pe server priority bits a : ℕ) → Live
irq_frozen e v p b a = live (calm ++ calm ++ state_row 3 9 a ++ calm) (e ∷ v ∷ p ∷ b ∷ [])

-- MSI 7, in the 64-bit window
abbrev pub seven : Request
seven = write 5 0x1000000000000070 4 3

-- MSI 7 meets priority p and 2P + Q = b, is answered x, and leaves c
abbrev pub arrives : (p b : ℕ) → Answer → (c : ℕ) → Case
arrives p b x c = row plain empty (irq 2 5 p b) seven x (irq 2 5 p c)

unfoldable pub arrivals : List Case
arrivals =
    arrives 6 0 (Msi 7 5 6) 2
    ∷ arrives 6 1 (Msi 7 5 6) 3
    ∷ arrives 6 2 (Held 7) 3
    ∷ arrives 6 3 (Held 7) 3
    ∷ arrives 255 0 (Held 7) 1
    ∷ arrives 255 1 (Held 7) 1
    ∷ arrives 255 2 (Held 7) 3
    ∷ arrives 255 3 (Held 7) 3
    ∷ arrives 0 0 (Msi 7 5 0) 2
    ∷ arrives 254 0 (Msi 7 5 254) 2
    -- the largest server
    ∷ row plain empty (irq 2 (2 ^ 24 - 1) 6 0) seven (Msi 7 (2 ^ 24 - 1) 6) (irq 2 (2 ^ 24 - 1) 6 2)
    -- the MMIO stop bit does not stop an MSI
    ∷ row plain empty (live (calm ++ calm ++ state_row 1 0 0 ++ calm) (2 ∷ 5 ∷ 6 ∷ 0 ∷ [])) seven (Msi 7 5 6)
    (live (calm ++ calm ++ state_row 1 0 0 ++ calm) (2 ∷ 5 ∷ 6 ∷ 2 ∷ []))
    ∷ []

-- a write of 4 bytes that is MSI 7, and one that is another number, not below 8
abbrev pub is_seven : (address word : ℕ) → Case
is_seven a v = row plain empty idle (write 5 a 4 v) (Msi 7 5 6) (irq 2 5 6 2)

abbrev pub is_other : (address word : ℕ) → Case
is_other a v = freezes plain empty (write 5 a 4 v) MsiRefused 9 a

unfoldable pub numbers : List Case
numbers =
    -- ORed and not added: 3 | 7, 5 | 3, 7 | 7
    is_seven 0x1000000000000070 3
    ∷ is_seven 0x1000000000000030 5
    ∷ is_seven 0x1000000000000070 7
    ∷ is_seven 0x1000000000000000 7
    ∷ is_seven 0xFFFF0030 5
    -- ignored: data bits above 4, address bits 3 and 2, and above 19 or 15
    ∷ is_seven 0x1000000000000070 0xFFFFFFE0
    ∷ is_seven 0x100000000000007C 0
    ∷ is_seven 0x1FFFFFFFFFF00070 0
    ∷ is_seven 0xFFFF007C 0
    -- data bit 4, and address bits 19, 16 and 15
    ∷ is_other 0x1000000000000070 0x10
    ∷ is_other 0x1000000000080070 0
    ∷ is_other 0x1000000000010070 0
    ∷ is_other 0xFFFF8070 0
    ∷ is_other 0xFFFF0070 0x10
    -- all five bits of data, and the sixth
    ∷ is_other 0x1000000000000070 31
    ∷ is_other 0xFFFF0070 31
    ∷ is_seven 0x1000000000000070 32
    ∷ is_seven 0xFFFF0070 32
    ∷ []

pub record Numbered : Type 0 where
  pub gives : ℕ
  pub says : ℕ

abbrev pub in32 : (address word number : ℕ) → Numbered
in32 a v n = record { gives = number32 (record { 0 = a }) v; says = n }

abbrev pub in64 : (address word number : ℕ) → Numbered
in64 a v n = record { gives = number64 (record { 0 = a }) v; says = n }

unfoldable pub bits_of_numbers : List Numbered
bits_of_numbers =
    -- data: each of the five bits, all of them, the bits above
    map (λ d. in32 0xFFFF0000 d d) (0 ∷ 1 ∷ 2 ∷ 4 ∷ 8 ∷ 16 ∷ 31 ∷ [])
    ++ map (λ d. in64 0x1000000000000000 d d) (0 ∷ 1 ∷ 2 ∷ 4 ∷ 8 ∷ 16 ∷ 31 ∷ [])
    ++ (in32 0xFFFF0000 0xFFFFFFE0 0 ∷ in64 0x1000000000000000 0xFFFFFFE0 0
    -- the address: below its bits, the first, the last, all, above them
    ∷ in32 0xFFFF000F 0 0 ∷ in32 0xFFFF0010 0 1 ∷ in32 0xFFFF8000 0 0x800 ∷ in32 0xFFFFFFFF 0 0xFFF
    ∷ in64 0x100000000000000F 0 0 ∷ in64 0x1000000000000010 0 1 ∷ in64 0x1000000000080000 0 0x8000 ∷ in64 0x1FFFFFFFFFFFFFFF 0 0xFFFF
    ∷ in64 0x1FFFFFFFFFF00000 0 0
    -- ORed
    ∷ in32 0xFFFF5550 0x33 0x557 ∷ in64 0x1000000000055550 0x33 0x5557 ∷ [])

pub numbers_hold : map (λ c. c.gives) bits_of_numbers ≡ map (λ c. c.says) bits_of_numbers
unfolding opened bits_of_numbers
numbers_hold = refl

-- MSI 7 meets a record that refuses it
abbrev pub bad_record : (pe server priority bits : ℕ) → Case
bad_record e v p b = row plain empty (irq e v p b) seven (refuse MsiRefused) (irq_frozen e v p b 0x1000000000000070)

unfoldable pub bad_msi : List Case
bad_msi =
    -- a read; lengths 2, 8 and 1; an address that is no multiple of 4
    freezes plain empty (read 5 0x1000000000000070 4) MsiRefused 9 0x1000000000000070
    ∷ freezes plain empty (write 5 0x1000000000000070 2 3) MsiRefused 9 0x1000000000000070
    ∷ freezes plain empty (write 5 0x1000000000000070 8 3) MsiRefused 9 0x1000000000000070
    ∷ freezes plain empty (write 5 0xFFFF0070 1 3) MsiRefused 9 0xFFFF0070
    ∷ freezes plain empty (write 5 0x1000000000000072 4 3) MsiRefused 9 0x1000000000000072
    ∷ freezes plain empty (write 5 0xFFFF0071 4 3) MsiRefused 9 0xFFFF0071
    -- number M
    ∷ freezes plain empty (write 5 0x1000000000000080 4 0) MsiRefused 9 0x1000000000000080
    ∷ freezes plain empty (write 5 0xFFFF0000 4 8) MsiRefused 9 0xFFFF0000
    -- server, priority, state
    ∷ bad_record 2 (2 ^ 24) 6 0
    ∷ bad_record 2 5 256 0
    ∷ bad_record 2 5 6 4
    -- another PE; PE words are not cut to 16 bits
    ∷ bad_record 1 5 6 0
    ∷ bad_record 9 5 6 0
    ∷ bad_record (2 + 2 ^ 16) 5 6 0
    ∷ []

-- the end of interrupt 7 at priority p and 2P + Q = b
abbrev pub ends : (p b : ℕ) → Answer → (c : ℕ) → Case
ends p b x c = row plain empty (irq 2 5 p b) (End 7) x (irq 2 5 p c)

unfoldable pub endings : List Case
endings =
    ends 6 0 Done 0
    ∷ ends 6 1 Done 1
    ∷ ends 6 2 Done 0
    ∷ ends 6 3 (Msi 7 5 6) 2
    ∷ ends 255 0 Done 0
    ∷ ends 255 1 Done 1
    ∷ ends 255 2 Done 0
    ∷ ends 255 3 Done 1
    ∷ ends 254 3 (Msi 7 5 254) 2
    -- stop bits do not matter
    ∷ row plain empty (live (endpoints 4 (state_row 3 3 3)) (2 ∷ 5 ∷ 6 ∷ 3 ∷ [])) (End 7) (Msi 7 5 6) (live (endpoints 4 (state_row 3 3 3)) (2 ∷ 5 ∷ 6 ∷ 2 ∷ []))
    ∷ []

-- the priority of interrupt 7 set from p to n, at 2P + Q = b
abbrev pub sets : (p b n : ℕ) → Answer → (c : ℕ) → Case
sets p b n x c = row plain empty (irq 2 5 p b) (Priority 7 n) x (irq 2 5 n c)

unfoldable pub priorities : List Case
priorities =
    -- from 255 to another: with Q set, Q is cleared and an MSI arrives
    sets 255 0 6 Done 0
    ∷ sets 255 1 6 (Msi 7 5 6) 2
    ∷ sets 255 2 6 Done 2
    ∷ sets 255 3 6 (Held 7) 3
    ∷ sets 255 1 254 (Msi 7 5 254) 2
    -- from 255 to 255, to 255, and from one to another: it is only written
    ∷ sets 255 1 255 Done 1
    ∷ sets 255 3 255 Done 3
    ∷ sets 6 1 255 Done 1
    ∷ sets 6 3 255 Done 3
    ∷ sets 6 0 0 Done 0
    ∷ sets 6 1 7 Done 1
    ∷ sets 6 2 7 Done 2
    ∷ sets 6 3 7 Done 3
    -- stop bits do not matter
    ∷ row plain empty (live (endpoints 4 (state_row 3 3 3)) (2 ∷ 5 ∷ 255 ∷ 1 ∷ [])) (Priority 7 6) (Msi 7 5 6) (live (endpoints 4 (state_row 3 3 3)) (2 ∷ 5 ∷ 6 ∷ 2 ∷ []))
    ∷ []

-- no good interrupt, for its end and for its priority
abbrev pub no_good : Live → (i : ℕ) → List Case
no_good s i = refuses plain s (End i) BadFirmware ∷ refuses plain s (Priority i 6) BadFirmware ∷ []

unfoldable pub bad_interrupts : List Case
bad_interrupts =
    -- 1 before 2, and before 14
    (refuses short idle (Priority 7 256) TableLength
    ∷ refuses short idle (End 8) TableLength
    -- 2 before 14: no such interrupt, nobody's, and a bad one
    ∷ refuses plain idle (Priority 8 256) BadRequest
    ∷ refuses plain (irq 4 5 6 0) (Priority 7 256) BadRequest
    ∷ refuses plain (irq 2 5 256 0) (Priority 7 256) BadRequest
    ∷ refuses plain idle (Priority 7 256) BadRequest
    ∷ [])
    -- 14: number M, numbers not cut to 16 bits; PE N and PE words not cut; server, priority, state
    ++ no_good idle 8 ++ no_good idle 0x10007 ++ no_good (irq 4 5 6 3) 7 ++ no_good (irq (2 + 2 ^ 16) 5 6 3) 7
    ++ no_good (irq 2 (2 ^ 24) 6 3) 7 ++ no_good (irq 2 5 256 3) 7 ++ no_good (irq 2 5 6 4) 7

unfoldable pub msi_cases : List Case
unfolding arrivals numbers bad_msi endings priorities bad_interrupts
msi_cases = arrivals ++ numbers ++ bad_msi ++ endings ++ priorities ++ bad_interrupts

-- `plain` with m interrupts
abbrev pub counted : (m : ℕ) → Tables
counted m = record {
  sizes = record { pes = 4; interrupts = m; requesters = 8 };
  installed = plain.installed;
  requesters = plain.requesters;
  entries = plain.entries;
  peers = plain.peers;
  windows = plain.windows;
  segments = plain.segments;
}

-- the last of m interrupts is PE 2's, with 2P + Q = b; nobody stopped, or PE 2 frozen by reason 9 at address a
abbrev pub last_of : (m : ℕ) → (endpoints : List ℕ) → (bits : ℕ) → Live
last_of m l b = record { state = ended 0 l; interrupts = replicate ((m - 1) * interrupt_words) 0 ++ (2 ∷ 5 ∷ 6 ∷ b ∷ []) }

abbrev pub last_irq : (m bits : ℕ) → Live
last_irq m b = last_of m (endpoints 4 calm) b

abbrev pub last_frozen : (m a : ℕ) → Live
last_frozen m a = last_of m (calm ++ calm ++ state_row 3 9 a ++ calm) 0

-- a write of 4 bytes that is MSI 4,095 of 4,096, and one that is refused
abbrev pub is_last : (address word : ℕ) → Case
is_last a v = row (counted 4096) empty (last_irq 4096 0) (write 5 a 4 v) (Msi 4095 5 6) (last_irq 4096 2)

abbrev pub past_last : (address word : ℕ) → Case
past_last a v = row (counted 4096) empty (last_irq 4096 0) (write 5 a 4 v) (refuse MsiRefused) (last_frozen 4096 a)

unfoldable pub last_interrupts : List Case
last_interrupts =
    -- 4,095: by the address, and by address and data
    is_last 0xFFFFFFF0 0
    ∷ is_last 0x100000000000FE00 31
    -- 4,096, which the 64-bit window alone has
    ∷ past_last 0x1000000000010000 0
    -- firmware
    ∷ row (counted 4096) empty (last_irq 4096 3) (End 4095) (Msi 4095 5 6) (last_irq 4096 2)
    ∷ refuses (counted 4096) (last_irq 4096 3) (End 4096) BadFirmware
    -- 4,097 interrupts
    ∷ refuses (counted 4097) (last_irq 4097 0) (write 5 0xFFFFFFF0 4 0) TableLength
    ∷ []
