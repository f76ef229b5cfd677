-- Loads and stores: the order of their checks, and the windows.
--     access_checks       1, 2, 10, 11 for loads and stores, each neighbouring pair where both conditions hold and the first decides
--     access_widths       the widths, and what a stopped PE's load and store are answered
--     m32_cases           M32: its edges, segments and limits, open and closed
--     m64_cases           M64: modes, edges and limits, open and closed
--     first_window        M32 before M64, each M64 window before the next, a closed one passed over, and reason 10 of the first that is open
--     access_cases        all of them
-- Assumes nothing.
use Rattle.std.specs.Prelude.{List, [], ◌∷◌, ◌++◌, map, ℕ, zero, suc, ◌+◌, ◌-◌, ◌*◌, ◌^◌, set, replicate}
use Rattle.kinds.specs.declared.answer.Answer.TheVariants.{Ones, Drop}
use Rattle.kinds.specs.declared.answer.Reason.TheVariants.{TableLength, BadRequest, NoWindow, MmioStopped}
use Rattle.profile.specs.Tables.{Tables, peer_words, window_words}
use Rattle.profile.specs.Windows.{m32_words, m64_words, m64_count}
use Rattle.profile.proofs.Case.{Case, windowed, short, wide, quiet, idle, endpoint, state_row, calm, states, stopped, empty, load, store, pass, keeps, refuses}

abbrev pub closed : List ℕ
closed = replicate window_words 0

abbrev pub m32 : (base size pci : ℕ) → List ℕ
m32 b n c = b ∷ n ∷ c ∷ replicate (m64_count * m64_words) 0

-- windows w with M64 window k
abbrev pub m64 : (k base size mode pe : ℕ) → List ℕ → List ℕ
m64 k b n m p w =
    set (set (set (set w (m32_words + k * m64_words) b) (m32_words + k * m64_words + 1) n) (m32_words + k * m64_words + 2) m) (m32_words + k * m64_words + 3) p

-- segments 0 to 3 and 255 of M32 are PEs 0 to 3 and 3
abbrev pub segments : List ℕ
segments = 0 ∷ 1 ∷ 2 ∷ 3 ∷ (replicate 251 9 ++ (3 ∷ []))

abbrev pub on : (windows : List ℕ) → Tables
on w = windowed w segments

-- M64 window 0: 256 MiB at 0x40000000, all PE 2's
abbrev pub one : Tables
one = on (m64 0 0x40000000 0x10000000 1 2 closed)

-- a load of one byte that passes, and one that no window takes
abbrev pub found : (windows : List ℕ) → (a to pe : ℕ) → Case
found w a b p = keeps (on w) empty idle (load a 1) (pass b p 0)

abbrev pub lost : (windows : List ℕ) → (a : ℕ) → Case
lost w a = refuses (on w) idle (load a 1) NoWindow

unfoldable pub access_checks : List Case
access_checks =
    -- 1 before 2
    refuses short idle (load 0x40000000 3) TableLength
    ∷ refuses short idle (store 0x40000000 3) TableLength
    -- 2 before 10, and before 11
    ∷ refuses (on closed) idle (load 0x40000000 3) BadRequest
    ∷ refuses (on closed) idle (store 0x40000001 2) BadRequest
    ∷ refuses one stopped (load 0x40000000 3) BadRequest
    ∷ refuses one stopped (store 0x40000001 2) BadRequest
    -- 10 before 11: no window; its PE is N
    ∷ refuses (on closed) stopped (load 0x40000000 4) NoWindow
    ∷ refuses (on closed) stopped (store 0x40000000 4) NoWindow
    ∷ refuses (on (m64 0 0x40000000 0x10000000 1 4 closed)) stopped (load 0x40000000 4) NoWindow
    ∷ refuses (on (m64 0 0x40000000 0x10000000 1 4 closed)) stopped (store 0x40000000 4) NoWindow
    -- 11: the MMIO stop bit, whatever the bits above the lowest two
    ∷ keeps one empty (endpoint 1 0 0) (load 0x40000000 4) (Ones MmioStopped 0xFFFFFFFF)
    ∷ keeps one empty (endpoint 5 8 9) (store 0x40000000 4) (Drop MmioStopped)
    -- the DMA stop bit alone, the upper bits and the stop bits of others do not stop a load or a store
    ∷ keeps one empty (endpoint 2 0 0) (load 0x40000000 4) (pass 0x40000000 2 0)
    ∷ keeps one empty (endpoint 6 0 0) (store 0x40000000 4) (pass 0x40000000 2 0)
    ∷ keeps one empty (states (state_row 3 0 0) (state_row 3 0 0) calm (state_row 3 0 0)) (load 0x40000000 4) (pass 0x40000000 2 0)
    ∷ []

unfoldable pub access_widths : List Case
access_widths =
    map (λ w. keeps one empty idle (load 0x40000008 w) (pass 0x40000008 2 0)) (1 ∷ 2 ∷ 4 ∷ 8 ∷ [])
    ++ map (λ w. keeps one empty idle (store 0x40000008 w) (pass 0x40000008 2 0)) (1 ∷ 2 ∷ 4 ∷ 8 ∷ [])
    ++ map (λ w. refuses one idle (load 0x40000000 w) BadRequest) (0 ∷ 3 ∷ 5 ∷ 7 ∷ 16 ∷ 0x10004 ∷ [])
    ++ map (λ w. refuses one idle (store 0x40000000 w) BadRequest) (0 ∷ 3 ∷ 5 ∷ 7 ∷ 16 ∷ 0x10004 ∷ [])
    ++ (refuses one idle (load 0x40000001 2) BadRequest
    ∷ refuses one idle (load 0x40000002 4) BadRequest
    ∷ refuses one idle (load 0x40000004 8) BadRequest
    -- all ones of the width
    ∷ keeps one empty stopped (load 0x40000000 1) (Ones MmioStopped 0xFF)
    ∷ keeps one empty stopped (load 0x40000000 2) (Ones MmioStopped 0xFFFF)
    ∷ keeps one empty stopped (load 0x40000000 4) (Ones MmioStopped 0xFFFFFFFF)
    ∷ keeps one empty stopped (load 0x40000000 8) (Ones MmioStopped 0xFFFFFFFFFFFFFFFF)
    ∷ [])
    ++ map (λ w. keeps one empty stopped (store 0x40000000 w) (Drop MmioStopped)) (1 ∷ 2 ∷ 4 ∷ 8 ∷ [])

-- the M32 window of 01's case I
abbrev pub m32_i : List ℕ
m32_i = m32 0x100000000 0x10000000 0x80000000

unfoldable pub m32_cases : List Case
m32_cases =
    -- before it, its first and last byte, after it
    lost m32_i 0xFFFFFFFF
    ∷ found m32_i 0x100000000 0x80000000 0
    ∷ found m32_i 0x10FFFFFFF 0x8FFFFFFF 3
    ∷ lost m32_i 0x110000000
    -- the last byte of a segment, and the first of the next; a segment of nobody
    ∷ found m32_i 0x1001FFFFF 0x801FFFFF 1
    ∷ found m32_i 0x100200000 0x80200000 2
    ∷ lost m32_i 0x100400000
    -- 1 MiB, at 0 and up to 2 ^ 64
    ∷ found (m32 0 0x100000 0x300000) 0x1234 0x301234 1
    ∷ found (m32 0xFFFFFFFFFFF00000 0x100000 0) 0xFFFFFFFFFFFFFFFF 0xFFFFF 3
    -- up to 2 ^ 32 on the PCI side, where a DMA would be an MSI
    ∷ found (m32 0x100000000 0x10000000 0xF0000000) 0x10FFFFFFF 0xFFFFFFFF 3
    -- 4 GiB: PCI base 0 only
    ∷ found (m32 0x700000000 0x100000000 0) 0x702345678 0x2345678 2
    ∷ lost (m32 0x700000000 0x100000000 0x100000000) 0x702345678
    -- the PCI side ends at 2 ^ 32, and above it
    ∷ found (m32 0x100000000 0x10000000 0xF0000000) 0x100300010 0xF0300010 3
    ∷ lost (m32 0x100000000 0x10000000 0x100000000) 0x100300010
    -- sizes 0, 512 KiB, 8 GiB and 3 MiB; a base and a PCI base that are no multiples of the size
    ∷ lost (m32 0x100000000 0 0) 0x100000000
    ∷ lost (m32 0x100000000 0x80000 0) 0x100000000
    ∷ lost (m32 0x200000000 0x200000000 0) 0x200000000
    ∷ lost (m32 0x300000 0x300000 0) 0x300000
    ∷ lost (m32 0x108000000 0x10000000 0x80000000) 0x108000000
    ∷ lost (m32 0x100000000 0x10000000 0x88000000) 0x100000000
    ∷ []

unfoldable pub m64_cases : List Case
m64_cases =
    -- before it, its first and last byte, after it; 256 MiB
    lost (m64 0 0x40000000 0x10000000 1 2 closed) 0x3FFFFFFF
    ∷ found (m64 0 0x40000000 0x10000000 1 2 closed) 0x40000000 0x40000000 2
    ∷ found (m64 0 0x40000000 0x10000000 1 2 closed) 0x4FFFFFFF 0x4FFFFFFF 2
    ∷ lost (m64 0 0x40000000 0x10000000 1 2 closed) 0x50000000
    -- 2 ^ 50, at 0; 256 MiB and 2 ^ 50, up to 2 ^ 64
    ∷ found (m64 15 0 (2 ^ 50) 1 3 closed) (2 ^ 50 - 1) (2 ^ 50 - 1) 3
    ∷ keeps (on (m64 15 0xFFFFFFFFF0000000 0x10000000 1 1 closed)) empty idle (load 0xFFFFFFFFFFFFFFF8 8) (pass 0xFFFFFFFFFFFFFFF8 1 0)
    ∷ found (m64 15 (2 ^ 64 - 2 ^ 50) (2 ^ 50) 1 1 closed) (2 ^ 64 - 2 ^ 50) (2 ^ 64 - 2 ^ 50) 1
    ∷ lost (m64 15 0xFFFFFFFFF0000000 0x10000000 1 1 closed) 0
    -- mode 2: the number of the segment, of 256 equal ones, and not the PE word
    ∷ found (m64 0 0x40000000 0x10000000 2 9 closed) 0x40000000 0x40000000 0
    ∷ found (m64 0 0x40000000 0x10000000 2 9 closed) 0x403FFFFF 0x403FFFFF 3
    ∷ lost (m64 0 0x40000000 0x10000000 2 2 closed) 0x40400000
    ∷ found (m64 0 0 (2 ^ 50) 2 9 closed) (2 ^ 42) (2 ^ 42) 1
    -- modes 0 and 3; PE words N, and one that is not cut to 16 bits
    ∷ lost (m64 0 0x40000000 0x10000000 0 2 closed) 0x40000000
    ∷ lost (m64 0 0x40000000 0x10000000 3 2 closed) 0x40000000
    ∷ lost (m64 0 0x40000000 0x10000000 1 4 closed) 0x40000000
    ∷ lost (m64 0 0x40000000 0x10000000 1 (2 + 2 ^ 16) closed) 0x40000000
    -- sizes 0, 128 MiB, 2 ^ 51 and 768 MiB; a base that is no multiple of the size
    ∷ lost (m64 0 0x40000000 0 1 2 closed) 0x40000000
    ∷ lost (m64 0 0x40000000 0x8000000 1 2 closed) 0x40000000
    ∷ lost (m64 0 0 (2 ^ 51) 1 2 closed) 0x40000000
    ∷ lost (m64 0 0x30000000 0x30000000 1 2 closed) 0x40000000
    ∷ lost (m64 0 0x48000000 0x10000000 1 2 closed) 0x48000000
    ∷ []

-- n M64 windows from number k, which all cover 0x40000000, each of the PE with its number
unfoldable pub open_from : (n k : ℕ) → List ℕ
open_from zero k = closed
open_from (suc n) k = m64 k 0x40000000 0x10000000 1 k (open_from n (k + 1))

-- a bridge of 16 PEs on which M64 windows k to 15 are open: k takes the load
abbrev pub from : (k : ℕ) → Case
from k = keeps (wide 16 (replicate (16 * peer_words) 0) (open_from (m64_count - k) k) segments) empty (quiet 16) (load 0x40000000 4) (pass 0x40000000 k 0)

-- window 0 is closed, or covers other addresses; window 1 is PE 3's and takes the load
abbrev pub over : (base size mode : ℕ) → Case
over b n m = found (m64 0 b n m 2 (m64 1 0x40000000 0x10000000 1 3 closed)) 0x40000000 0x40000000 3

unfoldable pub first_window : List Case
unfolding open_from
first_window =
    -- M32 before M64, which both cover the address; M64 after an M32 that is closed, or covers other addresses
    found (m64 0 0x100000000 0x10000000 1 3 m32_i) 0x100100010 0x80100010 1
    ∷ found (m64 0 0x100000000 0x10000000 1 3 (m32 0x100000000 0x10000000 1)) 0x100100010 0x100100010 3
    ∷ found (m64 0 0x40000000 0x10000000 1 3 m32_i) 0x40000000 0x40000000 3
    -- the first open window decides, also where its PE is not below N
    ∷ lost (m64 0 0x100000000 0x10000000 1 3 m32_i) 0x100500000
    ∷ lost (m64 0 0x40000000 0x10000000 1 4 (m64 1 0x40000000 0x10000000 1 3 closed)) 0x40000000
    ∷ lost (m64 0 0x40000000 0x10000000 2 3 (m64 1 0x40000000 0x10000000 1 3 closed)) 0x4FFFFFFF
    -- a closed window is passed over: mode, size, base
    ∷ over 0x40000000 0x10000000 0
    ∷ over 0x40000000 0x10000000 3
    ∷ over 0x40000000 0 1
    ∷ over 0x40000000 0x8000000 1
    ∷ over 0x38000000 0x10000000 1
    ∷ over 0x50000000 0x10000000 1
    ∷ map from (0 ∷ 1 ∷ 2 ∷ 3 ∷ 4 ∷ 5 ∷ 6 ∷ 7 ∷ 8 ∷ 9 ∷ 10 ∷ 11 ∷ 12 ∷ 13 ∷ 14 ∷ 15 ∷ [])

unfoldable pub access_cases : List Case
unfolding access_checks access_widths m32_cases m64_cases first_window
access_cases = access_checks ++ access_widths ++ m32_cases ++ m64_cases ++ first_window
