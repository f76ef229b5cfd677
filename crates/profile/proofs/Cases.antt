-- 01, 'Cases': A to J, in one table with one statement over it: the whole answer, and all words that may change.
--     cases               a row for each request of 01's cases
--     cases_hold          THE STATEMENT: the definition gives each row's answer, and leaves what the row says
-- Assumes nothing.
use Rattle.std.specs.Prelude.{◌≡◌, refl, List, [], ◌∷◌, map, ℕ, replicate}
use Rattle.kinds.specs.Answer.{refuse}
use Rattle.kinds.specs.declared.answer.Answer.TheVariants.{Msi, Done}
use Rattle.kinds.specs.declared.answer.Reason.TheVariants.{BadRequest, OutsideWindow, TableWord}
use Rattle.kinds.specs.declared.request.Request.TheVariants.{Error}
use Rattle.profile.specs.Tables.{Tables, Live}
use Rattle.profile.proofs.Case.{Case, given, stated, entered, peered, windowed, none, plain, state_row, calm, endpoints, live, idle, states, empty, words, read, write, load, pass, row, keeps, freezes_at, freezes}

-- A and D, B, E, F
unfoldable pub memory_a : List ℕ
memory_a = words 0x2018 0x12345003 empty

unfoldable pub memory_b : List ℕ
memory_b = words 0x2FF8 0x77777002 empty

unfoldable pub memory_e : List ℕ
memory_e = words 0x2000 0x12345003 empty

unfoldable pub memory_f : List ℕ
memory_f = words 0x5018 0x9003 (words 0x2010 0x5001 empty)

-- G: PE 2's second record
unfoldable pub bypass_g : Tables
bypass_g = entered (0x2000 ∷ 1 ∷ 1 ∷ 1 ∷ []) (1 ∷ 2 ∷ 1 ∷ 0 ∷ [])

-- H: interrupt 7 with P set
unfoldable pub presented : Live
presented = live (endpoints 4 calm) (2 ∷ 5 ∷ 6 ∷ 2 ∷ [])

-- I: M32; segment 3 is PE 1's
unfoldable pub window_i : Tables
window_i = windowed (0x100000000 ∷ 0x10000000 ∷ 0x80000000 ∷ replicate 64 0) (9 ∷ 9 ∷ 9 ∷ 1 ∷ replicate 252 9)

-- J: peers 1 to 2, 2 to 3
unfoldable pub peers_j : Tables
peers_j = peered (0 ∷ 0 ∷ 0 ∷ 0 ∷ 4 ∷ 0 ∷ 0 ∷ 0 ∷ 8 ∷ replicate 7 0)

unfoldable pub cases : List Case
unfolding memory_a memory_b memory_e memory_f bypass_g presented window_i peers_j
cases =
    -- A: one level
    keeps plain memory_a idle (read 5 0x3ABC 4) (pass 0x12345ABC 2 1)
    -- B: the last word, which allows writes only; it is at 0x2FF8
    ∷ keeps plain memory_b idle (write 5 0x1FFFFF 1 0) (pass 0x77777FFF 2 1)
    ∷ freezes_at plain memory_b (read 5 0x1FFFFF 1) TableWord 1 8 0x1FFFFF 0x2FF8
    -- C: the first offset outside the window
    ∷ freezes plain memory_a (read 5 0x200000 4) OutsideWindow 7 0x200000
    -- D: the end of a block, and the lengths
    ∷ keeps plain memory_a idle (read 5 0x3FFF 2) (refuse BadRequest)
    ∷ keeps plain memory_a idle (read 5 0x3FFF 1) (pass 0x12345FFF 2 1)
    ∷ keeps plain memory_a idle (read 5 0x3000 0) (refuse BadRequest)
    ∷ keeps plain memory_a idle (read 5 0x3000 4097) (refuse BadRequest)
    -- E: pages of 64 KiB
    ∷ keeps (entered (0x2000 ∷ 1 ∷ 1 ∷ 5 ∷ []) none) memory_e idle (read 5 0xABCD 1) (pass 0x1234ABCD 2 1)
    -- F: two levels, a write through an upper word that is read-valid only
    ∷ keeps (entered (0x2000 ∷ 2 ∷ 1 ∷ 1 ∷ []) none) memory_f idle (write 5 0x403010 4 0) (pass 0x9010 2 2)
    -- G: bypass
    ∷ keeps bypass_g empty idle (read 5 0x0800000001000000 4) (pass 0x1000000 2 0)
    ∷ freezes bypass_g empty (read 5 0x0800000002000000 4) OutsideWindow 7 0x0800000002000000
    ∷ freezes bypass_g empty (read 5 0x0800000000FFFFFF 1) OutsideWindow 7 0x0800000000FFFFFF
    -- H: both MSI windows
    ∷ row plain empty idle (write 5 0x1000000000000070 4 3) (Msi 7 5 6) presented
    ∷ row plain empty idle (write 5 0xFFFF0070 4 0) (Msi 7 5 6) presented
    -- I: a load through M32
    ∷ keeps window_i empty idle (load 0x100300010 4) (pass 0x80300010 1 0)
    -- J: an error message freezes the peer and not the peer's peer
    ∷ row peers_j empty idle (Error 1) Done (states calm (state_row 3 12 1) (state_row 3 13 1) calm)
    ∷ []

pub cases_hold : map given cases ≡ map stated cases
unfolding given stated cases
cases_hold = refl
