-- 02, [9]: who sets and clears the fence, what it stops and where 18 stands among the other reasons, and what still works.
--     fatal               fatal messages: 1 and 3 only, obeyed when stopped and when fenced; no PE is frozen, and the other bits of the word stay
--     cleared             fence clears: 1 only
--     fenced_dma          DMA and MSI: 18 after 1 and 2, before 3, 4 and all later reasons; nothing changes
--     fenced_access       loads and stores: 18 after 1 and 2, before 10 and 11, with all ones of the width, or dropped
--     fenced_messages     error messages: 18 after 1, before 3
--     working             firmware on a fenced bridge
--     apart               the fence word is no PE's: a peer bit N, a clear of PE N
--     fence_cases         all of them
--     Fencing             an effect on the fence, done directly, on any state; fence_rows: rows of it
--     fences_hold         THE STATEMENT over them: the definition leaves what the row says
-- Assumes nothing.
use Rattle.std.specs.Prelude.{◌≡◌, refl, Bool, true, false, List, [], ◌∷◌, ◌++◌, map, ℕ, ◌-◌, ◌*◌, ◌^◌, replicate}
use Rattle.kinds.specs.Answer.{refuse}
use Rattle.kinds.specs.declared.answer.Answer.{Answer}
use Rattle.kinds.specs.declared.answer.Answer.TheVariants.{Msi, Ones, Drop, Done}
use Rattle.kinds.specs.declared.answer.Reason.TheVariants.{TableLength, BadRequest, UnknownRequester, DmaStopped, NoWindow, MmioStopped, BadFirmware, AddressClass, Fenced}
use Rattle.kinds.specs.declared.outcome.Effect.TheVariants.{Fence}
use Rattle.kinds.specs.declared.request.Part.TheVariants.{Mmio, Dma, Record}
use Rattle.kinds.specs.declared.request.Request.{Request}
use Rattle.kinds.specs.declared.request.Request.TheVariants.{Error, Clear, End, Priority, Fatal, FenceClear, Unnamed}
use Rattle.profile.proofs.Opened.{opened}
use Rattle.profile.specs.Tables.{Tables, Live, peer_words, window_words, segment_count}
use Rattle.profile.specs.Step.{act}
use Rattle.profile.proofs.Case.{Case, plain, short, wide, word_row, state_row, calm, endpoints, ended, fencing, empty, words, read, write, load, store, pass, row, keeps, refuses}
use Rattle.profile.proofs.AccessCases.{one}
use Rattle.profile.proofs.FreezeCases.{vector, bare}

-- interrupt 7 of `idle`; nobody stopped, the fence word w; PE 2's words r, the others' 0
abbrev pub seven : List ℕ
seven = 2 ∷ 5 ∷ 6 ∷ 0 ∷ []

abbrev pub still : (fence : ℕ) → Live
still w = fencing w (endpoints 4 calm) seven

abbrev pub two : (fence : ℕ) → (words : List ℕ) → Live
two w r = fencing w (calm ++ calm ++ r ++ calm) seven

-- PE 2 stopped, with a record; every PE stopped
abbrev pub stopped : (fence : ℕ) → Live
stopped w = two w (word_row 3 8 0x3ABC 0x2018)

abbrev pub halted : (fence : ℕ) → Live
halted w = fencing w (endpoints 4 (state_row 3 0 0)) seven

-- a request that changes the fence word from w to v, and no other word
abbrev pub turns : Tables → Request → (w v : ℕ) → Case
turns f q w v = row f empty (still w) q Done (still v)

unfoldable pub fatal : List Case
fatal =
    turns plain (Fatal 5) 0 1
    ∷ turns plain (Fatal 5) 1 1
    -- the other bits stay
    ∷ turns plain (Fatal 5) 6 7
    ∷ turns plain (Fatal 5) (2 ^ 64 - 2) (2 ^ 64 - 1)
    -- of a PE that lists all; of a stopped one, fenced or not
    ∷ turns (vector (2 ^ 64 - 1) 0 0 0) (Fatal 5) 0 1
    ∷ row plain empty (stopped 0) (Fatal 5) Done (stopped 1)
    ∷ row plain empty (halted 3) (Fatal 1) Done (halted 3)
    -- 1 before 3; 3: requester R, PE words 9 and N, a requester not cut to 16 bits, fenced or not
    ∷ refuses short (still 0) (Fatal 8) TableLength
    ∷ refuses short (still 1) (Fatal 5) TableLength
    ∷ refuses plain (still 0) (Fatal 8) UnknownRequester
    ∷ refuses plain (still 1) (Fatal 8) UnknownRequester
    ∷ refuses plain (still 0) (Fatal 0) UnknownRequester
    ∷ refuses plain (still 1) (Fatal 7) UnknownRequester
    ∷ refuses plain (still 0) (Fatal 0x10005) UnknownRequester
    ∷ []

unfoldable pub cleared : List Case
cleared =
    turns plain FenceClear 1 0
    ∷ turns plain FenceClear 0 0
    ∷ turns plain FenceClear 7 6
    ∷ turns plain FenceClear (2 ^ 64 - 1) (2 ^ 64 - 2)
    -- no PE is released
    ∷ row plain empty (stopped 1) FenceClear Done (stopped 0)
    ∷ row plain empty (halted 0) FenceClear Done (halted 0)
    ∷ refuses short (still 1) FenceClear TableLength
    ∷ []

-- PE 2's page table; a request on it that changes nothing, where the fence is set and where it is not
abbrev pub memory : List ℕ
memory = words 0x2018 0x12345003 empty

abbrev pub both : Tables → (ℕ → Live) → Request → (a b : Answer) → List Case
both f s q a b = keeps f memory (s 0) q a ∷ keeps f memory (s 1) q b ∷ []

unfoldable pub fenced_dma : List Case
fenced_dma =
    -- a DMA that passes, and an MSI that would be presented
    both plain still (read 5 0x3ABC 4) (pass 0x12345ABC 2 1) (refuse Fenced)
    ++ (row plain empty (still 0) (write 5 0xFFFF0070 4 0) (Msi 7 5 6) (fencing 0 (endpoints 4 calm) (2 ∷ 5 ∷ 6 ∷ 2 ∷ []))
    ∷ keeps plain empty (still 1) (write 5 0xFFFF0070 4 0) (refuse Fenced)
    ∷ keeps plain empty (still 1) (write 5 0x1000000000000070 4 3) (refuse Fenced)
    -- 1 before 18, 2 before 18
    ∷ refuses short (still 1) (read 5 0x3ABC 4) TableLength
    ∷ refuses plain (still 1) (read 5 0x3FFF 2) BadRequest
    ∷ refuses plain (still 1) (write 5 0xFFFF0070 0 0) BadRequest
    ∷ [])
    -- 18 before 3, and before 4
    ++ both plain still (read 8 0x3ABC 4) (refuse UnknownRequester) (refuse Fenced)
    ++ both plain still (read 7 0x3ABC 4) (refuse UnknownRequester) (refuse Fenced)
    ++ both plain stopped (read 5 0x3ABC 4) (refuse DmaStopped) (refuse Fenced)
    -- and before a reason that freezes: 5
    ++ (row plain empty (still 0) (read 5 0x2000000000000000 4) (refuse AddressClass) (two 0 (state_row 3 5 0x2000000000000000))
    ∷ keeps plain empty (still 1) (read 5 0x2000000000000000 4) (refuse Fenced)
    -- the lowest bit alone is the fence
    ∷ keeps plain memory (still (2 ^ 64 - 2)) (read 5 0x3ABC 4) (pass 0x12345ABC 2 1)
    ∷ keeps plain memory (still (2 ^ 64 - 1)) (read 5 0x3ABC 4) (refuse Fenced)
    ∷ [])

unfoldable pub fenced_access : List Case
fenced_access =
    -- all ones of each width; what passes where the fence is not set
    both one still (load 0x40000000 1) (pass 0x40000000 2 0) (Ones Fenced 0xFF)
    ++ both one still (load 0x40000000 2) (pass 0x40000000 2 0) (Ones Fenced 0xFFFF)
    ++ both one still (load 0x40000000 4) (pass 0x40000000 2 0) (Ones Fenced 0xFFFFFFFF)
    ++ both one still (load 0x40000000 8) (pass 0x40000000 2 0) (Ones Fenced 0xFFFFFFFFFFFFFFFF)
    ++ both one still (store 0x40000000 4) (pass 0x40000000 2 0) (Drop Fenced)
    -- 18 before 10
    ++ both plain still (load 0x7000 4) (refuse NoWindow) (Ones Fenced 0xFFFFFFFF)
    ++ both plain still (store 0x7000 8) (refuse NoWindow) (Drop Fenced)
    -- 18 before 11
    ++ both one stopped (load 0x40000000 2) (Ones MmioStopped 0xFFFF) (Ones Fenced 0xFFFF)
    ++ both one stopped (store 0x40000000 2) (Drop MmioStopped) (Drop Fenced)
    -- 1 before 18, 2 before 18
    ++ (refuses short (still 1) (load 0x7000 4) TableLength
    ∷ refuses short (still 1) (store 0x7000 4) TableLength
    ∷ refuses one (still 1) (load 0x40000001 4) BadRequest
    ∷ refuses one (still 1) (load 0x40000000 3) BadRequest
    ∷ refuses one (still 1) (store 0x40000000 3) BadRequest
    ∷ refuses one (still 1) Unnamed BadRequest
    ∷ [])

unfoldable pub fenced_messages : List Case
fenced_messages =
    -- 18 before 3, and nothing is frozen, whatever peers there are; 1 before 18
    row plain empty (still 0) (Error 5) Done (two 0 (state_row 3 12 5))
    ∷ keeps plain empty (still 1) (Error 5) (refuse Fenced)
    ∷ keeps (vector 15 0 0 0) empty (still 1) (Error 5) (refuse Fenced)
    ∷ both plain still (Error 8) (refuse UnknownRequester) (refuse Fenced)
    ++ (refuses short (still 1) (Error 5) TableLength ∷ [])

unfoldable pub working : List Case
working =
    -- clears of each part, ends and priorities, good and refused
    row plain empty (stopped 1) (Clear 2 Mmio) Done (two 1 (word_row 2 8 0x3ABC 0x2018))
    ∷ row plain empty (stopped 1) (Clear 2 Dma) Done (two 1 (word_row 1 8 0x3ABC 0x2018))
    ∷ row plain empty (stopped 1) (Clear 2 Record) Done (two 1 (state_row 3 0 0))
    ∷ row plain empty (fencing 1 (endpoints 4 calm) (2 ∷ 5 ∷ 6 ∷ 3 ∷ [])) (End 7) (Msi 7 5 6) (fencing 1 (endpoints 4 calm) (2 ∷ 5 ∷ 6 ∷ 2 ∷ []))
    ∷ row plain empty (still 1) (Priority 7 255) Done (fencing 1 (endpoints 4 calm) (2 ∷ 5 ∷ 255 ∷ 0 ∷ []))
    ∷ refuses plain (still 1) (Priority 7 256) BadRequest
    ∷ refuses plain (still 1) (Clear 4 Mmio) BadFirmware
    ∷ refuses plain (still 1) (End 8) BadFirmware
    ∷ refuses plain (still 1) (Priority 8 6) BadFirmware
    ∷ []

-- 256 PEs with zeros for all tables, and the fence word
abbrev pub most : Tables
most = wide 256 (replicate (256 * peer_words) 0) (replicate window_words 0) (replicate segment_count 0)

unfoldable pub apart : List Case
apart =
    -- an error message of PE 2, in whose vector are bit 4, which is N, and all above it
    row (vector 16 0 0 0) empty (still 0) (Error 5) Done (two 0 (state_row 3 12 5))
    ∷ row (vector (2 ^ 64 - 16) (2 ^ 64 - 1) 0 0) empty (still 8) (Error 5) Done (two 8 (state_row 3 12 5))
    -- a clear of PE N
    ∷ refuses plain (still 7) (Clear 4 Mmio) BadFirmware
    ∷ refuses plain (still 7) (Clear 4 Record) BadFirmware
    -- the last PE of 256
    ∷ row most empty (bare (ended 2 (endpoints 256 calm))) (Fatal 1) Done (bare (ended 3 (endpoints 256 calm)))
    ∷ row most empty (bare (ended 2 (endpoints 256 calm))) (Error 1) Done (bare (ended 2 (endpoints 255 calm ++ state_row 3 12 1)))
    ∷ []

unfoldable pub fence_cases : List Case
unfolding fatal cleared fenced_dma fenced_access fenced_messages working apart
fence_cases = fatal ++ cleared ++ fenced_dma ++ fenced_access ++ fenced_messages ++ working ++ apart

-- ---- the effect alone

pub record Fencing : Type 0 where
  pub pes : ℕ
  pub bit : Bool
  pub met : List ℕ
  pub left : List ℕ

abbrev pub fences : (pes : ℕ) → Bool → (met left : List ℕ) → Fencing
fences n b l k = record { pes = n; bit = b; met = l; left = k }

unfoldable pub fence_rows : List Fencing
fence_rows =
    fences 2 true (ended 4 (endpoints 2 (state_row 4 5 6))) (ended 5 (endpoints 2 (state_row 4 5 6)))
    ∷ fences 2 false (ended 5 (endpoints 2 (state_row 4 5 6))) (ended 4 (endpoints 2 (state_row 4 5 6)))
    -- a state that ends before the word, and one that goes on after it
    ∷ fences 2 true (endpoints 2 calm) (endpoints 2 calm)
    ∷ fences 1 true (endpoints 3 calm) (calm ++ state_row 1 0 0 ++ calm)
    ∷ fences 1 false (endpoints 3 (state_row 7 7 7)) (state_row 7 7 7 ++ state_row 6 7 7 ++ state_row 7 7 7)
    ∷ []

pub fences_hold : map (λ c. act c.pes [] (record { 0 = 0 }) (Fence c.bit) (bare c.met)) fence_rows ≡ map (λ c. bare c.left) fence_rows
unfolding opened fence_rows
fences_hold = refl
