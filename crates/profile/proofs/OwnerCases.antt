-- 01, 'Lent tables', on whom a request belongs to: every kind of request, good, badly formed, refused for each reason, at and past each limit, of
-- nobody, and on tables too short to hold the word of its PE, in one table with one statement over it.
--     Owning              a row of the tables of cases, and the owner of its request: mine p, PE p; nobodys r, nobody with the refusal r
--     dma_owners          DMAs, error messages and fatal ones
--     access_owners       loads and stores: badly formed ones too belong to the PE of their window
--     firmware_owners     clears, ends and priorities; a fence clear, which is nobody's and is obeyed; words that name no request
--     short_owners        tables that reason 1 refuses: a PE word that a table does not have is nobody's, and not PE 0's
--     owners              all of them
--     owners_hold         THE STATEMENT: the definition gives each row's owner; owners-answered: and its answer, which shows what it is a row of
-- Assumes nothing.
use Rattle.kinds.specs.Lookup.{Owner}
use Rattle.std.specs.Prelude.{◌≡◌, refl, List, [], ◌∷◌, ◌++◌, map, ℕ, ◌+◌, ◌-◌, ◌*◌, ◌^◌, replicate, Ok, Err}
use Rattle.kinds.specs.declared.answer.Answer.TheVariants.{Msi, Ones, Drop, Done}
use Rattle.kinds.specs.declared.answer.Reason.{Reason}
use Rattle.kinds.specs.declared.answer.Reason.TheVariants.{TableLength, BadRequest, UnknownRequester, DmaStopped, AddressClass, BadEntry, OutsideWindow, TableWord, MsiRefused, NoWindow, MmioStopped, BadFirmware, OutsideMemory, AboveInstalled}
use Rattle.kinds.specs.declared.request.Part.TheVariants.{Mmio, Dma, Record}
use Rattle.kinds.specs.declared.request.Request.TheVariants.{Error, Clear, End, Priority, Fatal, FenceClear, Unnamed}
use Rattle.profile.proofs.Opened.{opened}
use Rattle.profile.specs.Tables.{Tables, Live, interrupt_words}
use Rattle.profile.specs.Owner.{owner}
use Rattle.profile.proofs.Case.{Case, given, stated, installing, plain, short, windowed, state_row, calm, endpoints, ended, fencing, idle, endpoint, endpoint_at, stopped, empty, read, write, load, store, pass, row, keeps, refuses, freezes_at}
use Rattle.profile.proofs.DmaCases.{memory, fails, passes}
use Rattle.profile.proofs.MsiCases.{irq, no_good}
use Rattle.profile.proofs.AccessCases.{m32_i, m64, segments, on}

pub record Owning : Type 0 where
  pub case : Case
  pub owner : Owner

abbrev pub mine : (pe : ℕ) → Case → Owning
mine p c = record { case = c; owner = Ok (record { 0 = p }) }

abbrev pub nobodys : Reason → Case → Owning
nobodys r c = record { case = c; owner = Err r }

-- the plain bridge with other requesters
abbrev pub asking : (requesters : List ℕ) → Tables
asking l = record {
  sizes = plain.sizes;
  installed = plain.installed;
  requesters = l;
  entries = plain.entries;
  peers = plain.peers;
  windows = plain.windows;
  segments = plain.segments;
}

-- requester 7 is PE 3, which are R - 1 and N - 1; requester 6 has the PE word 65,535
abbrev pub last : Tables
last = asking (replicate 6 9 ++ (65535 ∷ 3 ∷ []))

-- requester r is nobody's: its DMA, its badly formed DMA, its error message, and a fatal one
abbrev pub unknown : Tables → (r : ℕ) → List Case
unknown f r =
    refuses f idle (read r 0x3ABC 4) UnknownRequester ∷ refuses f idle (read r 0x3ABC 0) BadRequest ∷ refuses f idle (Error r) UnknownRequester
    ∷ refuses f idle (Fatal r) UnknownRequester ∷ []

unfoldable pub dma_owners : List Owning
dma_owners =
    -- good: by pages, and an MSI
    map (mine 2) (passes plain memory 0x3ABC 0x12345ABC 1
    ∷ row plain empty idle (write 5 0x1000000000000070 4 3) (Msi 7 5 6) (irq 2 5 6 2)
    -- badly formed: lengths 0, 4,097 and 2 ^ 64 - 1, and over the end of a block
    ∷ refuses plain idle (read 5 0x3000 0) BadRequest
    ∷ refuses plain idle (read 5 0x3000 4097) BadRequest
    ∷ refuses plain stopped (write 5 0x1000000000000000 (2 ^ 64 - 1) 0) BadRequest
    ∷ refuses plain idle (read 5 0x3FFF 2) BadRequest
    -- 4, 5, 6, 7, 8, 9, 15 and 17
    ∷ refuses plain stopped (read 5 0x3ABC 4) DmaStopped
    ∷ fails plain empty 0x2000000000000000 AddressClass 5
    ∷ fails plain empty 0x0800000000003ABC BadEntry 6
    ∷ fails plain empty 0x200000 OutsideWindow 7
    ∷ freezes_at plain empty (read 5 0x3ABC 4) TableWord 1 8 0x3ABC 0x2018
    ∷ fails plain empty 0xFFFF0070 MsiRefused 9
    ∷ freezes_at plain [] (read 5 0x3ABC 4) OutsideMemory 0 15 0x3ABC 0x2018
    ∷ freezes_at (installing 0x12345ABF plain) memory (read 5 0x3ABC 4) AboveInstalled 1 17 0x3ABC 0
    -- error messages, also of a stopped PE
    ∷ row plain empty idle (Error 5) Done (endpoint 3 12 5)
    ∷ keeps plain empty (endpoint_at 3 8 0x3ABC 0x2018) (Error 5) Done
    -- fatal messages, also of a stopped PE
    ∷ row plain empty idle (Fatal 5) Done (fencing 1 (endpoints 4 calm) (2 ∷ 5 ∷ 6 ∷ 0 ∷ []))
    ∷ row plain empty stopped (Fatal 5) Done (fencing 1 (endpoints 4 (state_row 3 0 0)) (2 ∷ 5 ∷ 6 ∷ 0 ∷ [])) ∷ [])
    -- requester R - 1 and PE N - 1; PE words N and 65,535; requester R, and one that is not cut to 16 bits
    ++ map (mine 3) (refuses last stopped (read 7 0x3ABC 4) DmaStopped ∷ refuses last idle (read 7 0x3ABC 0) BadRequest ∷ [])
    ++ map (nobodys UnknownRequester) (unknown plain 7 ++ unknown last 6 ++ unknown plain 8 ++ unknown plain 0x10005)

-- M32; M64 windows of PEs 2, N - 1 and N, and one in mode 2
abbrev pub routed : Tables
routed = on (m64 0 0x40000000 0x10000000 1 2 (m64 1 0x50000000 0x10000000 1 3 (m64 2 0x60000000 0x10000000 1 4 (m64 3 0x70000000 0x10000000 2 9 m32_i))))

-- a load and a store: passed on, refused, or badly formed by widths 0, 3, 16 and 2 ^ 64 - 1 and by an address that is no multiple
abbrev pub passing : (address to pe : ℕ) → List Case
passing a b p = keeps routed empty idle (load a 4) (pass b p 0) ∷ keeps routed empty idle (store a 4) (pass b p 0) ∷ []

abbrev pub refusing : Tables → (address width : ℕ) → Reason → List Case
refusing f a w r = refuses f stopped (load a w) r ∷ refuses f stopped (store a w) r ∷ []

abbrev pub ill_formed : (address : ℕ) → List Case
ill_formed a =
    refusing routed a 0 BadRequest ++ refusing routed a 3 BadRequest ++ refusing routed a 16 BadRequest ++ refusing routed a (2 ^ 64 - 1) BadRequest
    ++ refusing routed (a + 1) 2 BadRequest

unfoldable pub access_owners : List Owning
access_owners =
    -- by M32 and by M64 in modes 1 and 2; badly formed there; 11
    map (mine 2) (passing 0x100200010 0x80200010 2 ++ passing 0x40000010 0x40000010 2 ++ passing 0x70200010 0x70200010 2
    ++ ill_formed 0x100200010 ++ ill_formed 0x40000010 ++ ill_formed 0x70200010
    ++ (keeps routed empty stopped (load 0x40000010 4) (Ones MmioStopped 0xFFFFFFFF)
    ∷ keeps routed empty stopped (store 0x40000010 4) (Drop MmioStopped) ∷ []))
    -- PE N - 1; no window, and PE N or above, badly formed too
    ++ map (mine 3) (passing 0x1003FFFFC 0x803FFFFC 3 ++ passing 0x50000000 0x50000000 3 ++ passing 0x703FFFFC 0x703FFFFC 3)
    ++ map (nobodys NoWindow) (refusing routed 0x3FFFFFF8 4 NoWindow ++ refusing routed 0x60000000 4 NoWindow ++ refusing routed 0x70400000 4 NoWindow
    ++ refusing routed 0x100400000 4 NoWindow ++ ill_formed 0x3FFFFFF0 ++ ill_formed 0x60000000)

unfoldable pub firmware_owners : List Owning
firmware_owners =
    -- clears of PE N - 1, of PE N, and of one that is not cut to 16 bits
    map (λ c. mine 3 (keeps plain empty idle (Clear 3 c) Done)) (Mmio ∷ Dma ∷ Record ∷ [])
    ++ map (λ c. nobodys BadFirmware (refuses plain idle (Clear 4 c) BadFirmware)) (Mmio ∷ Dma ∷ Record ∷ [])
    ++ map (λ c. nobodys BadFirmware (refuses plain idle (Clear 0x10002 c) BadFirmware)) (Mmio ∷ Dma ∷ Record ∷ [])
    -- interrupt M - 1: good, of a stopped PE, its priority set above 255, its record bad in another word
    ++ map (mine 2) (row plain empty (irq 2 5 6 3) (End 7) (Msi 7 5 6) (irq 2 5 6 2)
    ∷ row plain empty idle (Priority 7 255) Done (irq 2 5 255 0)
    ∷ keeps plain empty stopped (End 7) Done
    ∷ refuses plain idle (Priority 7 256) BadRequest
    ∷ refuses plain idle (Priority 7 (2 ^ 64 - 1)) BadRequest
    ∷ no_good (irq 2 (2 ^ 24) 6 0) 7 ++ no_good (irq 2 5 256 0) 7 ++ no_good (irq 2 5 6 4) 7)
    -- PE N - 1; interrupt 0, which is PE 0's
    ++ map (mine 3) (keeps plain empty (irq 3 5 6 0) (End 7) Done ∷ keeps plain empty (irq 3 5 6 0) (Priority 7 6) Done ∷ [])
    ++ map (mine 0) (keeps plain empty idle (End 0) Done ∷ keeps plain empty idle (Priority 0 0) Done ∷ [])
    -- interrupt M and one that is not cut; PE words N and one that is not cut; with a priority above 255 too; words that name no request
    ++ map (nobodys BadFirmware) (no_good idle 8 ++ no_good idle 0x10007 ++ no_good (irq 4 5 6 0) 7 ++ no_good (irq (2 + 2 ^ 16) 5 6 0) 7
    ++ (refuses plain idle (Priority 8 256) BadRequest ∷ refuses plain (irq 4 5 6 0) (Priority 7 256) BadRequest ∷ []))
    ++ (nobodys BadFirmware (keeps plain empty idle FenceClear Done) ∷ nobodys BadRequest (refuses plain idle Unnamed BadRequest) ∷ [])

-- interrupts of n words, all 2; M64 window 0, of 256 MiB, whose words from the mode on are w, and no words after it
abbrev pub listed : (n : ℕ) → Live
listed n = record { state = ended 0 (endpoints 4 calm); interrupts = replicate n 2 }

abbrev pub ending : (w : List ℕ) → Tables
ending w = windowed (0 ∷ 0 ∷ 0 ∷ 0x40000000 ∷ 0x10000000 ∷ w) segments

unfoldable pub short_owners : List Owning
short_owners =
    -- requesters that end before the requester; interrupts before the record; segments before the segment; windows before the PE word
    map (nobodys UnknownRequester) (refuses (asking (replicate 5 2)) idle (read 5 0x3ABC 4) TableLength ∷ refuses (asking []) idle (Error 0) TableLength
    ∷ refuses (asking []) idle (Fatal 0) TableLength ∷ [])
    ++ map (nobodys BadFirmware) (refuses plain (listed (7 * interrupt_words)) (End 7) TableLength ∷ refuses plain (listed 0) (Priority 0 6) TableLength ∷ [])
    ++ map (nobodys NoWindow) (refusing (windowed m32_i (2 ∷ 2 ∷ [])) 0x100200010 4 TableLength ++ refusing (ending (1 ∷ [])) 0x40200000 4 TableLength)
    -- tables with one word more; mode 2, which needs no PE word; a table that says nothing of the owner
    ++ map (mine 2) (refuses (asking (replicate 6 2)) idle (read 5 0x3ABC 4) TableLength ∷ refuses (asking (2 ∷ [])) idle (Error 0) TableLength
    ∷ refuses plain (listed (7 * interrupt_words + 1)) (End 7) TableLength ∷ refuses plain (listed 1) (Priority 0 6) TableLength
    ∷ refusing (windowed m32_i (2 ∷ 2 ∷ 2 ∷ [])) 0x100200010 4 TableLength ++ refusing (ending (1 ∷ 2 ∷ [])) 0x40200000 4 TableLength
    ++ refusing (ending (2 ∷ [])) 0x40200000 4 TableLength ++ (refuses short idle (read 5 0x3ABC 4) TableLength ∷ []))

unfoldable pub owners : List Owning
unfolding dma_owners access_owners firmware_owners short_owners
owners = dma_owners ++ access_owners ++ firmware_owners ++ short_owners

pub owners_hold : map (λ c. owner c.case.tables c.case.live c.case.request) owners ≡ map (λ c. c.owner) owners
unfolding opened owners
owners_hold = refl

pub owners-answered : map (λ c. given c.case) owners ≡ map (λ c. stated c.case) owners
unfolding given stated owners
owners-answered = refl
