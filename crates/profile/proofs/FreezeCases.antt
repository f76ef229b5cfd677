-- Error messages, freezing alone and with peers, and release by firmware.
--     messages            1 before 3, and 3; a message of a PE that is stopped is obeyed
--     peer_cases          which PEs are peers, and what they get
--     refusals            each of the seven reasons that freeze, on tables where the PE lists all: no other PE gets a stop bit or a record, and a peer is
--                         served as before. An error message there stops all
--     records             what stands in a state already: error records, senseless words, upper bits of stop words
--     wide_cases          256 PEs: the words and bits of a peer vector; no interrupt at all
--     clears              each part alone; 14
--     freeze_cases        all of them
--     Acting              an effect at a PE, done directly, on tables that reason 1 would refuse too; freezing_by, freezing: of a freeze
--     bounds              states of more words than N PEs have, and of fewer; a freeze alone; a table word and peers
--     bounds_hold         THE STATEMENT over them: the definition leaves what the row says
--     misfits             freezes that go with no such answer: by the flag, by the reason, by both, or by the table word
--     misfits_hold        none of them fits
--     miswords            answers that name a table word under another reason; miswords_hold: none of them is worded
-- Assumes nothing.
use Rattle.std.specs.Prelude.{◌≡◌, refl, Bool, true, false, List, [], ◌∷◌, ◌++◌, map, ℕ, ◌+◌, ◌-◌, ◌*◌, ◌^◌, replicate}
use Rattle.kinds.specs.Answer.{refuse}
use Rattle.kinds.specs.Number.{no_word}
use Rattle.kinds.specs.declared.answer.Answer.{Answer}
use Rattle.kinds.specs.declared.answer.Answer.TheVariants.{Done}
use Rattle.kinds.specs.declared.answer.Reason.{Reason}
use Rattle.kinds.specs.declared.answer.Reason.TheVariants.{TableLength, UnknownRequester, DmaStopped, AddressClass, BadEntry, OutsideWindow, TableWord, MsiRefused, ErrorMessage, BadFirmware, OutsideMemory, AboveInstalled}
use Rattle.kinds.specs.declared.number.PeNumber.{PeNumber}
use Rattle.kinds.specs.declared.outcome.Effect.{Effect}
use Rattle.kinds.specs.declared.outcome.Effect.TheVariants.{Freeze}
use Rattle.kinds.specs.declared.outcome.ErrorRecord.{ErrorRecord}
use Rattle.kinds.specs.declared.outcome.Outcome.{Outcome}
use Rattle.kinds.specs.declared.request.Part.{Part}
use Rattle.kinds.specs.declared.request.Part.TheVariants.{Mmio, Dma, Record}
use Rattle.kinds.specs.declared.request.Request.TheVariants.{Error, Clear}
use Rattle.profile.proofs.Opened.{opened}
use Rattle.profile.specs.Tables.{Tables, Live, entry_words, peer_words, window_words, segment_count}
use Rattle.profile.specs.Step.{act}
use Rattle.profile.proofs.AnswersLaws.{worded, fits}
use Rattle.profile.proofs.Case.{Case, gib4, none, peered, plain, short, wide, word_row, state_row, calm, endpoints, ended, quiet, idle, endpoint_at, endpoint, states, stopped, empty, words, read, write, pass, refuse_at, row, keeps, refuses}

-- PE 2's peer vector, the others' empty
abbrev pub vector : (a b c d : ℕ) → Tables
vector a b c d = peered (replicate (2 * peer_words) 0 ++ (a ∷ b ∷ c ∷ d ∷ replicate peer_words 0))

abbrev pub alone : Tables
alone = vector 0 0 0 0

-- an error message from requester 5, PE 2's
abbrev pub message : Tables → (met left : Live) → Case
message f s t = row f empty s (Error 5) Done t

unfoldable pub messages : List Case
messages =
    -- 1 before 3; 3: requester R, PE words 9 and N, a requester not cut to 16 bits
    refuses short idle (Error 8) TableLength
    ∷ refuses alone stopped (Error 8) UnknownRequester
    ∷ refuses alone stopped (Error 0) UnknownRequester
    ∷ refuses alone stopped (Error 7) UnknownRequester
    ∷ refuses alone stopped (Error 0x10005) UnknownRequester
    -- obeyed, also when stopped: a peer that had been released is stopped again
    ∷ message alone idle (endpoint 3 12 5)
    ∷ message alone (endpoint_at 3 8 0x3ABC 0x2018) (endpoint_at 3 8 0x3ABC 0x2018)
    ∷ message (vector 2 0 0 0) (endpoint_at 3 8 0x3ABC 0x2018) (states calm (state_row 3 13 2) (word_row 3 8 0x3ABC 0x2018) calm)
    ∷ []

unfoldable pub peer_cases : List Case
peer_cases =
    -- PEs 1 and 3; 0 and 3; PE 2 in its own vector counts as the failing one
    message (vector 10 0 0 0) idle (states calm (state_row 3 13 2) (state_row 3 12 5) (state_row 3 13 2))
    ∷ message (vector 9 0 0 0) idle (states (state_row 3 13 2) calm (state_row 3 12 5) (state_row 3 13 2))
    ∷ message (vector 4 0 0 0) idle (endpoint 3 12 5)
    ∷ message (vector 6 0 0 0) idle (states calm (state_row 3 13 2) (state_row 3 12 5) calm)
    -- bits for N and above are ignored
    ∷ message (vector (2 ^ 64 - 16) (2 ^ 64 - 1) (2 ^ 64 - 1) (2 ^ 64 - 1)) idle (endpoint 3 12 5)
    ∷ message (vector (2 ^ 64 - 1) (2 ^ 64 - 1) 0 1) idle (states (state_row 3 13 2) (state_row 3 13 2) (state_row 3 12 5) (state_row 3 13 2))
    -- a peer of another PE is none; a peer's peers are none
    ∷ message (peered (4 ∷ 0 ∷ 0 ∷ 0 ∷ 4 ∷ 0 ∷ 0 ∷ 0 ∷ 0 ∷ 0 ∷ 0 ∷ 0 ∷ 4 ∷ 0 ∷ 0 ∷ 0 ∷ [])) idle (endpoint 3 12 5)
    ∷ message (peered (8 ∷ 0 ∷ 0 ∷ 0 ∷ 1 ∷ 0 ∷ 0 ∷ 0 ∷ 2 ∷ 0 ∷ 0 ∷ 0 ∷ 4 ∷ 0 ∷ 0 ∷ 0 ∷ [])) idle
    (states calm (state_row 3 13 2) (state_row 3 12 5) calm)
    ∷ []

-- PE 2, whose vector lists all four PEs, has a table whose word 4 leads above the installed size and whose words from 40 on are outside memory, and no
-- second record; PE 1 is in bypass
abbrev pub listing : Tables
listing = record {
  sizes = alone.sizes;
  installed = alone.installed;
  requesters = alone.requesters;
  entries = replicate entry_words 0 ++ ((1 ∷ 2 ∷ 1 ∷ 0 ∷ none) ++ ((0x5000 ∷ 1 ∷ 1 ∷ 1 ∷ none) ++ replicate entry_words 0));
  peers = (vector 15 0 0 0).peers;
  windows = alone.windows;
  segments = alone.segments;
}

abbrev pub led : List ℕ
led = words 0x5020 (gib4 + 3) empty

-- PEs 0 and 1 have an empty record, PE 3 has one that firmware did not clear; none of them is stopped
abbrev pub running : (failing : List ℕ) → Live
running r = states calm calm r (state_row 4 8 0x1000)

-- a refusal after n words, by the word at w, freezes PE 2 alone, and PE 1 is served after it as before
abbrev pub stops_one : (address : ℕ) → Reason → (words number word : ℕ) → List Case
stops_one a r n k w =
    row listing led (running calm) (read 5 a 4) (refuse_at r n w) (running (word_row 3 k a w))
    ∷ keeps listing led (running (word_row 3 k a w)) (read 1 0x1000000 4) (pass 0x1000000 1 0)
    ∷ []

unfoldable pub refusals : List Case
refusals =
    -- 5, 6, 7, 8, 9, 15 and 17
    stops_one 0x2000000000000000 AddressClass 0 5 0
    ++ stops_one 0x800000000003ABC BadEntry 0 6 0
    ++ stops_one 0x200000 OutsideWindow 0 7 0
    ++ stops_one 0x3ABC TableWord 1 8 0x5018
    ++ stops_one 0xFFFF0070 MsiRefused 0 9 0
    ++ stops_one 0x28000 OutsideMemory 0 15 0x5140
    ++ stops_one 0x4000 AboveInstalled 1 17 0
    -- an error message on the same tables stops every PE, and PE 1 is refused then
    ++ (row listing empty (running calm) (Error 5) Done
    (states (state_row 3 13 2) (state_row 3 13 2) (state_row 3 12 5) (state_row 7 8 0x1000))
    ∷ keeps listing empty (states (state_row 3 13 2) (state_row 3 13 2) (state_row 3 12 5) (state_row 7 8 0x1000)) (read 1 0x1000000 4) (refuse DmaStopped)
    ∷ [])

unfoldable pub records : List Case
records =
    -- a record that is not empty stays, whatever its reason; an empty one is written whatever its value
    message alone (endpoint 0 99 7) (endpoint 3 99 7)
    ∷ message alone (endpoint 1 13 0) (endpoint 3 13 0)
    ∷ message alone (endpoint 0 0 77) (endpoint 3 12 5)
    -- all words of it: of a message and of a peer, of a refusal with no table word, and with one
    ∷ message alone (endpoint_at 0 99 7 0x2018) (endpoint_at 3 99 7 0x2018)
    ∷ message (vector 2 0 0 0) (states calm (word_row 0 0 7 9) (word_row 0 0 7 9) calm) (states calm (state_row 3 13 2) (state_row 3 12 5) calm)
    ∷ row plain empty (endpoint_at 0 0 7 9) (read 5 0x200000 1) (refuse OutsideWindow) (endpoint 3 7 0x200000)
    ∷ row plain empty (endpoint_at 0 0 7 9) (read 5 0x3ABC 1) (refuse_at TableWord 1 0x2018) (endpoint_at 3 8 0x3ABC 0x2018)
    ∷ row plain empty (endpoint_at 0 7 7 9) (read 5 0x3ABC 1) (refuse_at TableWord 1 0x2018) (endpoint_at 3 7 7 9)
    -- a peer with a record keeps it and is stopped
    ∷ message (vector 2 0 0 0) (states calm (word_row 0 8 0x1000 0x2018) calm calm)
    (states calm (word_row 3 8 0x1000 0x2018) (state_row 3 12 5) calm)
    -- the bits of a stop word above the lowest two stay, of the failing PE and of a peer
    ∷ message alone (endpoint 0xFC 0 0) (endpoint 0xFF 12 5)
    ∷ message alone (endpoint (2 ^ 64 - 3) 0 0) (endpoint (2 ^ 64 - 1) 12 5)
    ∷ message (vector 2 0 0 0) (states (state_row 4 0 0) (state_row 0x1000 0 0) (state_row 6 0 0) (state_row 9 99 9))
    (states (state_row 4 0 0) (state_row 0x1003 13 2) (state_row 7 12 5) (state_row 9 99 9))
    ∷ []

-- the first PE's vector has PEs 1, 63, 64, 129 and 255, the last one's PEs 0, 65, 130 and 195
abbrev pub far : Tables
far =
    wide 256 (((2 + 2 ^ 63) ∷ 1 ∷ 2 ∷ 2 ^ 63 ∷ []) ++ replicate (254 * peer_words) 0 ++ (1 ∷ 2 ∷ 4 ∷ 8 ∷ [])) (replicate window_words 0) (replicate segment_count 0)

-- these words of the state, and no interrupt; the words of the PEs, and the fence word 0
abbrev pub bare : List ℕ → Live
bare l = record { state = l; interrupts = [] }

abbrev pub far_left : List ℕ → Live
far_left l = bare (ended 0 l)

unfoldable pub wide_cases : List Case
wide_cases =
    row far empty (quiet 256) (Error 0) Done
    (far_left (state_row 3 12 0 ++ state_row 3 13 0 ++ endpoints 61 calm ++ endpoints 2 (state_row 3 13 0) ++ endpoints 64 calm ++ state_row 3 13 0
    ++ endpoints 125 calm ++ state_row 3 13 0))
    ∷ row far empty (quiet 256) (Error 1) Done
    (far_left (state_row 3 13 255 ++ endpoints 64 calm ++ state_row 3 13 255 ++ endpoints 64 calm ++ state_row 3 13 255 ++ endpoints 64 calm
    ++ state_row 3 13 255 ++ endpoints 59 calm ++ state_row 3 12 1))
    -- no interrupt: number 0 is not below M
    ∷ row (wide 1 (replicate peer_words 0) (replicate window_words 0) (replicate segment_count 0)) empty (quiet 1) (write 0 0x1000000000000000 4 0) (refuse MsiRefused)
    (far_left (state_row 3 9 0x1000000000000000))
    ∷ []

-- one part of PE 2 cleared
abbrev pub clear : Part → (met left : Live) → Case
clear c s t = row (vector (2 ^ 64 - 1) 0 0 0) empty s (Clear 2 c) Done t

unfoldable pub clears : List Case
clears =
    -- each alone, and the bits above the lowest two stay
    clear Mmio (endpoint_at 7 8 0x55 0x2018) (endpoint_at 6 8 0x55 0x2018)
    ∷ clear Dma (endpoint_at 7 8 0x55 0x2018) (endpoint_at 5 8 0x55 0x2018)
    ∷ clear Record (endpoint_at 7 8 0x55 0x2018) (endpoint 7 0 0)
    ∷ clear Mmio (endpoint (2 ^ 64 - 1) 99 0) (endpoint (2 ^ 64 - 2) 99 0)
    ∷ clear Dma (endpoint (2 ^ 64 - 1) 99 0) (endpoint (2 ^ 64 - 3) 99 0)
    ∷ clear Record (endpoint 2 99 7) (endpoint 2 0 0)
    -- what is clear already; a value and a table word beside an empty reason become 0
    ∷ clear Mmio (endpoint 6 0 0) (endpoint 6 0 0)
    ∷ clear Dma (endpoint 5 0 0) (endpoint 5 0 0)
    ∷ clear Record (endpoint_at 3 0 9 7) (endpoint 3 0 0)
    -- no other PE is released
    ∷ clear Dma stopped (states (state_row 3 0 0) (state_row 3 0 0) (state_row 1 0 0) (state_row 3 0 0))
    -- 1 before 14; 14: PE N, and a PE not cut to 16 bits
    ∷ refuses short stopped (Clear 4 Mmio) TableLength
    ∷ refuses alone stopped (Clear 4 Mmio) BadFirmware
    ∷ refuses alone stopped (Clear 4 Dma) BadFirmware
    ∷ refuses alone stopped (Clear 4 Record) BadFirmware
    ∷ refuses alone stopped (Clear 0x10002 Dma) BadFirmware
    ∷ []

unfoldable pub freeze_cases : List Case
unfolding messages peer_cases refusals records wide_cases clears
freeze_cases = messages ++ peer_cases ++ refusals ++ records ++ wide_cases ++ clears

-- ---- the effect alone

pub record Acting : Type 0 where
  pub pes : ℕ
  pub peers : List ℕ
  pub pe : PeNumber
  pub effect : Effect
  pub met : List ℕ
  pub left : List ℕ

-- PE 1, in whose vector every bit is set, is frozen with this record, with its peers or alone; by a message of requester 5
abbrev pub freezing_by : ErrorRecord → (pes : ℕ) → (peers : Bool) → (met left : List ℕ) → Acting
freezing_by e n b l k = record {
  pes = n;
  peers = replicate peer_words 0 ++ replicate peer_words (2 ^ 64 - 1);
  pe = record { 0 = 1 };
  effect = Freeze e b;
  met = l;
  left = k;
}

abbrev pub freezing : (pes : ℕ) → (peers : Bool) → (met left : List ℕ) → Acting
freezing = freezing_by (record { reason = ErrorMessage; value = 5; word = no_word })

unfoldable pub bounds : List Acting
bounds =
    -- the words of a PE more than N, of two, and a word of one
    freezing 2 true (endpoints 3 calm) (state_row 3 13 1 ++ state_row 3 12 5 ++ calm)
    ∷ freezing 2 true (endpoints 4 (state_row 4 0 9)) (state_row 7 13 1 ++ state_row 7 12 5 ++ endpoints 2 (state_row 4 0 9))
    ∷ freezing 2 true (endpoints 2 calm ++ (4 ∷ [])) (state_row 3 13 1 ++ state_row 3 12 5 ++ (4 ∷ []))
    -- the failing PE is N
    ∷ freezing 1 true (endpoints 2 calm) (state_row 3 13 1 ++ calm)
    -- fewer words than N PEs have
    ∷ freezing 4 true (calm ++ (4 ∷ [])) (state_row 3 13 1 ++ (7 ∷ []))
    -- alone, whatever bits are set
    ∷ freezing 2 false (endpoints 3 calm) (calm ++ state_row 3 12 5 ++ calm)
    ∷ freezing 256 false (endpoints 256 calm) (calm ++ state_row 3 12 5 ++ endpoints 254 calm)
    -- a table word is the failing PE's, and no peer's
    ∷ freezing_by (record { reason = TableWord; value = 5; word = record { 0 = 0x2018 } }) 2 true (endpoints 2 calm) (state_row 3 13 1 ++ word_row 3 8 5 0x2018)
    ∷ []

pub bounds_hold : map (λ c. act c.pes c.peers c.pe c.effect (bare c.met)) bounds ≡ map (λ c. bare c.left) bounds
unfolding opened bounds
bounds_hold = refl

-- ---- answers and freezes

-- a freeze of a reason and a table word, with peers or alone, beside an answer
abbrev pub beside_at : Answer → Reason → (word : ℕ) → (peers : Bool) → Outcome
beside_at a r w b = record { answer = a; effect = Freeze (record { reason = r; value = 0; word = record { 0 = w } }) b }

abbrev pub beside : Answer → Reason → (peers : Bool) → Outcome
beside a r b = beside_at a r 0 b

unfoldable pub misfits : List Outcome
misfits =
    -- a refusal with peers, under its own reason and under 12
    beside (refuse BadEntry) BadEntry true
    ∷ beside (refuse BadEntry) ErrorMessage true
    -- an error message alone, and with peers under another reason
    ∷ beside Done ErrorMessage false
    ∷ beside Done BadEntry true
    -- a refusal alone under another reason
    ∷ beside (refuse BadEntry) OutsideWindow false
    -- a table word in the record alone, in the answer alone, and another one in each
    ∷ beside_at (refuse TableWord) TableWord 0x2018 false
    ∷ beside_at (refuse_at TableWord 1 0x2018) TableWord 0 false
    ∷ beside_at (refuse_at TableWord 1 0x2018) TableWord 0x2010 false
    ∷ beside_at Done ErrorMessage 0x2018 true
    ∷ []

-- answers that name a table word under another reason, or under none
unfoldable pub miswords : List Answer
miswords = map (λ r. refuse_at r 0 0x2018) (TableLength ∷ UnknownRequester ∷ AddressClass ∷ BadEntry ∷ OutsideWindow ∷ MsiRefused ∷ BadFirmware ∷ AboveInstalled ∷ [])

pub miswords_hold : map worded miswords ≡ map (λ a. false) miswords
unfolding worded miswords
miswords_hold = refl

pub misfits_hold : map (λ o. fits o.answer o.effect) misfits ≡ map (λ o. false) misfits
unfolding misfits
misfits_hold = refl
