-- Histories in numbers: what they say of four PEs, and that the same words are left.
--     shared              PE 1 is in bypass, and loads at 0x40000000 are its own; PE 2 has a page table, and lists PE 1, itself and PE numbers of N and above
--     start               the bridge with these tables and a state of zeros; refused: one that reason 1 refuses
--     Row                 a bridge, a list of requests on it, and the state that it leaves: the words of four PEs, and the fence word
--     freezes_of, clears_of, both, others  freezes of each kind; clears of each part among them; freezes as the failing PE and as a peer; what is neither
--     rows                all of them
--     says, words-said    what the history of a row says of the four PEs; THE STATEMENT over the rows: the words of the row
--     words_left          and these are the words that the list leaves, with the fence word
--     Acted, acts, acts_hold      single steps, and what they are to PEs 0, 1 and 2: a freeze with which record, a clear of which parts
--     bits_mmio, bits_dma each of the two bits of a stop word by itself
-- Assumes nothing.
use Rattle.kinds.specs.Lookup.{Owner}
use Rattle.std.specs.Prelude.{◌≡◌, refl, Bool, true, false, List, [], ◌∷◌, ◌++◌, map, ℕ, ◌-◌, ◌^◌, replicate, Ok, Err}
use Rattle.std.proofs.Math.Option.{Option, none, some}
use Rattle.kinds.specs.Number.{no_word}
use Rattle.kinds.specs.declared.answer.Reason.TheVariants.{TableWord, FrozenAsPeer, BadFirmware}
use Rattle.kinds.specs.declared.number.PeNumber.{PeNumber}
use Rattle.kinds.specs.declared.outcome.Effect.{Effect}
use Rattle.kinds.specs.declared.outcome.Effect.TheVariants.{Keep, Freeze, Release, Interrupt, Fence}
use Rattle.kinds.specs.declared.outcome.ErrorRecord.{ErrorRecord}
use Rattle.kinds.specs.declared.request.Part.TheVariants.{Mmio, Dma, Record}
use Rattle.kinds.specs.declared.request.Request.{Request}
use Rattle.kinds.specs.declared.request.Request.TheVariants.{Error, Clear, End, Priority, Fatal, FenceClear}
use Rattle.profile.specs.Tables.{Tables, peer_words}
use Rattle.profile.specs.Freeze.{mmio_stopped, dma_stopped}
use Rattle.profile.proofs.Opened.{opened}
use Rattle.profile.proofs.Case.{short, word_row, state_row, calm, ended, idle, read, write, load, store}
use Rattle.profile.proofs.FreezeCases.{vector, listing, led}
use Rattle.profile.proofs.AccessCases.{closed, m64}
use Rattle.isolation.specs.Isolation.{left}
use Rattle.isolation.specs.View.{Bridge}
use Rattle.history.specs.History.{Step, history, freeze_of, clears, stop_bits, stop_of, record_of}

abbrev pub shared : Tables
shared = record {
  sizes = listing.sizes;
  installed = listing.installed;
  requesters = listing.requesters;
  entries = listing.entries;
  peers = (vector (2 ^ 64 - 10) 1 0 0).peers;
  windows = m64 0 0x40000000 0x10000000 1 1 closed;
  segments = listing.segments;
}

abbrev pub start : Bridge
start = record { tables = shared; memory = led; live = idle }

abbrev pub refused : Bridge
refused = record { tables = short; memory = led; live = idle }

abbrev pub pe : ℕ → PeNumber
pe k = record { 0 = k }

-- a DMA of PE 2 that a table word forbids: 8, with the word at 0x5018
abbrev pub forbidden : Request
forbidden = read 5 0x3ABC 4

-- an MSI of PE 2, interrupt 7
abbrev pub presented : Request
presented = write 5 0x1000000000000070 4 0

pub record Row : Type 0 where
  pub bridge : Bridge
  pub requests : List Request
  pub words : List ℕ
  pub fence : ℕ

abbrev pub row : List Request → (a b c d : List ℕ) → Row
row l a b c d = record { bridge = start; requests = l; words = a ++ b ++ c ++ d; fence = 0 }

-- PE 2's words, the others' 0
abbrev pub alone : List Request → (stop reason value word : ℕ) → Row
alone l w r v a = row l calm calm (word_row w r v a) calm

-- those of PEs 1 and 2
abbrev pub pair : List Request → (a b : List ℕ) → Row
pair l a b = row l calm a b calm

unfoldable pub freezes_of : List Row
freezes_of =
    alone [] 0 0 0 0
    -- 5, 6, 7, 8, 9, 15 and 17, of the failing PE alone, although it lists PE 1
    ∷ alone (read 5 0x2000000000000000 4 ∷ []) 3 5 0x2000000000000000 0
    ∷ alone (read 5 0x800000000003ABC 4 ∷ []) 3 6 0x800000000003ABC 0
    ∷ alone (read 5 0x200000 4 ∷ []) 3 7 0x200000 0
    ∷ alone (forbidden ∷ []) 3 8 0x3ABC 0x5018
    ∷ alone (read 5 0xFFFF0070 4 ∷ []) 3 9 0xFFFF0070 0
    ∷ alone (read 5 0x28000 4 ∷ []) 3 15 0x28000 0x5140
    ∷ alone (read 5 0x4000 4 ∷ []) 3 17 0x4000 0
    -- 12, with the peers; of a PE that lists nobody
    ∷ pair (Error 5 ∷ []) (state_row 3 13 2) (state_row 3 12 5)
    ∷ row (Error 6 ∷ []) calm calm calm (state_row 3 12 6)
    ∷ []

unfoldable pub clears_of : List Row
clears_of =
    -- one part, two, and all three
    alone (forbidden ∷ Clear 2 Mmio ∷ []) 2 8 0x3ABC 0x5018
    ∷ alone (forbidden ∷ Clear 2 Dma ∷ []) 1 8 0x3ABC 0x5018
    ∷ alone (forbidden ∷ Clear 2 Record ∷ []) 3 0 0 0
    ∷ alone (forbidden ∷ Clear 2 Dma ∷ Clear 2 Record ∷ []) 1 0 0 0
    ∷ alone (forbidden ∷ Clear 2 Record ∷ Clear 2 Mmio ∷ []) 2 0 0 0
    ∷ alone (forbidden ∷ Clear 2 Mmio ∷ Clear 2 Dma ∷ []) 0 8 0x3ABC 0x5018
    ∷ alone (forbidden ∷ Clear 2 Record ∷ Clear 2 Dma ∷ Clear 2 Mmio ∷ []) 0 0 0 0
    -- before the freeze; twice; of another PE; of no PE
    ∷ alone (Clear 2 Mmio ∷ Clear 2 Dma ∷ Clear 2 Record ∷ forbidden ∷ []) 3 8 0x3ABC 0x5018
    ∷ alone (forbidden ∷ Clear 2 Dma ∷ Clear 2 Dma ∷ []) 1 8 0x3ABC 0x5018
    ∷ alone (forbidden ∷ Clear 1 Mmio ∷ Clear 1 Dma ∷ Clear 1 Record ∷ Clear 4 Dma ∷ []) 3 8 0x3ABC 0x5018
    -- freezes on both sides of a clear: the bit is set again, and the record is of the first since its own clear
    ∷ alone (forbidden ∷ Clear 2 Dma ∷ read 5 0x200000 4 ∷ []) 3 8 0x3ABC 0x5018
    ∷ alone (forbidden ∷ Clear 2 Dma ∷ Clear 2 Record ∷ read 5 0x200000 4 ∷ []) 3 7 0x200000 0
    ∷ alone (forbidden ∷ Clear 2 Record ∷ Clear 2 Dma ∷ read 5 0x200000 4 ∷ Clear 2 Dma ∷ forbidden ∷ Clear 2 Mmio ∷ []) 2 7 0x200000 0
    ∷ []

unfoldable pub both : List Row
both =
    -- PE 2 has a record of its own when its message stops it again, and PE 1 has none
    pair (forbidden ∷ Error 5 ∷ []) (state_row 3 13 2) (word_row 3 8 0x3ABC 0x5018)
    -- PE 1 is frozen as a peer, then by its own message: the first record stays; the other way round
    ∷ pair (Error 5 ∷ Error 1 ∷ []) (state_row 3 13 2) (state_row 3 12 5)
    ∷ pair (Error 1 ∷ Error 5 ∷ []) (state_row 3 12 1) (state_row 3 12 5)
    -- its record is cleared between the two, or a bit
    ∷ pair (Error 5 ∷ Clear 1 Record ∷ Error 1 ∷ []) (state_row 3 12 1) (state_row 3 12 5)
    ∷ pair (Error 1 ∷ Clear 1 Record ∷ Clear 1 Mmio ∷ Error 5 ∷ Clear 1 Dma ∷ []) (state_row 1 13 2) (state_row 3 12 5)
    -- a peer is released, and the failing PE is not; a refusal of PE 2 then leaves PE 1 running
    ∷ pair (Error 5 ∷ Clear 1 Dma ∷ Clear 1 Record ∷ Clear 1 Mmio ∷ Clear 2 Dma ∷ forbidden ∷ []) calm (state_row 3 12 5)
    ∷ []

unfoldable pub others : List Row
others =
    -- 2, 3, 10 and 14
    alone (read 5 0x3ABC 0 ∷ read 0 0x3ABC 4 ∷ Error 7 ∷ load 0x1000 4 ∷ Clear 4 Record ∷ []) 0 0 0 0
    -- 4 and 11 of stopped PEs are no freezes: the bit that was cleared stays clear
    ∷ pair (Error 5 ∷ Clear 1 Mmio ∷ read 1 0x1000000 4 ∷ []) (state_row 2 13 2) (state_row 3 12 5)
    ∷ pair (Error 5 ∷ Clear 1 Dma ∷ load 0x40000000 4 ∷ store 0x40000000 4 ∷ []) (state_row 1 13 2) (state_row 3 12 5)
    -- a DMA that passes, and a load; MSIs of PE 2 that are presented and held, an end, and a priority of 255
    ∷ pair (read 1 0x1000000 4 ∷ load 0x40000000 4 ∷ []) calm calm
    ∷ pair (presented ∷ presented ∷ End 7 ∷ Priority 7 255 ∷ []) calm calm
    -- a fatal message is no freeze, a fence clear no clear, and 18 is neither
    ∷ record { bridge = start; requests = Fatal 5 ∷ forbidden ∷ Error 5 ∷ []; words = calm ++ calm ++ calm ++ calm; fence = 1 }
    ∷ alone (forbidden ∷ Fatal 5 ∷ Error 5 ∷ FenceClear ∷ []) 3 8 0x3ABC 0x5018
    ∷ alone (forbidden ∷ Fatal 1 ∷ Clear 2 Dma ∷ FenceClear ∷ []) 1 8 0x3ABC 0x5018
    -- reason 1
    ∷ record { bridge = refused; requests = forbidden ∷ Error 5 ∷ Clear 2 Dma ∷ Fatal 5 ∷ []; words = calm ++ calm ++ calm ++ calm; fence = 0 }
    ∷ []

unfoldable pub rows : List Row
unfolding freezes_of clears_of both others
rows = freezes_of ++ clears_of ++ both ++ others

abbrev pub says_of : Tables → List Step → PeNumber → List ℕ
says_of f h k = stop_of f k h ∷ record_of f k h

abbrev pub says : Row → List ℕ
says r =
    let f = r.bridge.tables in
    let h = history r.bridge r.requests in
    says_of f h (pe 0) ++ says_of f h (pe 1) ++ says_of f h (pe 2) ++ says_of f h (pe 3)

pub words-said : map says rows ≡ map (λ r. r.words) rows
unfolding opened rows
words-said = refl

pub words_left : map (λ r. (left r.bridge r.requests).state) rows ≡ map (λ r. ended r.fence r.words) rows
unfolding opened rows
words_left = refl

-- ---- single steps

-- an effect of PE 1, of two PEs, in whose vector every bit is set; or of nobody
pub record Acted : Type 0 where
  pub step : Step
  -- of PEs 0, 1 and 2
  pub frozen : List (Option ErrorRecord)
  -- of PE 1: MMIO, DMA, record
  pub cleared : List Bool

abbrev pub two : Tables
two = record {
  sizes = record { pes = 2; interrupts = 0; requesters = 0 };
  installed = 0;
  requesters = [];
  entries = [];
  peers = replicate peer_words 0 ++ replicate peer_words (2 ^ 64 - 1);
  windows = [];
  segments = [];
}

abbrev pub own8 : ErrorRecord
own8 = record { reason = TableWord; value = 7; word = record { 0 = 0x2018 } }

abbrev pub peer13 : ErrorRecord
peer13 = record { reason = FrozenAsPeer; value = 1; word = no_word }

abbrev pub acted : Owner → Effect → (frozen : List (Option ErrorRecord)) → (cleared : List Bool) → Acted
acted o x r c = record { step = record { owner = o; effect = x }; frozen = r; cleared = c }

abbrev pub nobody_frozen : List (Option ErrorRecord)
nobody_frozen = none ∷ none ∷ none ∷ []

abbrev pub uncleared : List Bool
uncleared = false ∷ false ∷ false ∷ []

unfoldable pub acts : List Acted
acts =
    -- with its peers: PE 2 is N, and no freeze of it stands there; alone
    acted (Ok (pe 1)) (Freeze own8 true) (some peer13 ∷ some own8 ∷ none ∷ []) uncleared
    ∷ acted (Ok (pe 1)) (Freeze own8 false) (none ∷ some own8 ∷ none ∷ []) uncleared
    -- each part, and of another PE
    ∷ acted (Ok (pe 1)) (Release Mmio) nobody_frozen (true ∷ false ∷ false ∷ [])
    ∷ acted (Ok (pe 1)) (Release Dma) nobody_frozen (false ∷ true ∷ false ∷ [])
    ∷ acted (Ok (pe 1)) (Release Record) nobody_frozen (false ∷ false ∷ true ∷ [])
    ∷ acted (Ok (pe 0)) (Release Mmio) nobody_frozen uncleared
    -- what is neither, and what is nobody's
    ∷ acted (Ok (pe 1)) Keep nobody_frozen uncleared
    ∷ acted (Ok (pe 1)) (Interrupt 0 1 2) nobody_frozen uncleared
    ∷ acted (Ok (pe 1)) (Fence true) nobody_frozen uncleared
    ∷ acted (Err BadFirmware) (Fence false) nobody_frozen uncleared
    ∷ acted (Err BadFirmware) (Freeze own8 true) nobody_frozen uncleared
    ∷ acted (Err BadFirmware) (Release Mmio) nobody_frozen uncleared
    ∷ []

pub acts_hold : map (λ a. acted a.step.owner a.step.effect (map (λ k. freeze_of two (pe k) a.step) (0 ∷ 1 ∷ 2 ∷ [])) (map (λ c. clears c (pe 1) a.step) (Mmio ∷ Dma ∷ Record ∷ []))) acts ≡ acts
unfolding acts
acts_hold = refl

pub bits_mmio : (m d : Bool) → mmio_stopped (stop_bits m d) ≡ m
bits_mmio false false = refl
bits_mmio true false = refl
bits_mmio false true = refl
bits_mmio true true = refl

pub bits_dma : (m d : Bool) → dma_stopped (stop_bits m d) ≡ d
bits_dma false false = refl
bits_dma true false = refl
bits_dma false true = refl
bits_dma true true = refl
