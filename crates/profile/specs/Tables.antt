-- 01, 'Lent tables': the tables, their sizes, and reason 1.
--     Tables              what is fixed during a sequence, memory apart: the sizes N, M and R, the installed size in bytes, requesters, translation
--                         entries, peers, windows, segments
--     Live                what is written: state and interrupts
--     lengths f n s       the lengths of all lent tables, n being that of memory
--     sized z l           not reason 1: no number and no length is off the table of 01, which has no range for the installed size. Its tests: limits z,
--                         of N, M and R; dma_lengths z l and
--                         other_lengths z l, of the tables that a DMA reads before its walk and memory, and of the others
--     entry_words ..      the words of a PE's translation entries, of one record, of a peer vector, of an interrupt, of a PE's state; of the windows
--     fence_words         the words of the state after those of the PEs: the fence word, which is no PE's; state_length n: the words of the state of n PEs
--     most_pes ..         the limits of N, M, R and memory
--     named r n k         the PE with number k, or nobody with refusal r: k is a PE where it is below N
-- Assumes nothing.
use Rattle.kinds.specs.Lookup.{Owner}
use Rattle.std.specs.Prelude.{Bool, cond, List, [], ◌∷◌, ◌++◌, ℕ, ◌+◌, ◌*◌, leb, ltb, eqb, length, Ok, Err}
use Rattle.kinds.specs.Tests.{all}
use Rattle.kinds.specs.declared.answer.Reason.{Reason}
use Rattle.kinds.specs.declared.record.Sizes.{Sizes}
use Rattle.kinds.specs.declared.record.Lengths.{Lengths}

pub record Tables : Type 0 where
  pub sizes : Sizes
  pub installed : ℕ
  pub requesters : List ℕ
  pub entries : List ℕ
  pub peers : List ℕ
  pub windows : List ℕ
  pub segments : List ℕ

pub record Live : Type 0 where
  pub state : List ℕ
  pub interrupts : List ℕ

abbrev pub entry_words : ℕ
entry_words = 8

abbrev pub record_words : ℕ
record_words = 4

abbrev pub peer_words : ℕ
peer_words = 4

abbrev pub interrupt_words : ℕ
interrupt_words = 4

abbrev pub window_words : ℕ
window_words = 67

abbrev pub segment_count : ℕ
segment_count = 256

abbrev pub state_words : ℕ
state_words = 4

abbrev pub fence_words : ℕ
fence_words = 1

abbrev pub state_length : (pes : ℕ) → ℕ
state_length n = n * state_words + fence_words

abbrev pub most_pes : ℕ
most_pes = 256

abbrev pub most_interrupts : ℕ
most_interrupts = 4096

abbrev pub most_requesters : ℕ
most_requesters = 65536

abbrev pub most_memory : ℕ
most_memory = 1048576

abbrev pub lengths : Tables → (memory : ℕ) → Live → Lengths
lengths f n s = record {
  requesters = length f.requesters;
  entries = length f.entries;
  memory = n;
  peers = length f.peers;
  interrupts = length s.interrupts;
  windows = length f.windows;
  segments = length f.segments;
  state = length s.state;
}

abbrev pub limits : Sizes → List Bool
limits z =
    leb 1 z.pes ∷ leb z.pes most_pes
    ∷ leb z.interrupts most_interrupts
    ∷ leb 1 z.requesters ∷ leb z.requesters most_requesters ∷ []

abbrev pub dma_lengths : Sizes → Lengths → List Bool
dma_lengths z l =
    eqb l.requesters z.requesters
    ∷ eqb l.entries (z.pes * entry_words)
    ∷ leb l.memory most_memory ∷ []

abbrev pub other_lengths : Sizes → Lengths → List Bool
other_lengths z l =
    eqb l.peers (z.pes * peer_words)
    ∷ eqb l.interrupts (z.interrupts * interrupt_words)
    ∷ eqb l.windows window_words
    ∷ eqb l.segments segment_count
    ∷ eqb l.state (state_length z.pes) ∷ []

unfoldable pub sized : Sizes → Lengths → Bool
sized z l = all (limits z ++ dma_lengths z l ++ other_lengths z l)

unfoldable pub named : Reason → (pes k : ℕ) → Owner
named r n k = cond (ltb k n) (Ok (record { 0 = k })) (Err r)
