-- Bridges and lists for the witness of demand 3.
--     group               PEs 1 and 2 of four. PE 1 is in bypass, of which a part is above the installed size, and lists PE 2; PE 2 has a page table of two levels and lists PE 3. PEs 0 and 3 are
--                         outside and list each other
--     Private             the words that the group does not see: entries, state and interrupts by place, and memory after the group's tables
--     bridge w            the bridge whose private words outside the group are those of w, and so are the upper bits of the group's own stop words. The
--                         fence word is 6: not fenced, with other bits
--     words x             words by which PEs 0 and 3 have a page table: for x = 1 of one level with pages of 4 KiB, for x = 2 of two levels with pages of
--                         64 KiB and larger tables. Word 5 of each leads above 4 GiB, the installed size. Their second entry is bad, and their reason is
--                         0 for x = 1
--     first, second       the two bridges: of `words 1` and of `words 2`
--     list, other         two lists whose own requests are equal, and which differ in those of PEs 0 and 3 and of nobody
--     fenced, other_fenced    two more: at the same place among the own requests an outsider sends a fatal message, PE 3 in the one and PE 0 in the other,
--                         and at a later one firmware clears the fence; the group sends one too. A fatal message of nobody stands where it will
--     table_words         the words of a table of table code 1
--     pe n                the PE with number n; row w r v a: the words of one PE in the state; up_from n k: the k numbers from n on
--     dma, load           requests in bare numbers; a DMA has 4 bytes
--     opened_bridges      the names that a computation on them opens
-- Assumes nothing.
use Rattle.std.specs.Prelude.{Bool, cond, ◌&&◌, List, [], ◌∷◌, ◌++◌, map, ℕ, zero, suc, ◌+◌, ◌-◌, ◌*◌, ◌%◌, ◌^◌, leb, eqb, set, replicate}
use Rattle.kinds.specs.Words.{at}
use Rattle.kinds.specs.declared.number.PeNumber.{PeNumber}
use Rattle.kinds.specs.declared.request.Direction.{Direction}
use Rattle.kinds.specs.declared.request.Direction.TheVariants.{Read, Write}
use Rattle.kinds.specs.declared.request.Part.TheVariants as part
use Rattle.kinds.specs.declared.request.Request.{Request}
use Rattle.kinds.specs.declared.request.Request.TheVariants.{Dma, Load, Error, Clear, End, Priority, Fatal, FenceClear}
use Rattle.profile.specs.Tables.{Tables, Live, entry_words, record_words, interrupt_words, window_words, segment_count, state_words}
use Rattle.profile.specs.Freeze.{stop_word}
use Rattle.profile.proofs.Opened.{opened}
use Rattle.isolation.specs.View.{Bridge}

unfoldable pub group : PeNumber → Bool
group p = leb 1 p.0 && leb p.0 2

pub record Private : Type 0 where
  pub entries : ℕ → ℕ
  pub state : ℕ → ℕ
  pub interrupts : ℕ → ℕ
  pub memory : List ℕ

unfoldable pub up_from : (start count : ℕ) → List ℕ
up_from n zero = []
up_from n (suc k) = n ∷ up_from (n + 1) k

abbrev pub row : (stop reason value word : ℕ) → List ℕ
row w r v a = w ∷ r ∷ v ∷ a ∷ []

abbrev pub pe : ℕ → PeNumber
pe n = record { 0 = n }

-- the words of a PE outside the group, and those of a member, whose stop bits are clear
abbrev outsider : Private → (pe : ℕ) → List ℕ
outsider w p = map w.state (up_from (stop_word (pe p)) state_words)

abbrev insider : Private → (pe : ℕ) → List ℕ
insider w p = row (w.state (stop_word (pe p)) * 4) 0 0 0

unfoldable pub tables : Private → Tables
tables w = record {
  sizes = record { pes = 4; interrupts = 4; requesters = 5 };
  installed = 2 ^ 32;
  requesters = 0 ∷ 1 ∷ 2 ∷ 3 ∷ 9 ∷ [];
  entries =
      map w.entries (up_from 0 entry_words)
      ++ (1 ∷ 512 ∷ 1 ∷ 0 ∷ 0 ∷ 0 ∷ 0 ∷ 0
      ∷ 0 ∷ 2 ∷ 1 ∷ 1 ∷ 0 ∷ 0 ∷ 0 ∷ 0
      ∷ map w.entries (up_from (3 * entry_words) entry_words));
  peers = 8 ∷ 0 ∷ 0 ∷ 0 ∷ 4 ∷ 0 ∷ 0 ∷ 0 ∷ 8 ∷ 0 ∷ 0 ∷ 0 ∷ 1 ∷ 0 ∷ 0 ∷ 0 ∷ [];
  windows = 0x100000000 ∷ 0x10000000 ∷ 0x80000000 ∷ replicate (window_words - 3) 0;
  segments = 0 ∷ 9 ∷ 9 ∷ 2 ∷ replicate (segment_count - 4) 9;
}

unfoldable pub live : Private → Live
live w = record {
  state = outsider w 0 ++ (insider w 1 ++ (insider w 2 ++ (outsider w 3 ++ (6 ∷ []))));
  interrupts =
      0 ∷ map w.interrupts (up_from 1 (interrupt_words - 1))
      ++ (1 ∷ 5 ∷ 6 ∷ 0 ∷ 2 ∷ 7 ∷ 8 ∷ 2 ∷ 3 ∷ map w.interrupts (up_from (3 * interrupt_words + 1) (interrupt_words - 1)));
}

abbrev pub table_words : ℕ
table_words = 512

-- the two tables of PE 2: word 2 of the upper one leads to the lower one, whose word 3 is a page
unfoldable pub upper : List ℕ
upper = set (replicate table_words 0) 2 0x1001

unfoldable pub lower : List ℕ
lower = set (replicate table_words 0) 3 0x9003

unfoldable pub memory : Private → List ℕ
memory w = (upper ++ lower) ++ w.memory

abbrev pub bridge : Private → Bridge
bridge w = record { tables = tables w; memory = memory w; live = live w }

-- the page table of PEs 0 and 3 is at 0x2000 for x = 1. For x = 2 the upper one is at 0x4000, and its first word leads to the lower one at 0x2000
unfoldable pub words : ℕ → Private
words x = record {
  entries = λ k. at (0x2000 * x ∷ x ∷ x ∷ (4 * x - 3) ∷ replicate record_words x) (k % entry_words);
  state = λ k. cond (eqb (k % state_words) 1) (x - 1) x;
  interrupts = λ k. x;
  memory = set (replicate (2 * table_words) (0x1110000 * x + 3)) 5 (0x101110000 * x + 3) ++ ((0x1000 * x + 3) ∷ []);
}

abbrev pub first : Bridge
first = bridge (words 1)

abbrev pub second : Bridge
second = bridge (words 2)

abbrev pub dma : (requester : ℕ) → Direction → (address value : ℕ) → Request
dma r d a v = Dma (record { requester = r; direction = d; address = record { 0 = a }; length = 4; «data» = v })

abbrev pub load : (address width : ℕ) → Request
load a w = Load (record { 0 = a }) w

unfoldable pub list : List Request
list =
    -- PE 0 is frozen as a peer, released, translates, presents an MSI, and is frozen by a refusal
    Error 3
    ∷ dma 2 Write 0x403010 0
    ∷ dma 0 Write 0x3ABC 0
    ∷ Clear 0 part.Dma
    ∷ dma 0 Write 0x3ABC 0
    ∷ dma 1 Read 0x1000000 0
    ∷ dma 0 Write 0x1000000000000000 0
    ∷ dma 1 Write 0x1000000000000000 1
    ∷ dma 1 Read 0x180000000 0
    ∷ dma 4 Read 0x1000 0
    ∷ load 0x100300010 3
    ∷ dma 0 Read 0x800000000001000 0
    ∷ dma 2 Read 0x800000 0
    ∷ load 0x100300010 4
    ∷ Clear 2 part.Mmio
    ∷ End 2
    ∷ load 0x7000 4
    ∷ []

unfoldable pub other : List Request
other =
    -- PE 0 is stopped from the start, released, translates by another table, is frozen above the installed size, and freezes PE 3 by an error message
    dma 2 Write 0x403010 0
    ∷ dma 1 Read 0x1000000 0
    ∷ dma 0 Write 0x3ABC 0
    ∷ Clear 0 part.Dma
    ∷ dma 0 Write 0x3ABC 0
    ∷ dma 0 Read 0x50000 0
    ∷ dma 1 Write 0x1000000000000000 1
    ∷ dma 1 Read 0x180000000 0
    ∷ load 0x100300010 3
    ∷ Error 0
    ∷ Priority 3 300
    ∷ dma 2 Read 0x800000 0
    ∷ load 0x100300010 4
    ∷ Clear 2 part.Mmio
    ∷ Clear 3 part.Mmio
    ∷ End 2
    ∷ End 3
    ∷ []

unfoldable pub fenced : List Request
fenced =
    dma 2 Write 0x403010 0
    ∷ Fatal 3
    ∷ dma 2 Write 0x403010 0
    ∷ Error 0
    ∷ load 0x100300010 4
    ∷ Clear 2 part.Dma
    ∷ FenceClear
    ∷ Error 0
    ∷ dma 2 Write 0x403010 0
    ∷ Fatal 1
    ∷ dma 1 Read 0x1000000 0
    ∷ FenceClear
    ∷ []

unfoldable pub other_fenced : List Request
other_fenced =
    -- PE 0 sends the first one, also where it is stopped
    Fatal 4
    ∷ dma 2 Write 0x403010 0
    ∷ Fatal 0
    ∷ dma 2 Write 0x403010 0
    ∷ load 0x100300010 4
    ∷ load 0x7000 4
    ∷ Clear 2 part.Dma
    ∷ FenceClear
    ∷ dma 2 Write 0x403010 0
    ∷ Fatal 4
    ∷ Fatal 1
    ∷ dma 0 Read 0x3ABC 0
    ∷ dma 1 Read 0x1000000 0
    ∷ FenceClear
    ∷ []

unfoldable pub opened_bridges : Unit {0}
unfolding opened group up_from tables live upper lower memory words list other fenced other_fenced
opened_bridges = tt
