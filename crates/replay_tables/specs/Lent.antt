-- The lent tables of a replay, whole: every word of every lent list, and how many of them are in use.
--     Extent              (of the code) what the last good size line asked for: N, M, R and the words of memory; zeros before the first one
--     Lent, lent x q e .. the extent and the eight lent lists
--     state_used n        how many words the state of n PEs has: none where there is no PE
--     used_by x t         how many words table t has in a bridge of extent x
--     in_use b            the session that the words in use are: the first words of each list
--     lengths_in b        the lengths of the lent lists
--     room_for l k         whether lists of lengths k can hold what line l asks for: a size line asks for tables of at least one PE, no other line for
--                         anything; pe_room, other_room: of the tables with words for each PE, and of the others; pe_rooms, other_rooms: table by table
--     list_of b t          the lent list of table t; with_list b t l: list l in its place
--     cleared_to x b      every word of every list 0, and extent x
--     sized_to x b        after a size line for extent x: the lists cleared whole where there is room for it, else as they were
--     set_in t i v b      after a set line: one word where it may be set, else as they were
--     served_in q b       after request q: state and interrupts as the bridge leaves the words in use, and all other words as they were
--     after_in b l        THE LENT TABLES AFTER LINE l
-- Assumes nothing.
use Rattle.std.specs.Prelude.{Bool, true, cond, ◌&&◌, List, [], ◌∷◌, ◌++◌, ℕ, ◌*◌, leb, length, take, drop, set, replicate, Ok, Err}
use Rattle.kinds.specs.Tests.{all}
use Rattle.kinds.specs.declared.record.Lengths.{Lengths}
use Rattle.kinds.specs.declared.request.Request.{Request}
use Rattle.replay_text.specs.Results.{Parsed}
use Rattle.replay_text.specs.declared.Line.TheVariants.{Size, Set, Request as RequestLine}
use Rattle.replay_text.specs.declared.Table.{Table}
use Rattle.replay_text.specs.declared.Table.TheVariants.{Requesters, Entries, Memory, Peers, Interrupts, Windows, Segments, State}
use Rattle.profile.specs.Step.{after}
use Rattle.profile.specs.Tables.{Live, entry_words, peer_words, interrupt_words, window_words, segment_count, state_length}
use Rattle.tables.specs.Tables.{lengths_of}
use Rattle.table_lists.specs.Once.{once}
use Rattle.replay_text.specs.SessionTables.{Session, session, sizes_of, settable}
use Rattle.replay_tables.specs.declared.Extent.{Extent}

pub record Lent : Type 0 where
  pub extent : Extent
  pub requesters : List ℕ
  pub entries : List ℕ
  pub memory : List ℕ
  pub peers : List ℕ
  pub interrupts : List ℕ
  pub windows : List ℕ
  pub segments : List ℕ
  pub state : List ℕ

abbrev pub lent : Extent → (requesters entries memory peers interrupts windows segments state : List ℕ) → Lent
lent x q e m p n w g t = record {
  extent = x;
  requesters = q;
  entries = e;
  memory = m;
  peers = p;
  interrupts = n;
  windows = w;
  segments = g;
  state = t;
}

abbrev pub extent_of : (n m r w : ℕ) → Extent
extent_of n m r w = record { sizes = sizes_of n m r; memory = w }

abbrev pub state_used : (pes : ℕ) → ℕ
state_used n = once n * state_length n

abbrev pub used_by : Extent → Table → ℕ
used_by x Requesters = x.sizes.requesters
used_by x Entries = x.sizes.pes * entry_words
used_by x Memory = x.memory
used_by x Peers = x.sizes.pes * peer_words
used_by x Interrupts = x.sizes.interrupts * interrupt_words
used_by x Windows = once x.sizes.pes * window_words
used_by x Segments = once x.sizes.pes * segment_count
used_by x State = state_used x.sizes.pes

abbrev pub list_of : Lent → Table → List ℕ
list_of b Requesters = b.requesters
list_of b Entries = b.entries
list_of b Memory = b.memory
list_of b Peers = b.peers
list_of b Interrupts = b.interrupts
list_of b Windows = b.windows
list_of b Segments = b.segments
list_of b State = b.state

abbrev pub used_of : Lent → Table → List ℕ
used_of b t = take (used_by b.extent t) (list_of b t)

abbrev pub in_use : Lent → Session
in_use b =
    session
    b.extent.sizes
    (used_of b Requesters)
    (used_of b Entries)
    (used_of b Memory)
    (used_of b Peers)
    (used_of b Interrupts)
    (used_of b Windows)
    (used_of b Segments)
    (used_of b State)

abbrev pub lengths_in : Lent → Lengths
lengths_in b =
    lengths_of
    b.requesters
    b.entries
    b.memory
    b.peers
    b.interrupts
    b.windows
    b.segments
    b.state

-- the tables with words for each PE; the others
abbrev pub pe_rooms : (n : ℕ) → Lengths → List Bool
pe_rooms n k = leb (n * entry_words) k.entries ∷ leb (n * peer_words) k.peers ∷ leb (state_length n) k.state ∷ []

abbrev pub other_rooms : (m r w : ℕ) → Lengths → List Bool
other_rooms m r w k =
    leb (m * interrupt_words) k.interrupts
    ∷ leb r k.requesters
    ∷ leb w k.memory
    ∷ leb window_words k.windows
    ∷ leb segment_count k.segments
    ∷ []

abbrev pub pe_room : (n : ℕ) → Lengths → Bool
pe_room n k = all (pe_rooms n k)

abbrev pub other_room : (m r w : ℕ) → Lengths → Bool
other_room m r w k = all (other_rooms m r w k)

unfoldable pub room_for : Parsed → Lengths → Bool
room_for (Ok (Size n m r w)) k = leb 1 n && pe_room n k && other_room m r w k
room_for (Ok (Set t i v)) k = true
room_for (Ok (RequestLine q)) k = true
room_for (Err e) k = true

abbrev pub cleared : List ℕ → List ℕ
cleared l = replicate (length l) 0

abbrev pub cleared_to : Extent → Lent → Lent
cleared_to x b =
    lent
    x
    (cleared b.requesters)
    (cleared b.entries)
    (cleared b.memory)
    (cleared b.peers)
    (cleared b.interrupts)
    (cleared b.windows)
    (cleared b.segments)
    (cleared b.state)

-- the size line that asks for an extent
abbrev pub size_line : Extent → Parsed
size_line x = Ok (Size x.sizes.pes x.sizes.interrupts x.sizes.requesters x.memory)

abbrev pub sized_to : Extent → Lent → Lent
sized_to x b = cond (room_for (size_line x) (lengths_in b)) (cleared_to x b) b

abbrev pub with_list : Lent → Table → List ℕ → Lent
with_list b Requesters l = lent b.extent l b.entries b.memory b.peers b.interrupts b.windows b.segments b.state
with_list b Entries l = lent b.extent b.requesters l b.memory b.peers b.interrupts b.windows b.segments b.state
with_list b Memory l = lent b.extent b.requesters b.entries l b.peers b.interrupts b.windows b.segments b.state
with_list b Peers l = lent b.extent b.requesters b.entries b.memory l b.interrupts b.windows b.segments b.state
with_list b Interrupts l = lent b.extent b.requesters b.entries b.memory b.peers l b.windows b.segments b.state
with_list b Windows l = lent b.extent b.requesters b.entries b.memory b.peers b.interrupts l b.segments b.state
with_list b Segments l = lent b.extent b.requesters b.entries b.memory b.peers b.interrupts b.windows l b.state
with_list b State l = lent b.extent b.requesters b.entries b.memory b.peers b.interrupts b.windows b.segments l

abbrev pub set_in : Table → (i v : ℕ) → Lent → Lent
set_in t i v b = cond (settable (in_use b) t i v) (with_list b t (set (list_of b t) i v)) b

-- list l, the words of which that are in use became k
abbrev pub front : (used : ℕ) → List ℕ → List ℕ → List ℕ
front n k l = k ++ drop n l

abbrev pub written : Lent → Live → Lent
written b s =
    lent
    b.extent
    b.requesters
    b.entries
    b.memory
    b.peers
    (front (used_by b.extent Interrupts) s.interrupts b.interrupts)
    b.windows
    b.segments
    (front (used_by b.extent State) s.state b.state)

abbrev pub served_in : Request → Lent → Lent
served_in q b = written b (after (in_use b).tables (in_use b).memory (in_use b).live q)

unfoldable pub after_in : Lent → Parsed → Lent
after_in b (Ok (Size n m r w)) = sized_to (extent_of n m r w) b
after_in b (Ok (Set t i v)) = set_in t i v b
after_in b (Ok (RequestLine q)) = served_in q b
after_in b (Err e) = b
