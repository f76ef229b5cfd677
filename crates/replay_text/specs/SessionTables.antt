-- 01, 'Replay text': what a session holds.
--     Session             the tables, memory and what requests write
--     replay_installed    the installed size of every replay: 4 GiB
--     session z q e ..    a session by its words: sizes z, requesters q, entries e, memory m, peers p, interrupts n, windows w, segments g, state t
--     start               before the first good size line: no tables, so that every request is 1 and every set line is bad
--     emptied n m r w     after a good size line: all tables of these sizes, all words 0
--     table_of s t         the words of table t; fits t v: v is not too wide for it; stored s t i v: the session with word i of table t set to v
--     settable s t i v    an index and a value that a set line may have
-- Assumes nothing.
use Rattle.std.specs.Prelude.{Bool, true, ◌&&◌, List, [], ℕ, ◌*◌, ◌^◌, ltb, length, set, replicate}
use Rattle.kinds.specs.declared.record.Sizes.{Sizes}
use Rattle.replay_text.specs.declared.Table.{Table}
use Rattle.replay_text.specs.declared.Table.TheVariants.{Requesters, Entries, Memory, Peers, Interrupts, Windows, Segments, State}
use Rattle.profile.specs.Tables.{Tables, Live, entry_words, peer_words, interrupt_words, window_words, segment_count, state_length}

pub record Session : Type 0 where
  pub tables : Tables
  pub memory : List ℕ
  pub live : Live

abbrev pub replay_installed : ℕ
replay_installed = 2 ^ 32

-- a session by its words
abbrev pub session : Sizes → (requesters entries memory peers interrupts windows segments state : List ℕ) → Session
session z q e m p n w g t = record {
  tables = record { sizes = z; installed = replay_installed; requesters = q; entries = e; peers = p; windows = w; segments = g };
  memory = m;
  live = record { state = t; interrupts = n };
}

abbrev pub sizes_of : (n m r : ℕ) → Sizes
sizes_of n m r = record { pes = n; interrupts = m; requesters = r }

abbrev zeros : ℕ → List ℕ
zeros k = replicate k 0

abbrev pub emptied : (n m r w : ℕ) → Session
emptied n m r w =
    session
    (sizes_of n m r)
    (zeros r)
    (zeros (n * entry_words))
    (zeros w)
    (zeros (n * peer_words))
    (zeros (m * interrupt_words))
    (zeros window_words)
    (zeros segment_count)
    (zeros (state_length n))

abbrev pub start : Session
start = session (sizes_of 0 0 0) [] [] [] [] [] [] [] []

unfoldable pub table_of : Session → Table → List ℕ
table_of s Requesters = s.tables.requesters
table_of s Entries = s.tables.entries
table_of s Memory = s.memory
table_of s Peers = s.tables.peers
table_of s Interrupts = s.live.interrupts
table_of s Windows = s.tables.windows
table_of s Segments = s.tables.segments
table_of s State = s.live.state

-- the words of requesters and segments have 16 bits; the others hold every number that a line can hold
unfoldable pub fits : Table → ℕ → Bool
fits Requesters v = ltb v (2 ^ 16)
fits Segments v = ltb v (2 ^ 16)
fits Entries v = true
fits Memory v = true
fits Peers v = true
fits Interrupts v = true
fits Windows v = true
fits State v = true

-- the session of these words, with word i of table t set to v
unfoldable pub stored_in : Sizes → (requesters entries memory peers interrupts windows segments state : List ℕ) → Table → (i v : ℕ) → Session
stored_in z q e m p n w g t Requesters i v = session z (set q i v) e m p n w g t
stored_in z q e m p n w g t Entries i v = session z q (set e i v) m p n w g t
stored_in z q e m p n w g t Memory i v = session z q e (set m i v) p n w g t
stored_in z q e m p n w g t Peers i v = session z q e m (set p i v) n w g t
stored_in z q e m p n w g t Interrupts i v = session z q e m p (set n i v) w g t
stored_in z q e m p n w g t Windows i v = session z q e m p n (set w i v) g t
stored_in z q e m p n w g t Segments i v = session z q e m p n w (set g i v) t
stored_in z q e m p n w g t State i v = session z q e m p n w g (set t i v)

abbrev pub stored : Session → Table → (i v : ℕ) → Session
stored s t i v =
    stored_in
    s.tables.sizes
    s.tables.requesters
    s.tables.entries
    s.memory
    s.tables.peers
    s.live.interrupts
    s.tables.windows
    s.tables.segments
    s.live.state
    t
    i
    v

abbrev pub settable : Session → Table → (i v : ℕ) → Bool
settable s t i v = ltb i (length (table_of s t)) && fits t v
