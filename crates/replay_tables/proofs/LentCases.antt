-- Every lent word after a line of each form, in one table with one statement over it.
--     tables              one PE, interrupt and requester and two words of memory; each list has a word more than is in use
--     LentCase            a line, and the lent tables after it
--     lent_cases          size lines with room and without it; set lines to the last word in use and to the next one; requests; a bad line
--     lent_hold           THE STATEMENT: each line leaves what its row says
-- Assumes nothing.
use Rattle.std.specs.Prelude.{◌≡◌, refl, List, [], ◌∷◌, ◌++◌, map, ℕ, replicate, Ok}
use Rattle.kinds.specs.declared.request.Request.TheVariants.{Error, Priority, Fatal, FenceClear}
use Rattle.profile.proofs.Opened.{opened}
use Rattle.profile.specs.Tables.{entry_words, peer_words, window_words, segment_count}
use Rattle.replay_text.specs.SessionTables.{table_of, fits}
use Rattle.replay_text.specs.Results.{Parsed, bad}
use Rattle.replay_text.specs.declared.Line.TheVariants.{Size, Set, Request}
use Rattle.replay_text.specs.declared.Table.TheVariants.{Requesters, Entries, Memory, Peers, Interrupts, Windows, Segments, State}
use Rattle.replay_tables.specs.Lent.{Lent, lent, extent_of, room_for, after_in}

abbrev zeros : ℕ → List ℕ
zeros n = replicate n 0

-- by the requesters, the memory, the interrupt and the state; of the other lists all words but the last are 0
abbrev lists : (requesters memory interrupts state : List ℕ) → Lent
lists q m n t =
    lent
    (extent_of 1 1 1 2)
    q
    (zeros entry_words ++ (91 ∷ []))
    m
    (zeros peer_words ++ (93 ∷ []))
    n
    (zeros window_words ++ (95 ∷ []))
    (zeros segment_count ++ (96 ∷ []))
    t

abbrev quiet : List ℕ
quiet = 0 ∷ 0 ∷ 3 ∷ 0 ∷ 94 ∷ []

-- the PE's words, the fence word, and a word that is not in use
abbrev running : List ℕ
running = 0 ∷ 0 ∷ 0 ∷ 6 ∷ 8 ∷ 97 ∷ []

abbrev pub tables : Lent
tables = lists (0 ∷ 90 ∷ []) (5 ∷ 6 ∷ 92 ∷ []) quiet running

abbrev emptied : Lent
emptied =
    lent
    (extent_of 1 1 2 3)
    (0 ∷ 0 ∷ [])
    (zeros entry_words ++ (0 ∷ []))
    (0 ∷ 0 ∷ 0 ∷ [])
    (zeros peer_words ++ (0 ∷ []))
    (0 ∷ 0 ∷ 0 ∷ 0 ∷ 0 ∷ [])
    (zeros window_words ++ (0 ∷ []))
    (zeros segment_count ++ (0 ∷ []))
    (0 ∷ 0 ∷ 0 ∷ 0 ∷ 0 ∷ 0 ∷ [])

pub record LentCase : Type 0 where
  pub line : Parsed
  pub after : Lent

abbrev leaves : Parsed → Lent → LentCase
leaves l b = record { line = l; after = b }

unfoldable pub lent_cases : List LentCase
lent_cases =
    leaves (Ok (Size 1 1 2 3)) emptied
    ∷ leaves (Ok (Size 0 1 1 2)) tables
    ∷ leaves (Ok (Size 2 1 1 2)) tables
    ∷ leaves (Ok (Size 1 2 1 2)) tables
    ∷ leaves (Ok (Size 1 1 3 2)) tables
    ∷ leaves (Ok (Size 1 1 1 4)) tables
    ∷ leaves (Ok (Set Requesters 0 65535)) (lists (65535 ∷ 90 ∷ []) (5 ∷ 6 ∷ 92 ∷ []) quiet running)
    ∷ leaves (Ok (Set Requesters 0 65536)) tables
    ∷ leaves (Ok (Set Requesters 1 1)) tables
    ∷ leaves (Ok (Set Entries 8 1)) tables
    ∷ leaves (Ok (Set Memory 1 7)) (lists (0 ∷ 90 ∷ []) (5 ∷ 7 ∷ 92 ∷ []) quiet running)
    ∷ leaves (Ok (Set Memory 2 7)) tables
    ∷ leaves (Ok (Set Peers 4 1)) tables
    ∷ leaves (Ok (Set Interrupts 3 1)) (lists (0 ∷ 90 ∷ []) (5 ∷ 6 ∷ 92 ∷ []) (0 ∷ 0 ∷ 3 ∷ 1 ∷ 94 ∷ []) running)
    ∷ leaves (Ok (Set Interrupts 4 1)) tables
    ∷ leaves (Ok (Set Windows 67 1)) tables
    ∷ leaves (Ok (Set Segments 256 1)) tables
    ∷ leaves (Ok (Set Segments 255 65536)) tables
    ∷ leaves (Ok (Set State 2 8)) (lists (0 ∷ 90 ∷ []) (5 ∷ 6 ∷ 92 ∷ []) quiet (0 ∷ 0 ∷ 8 ∷ 6 ∷ 8 ∷ 97 ∷ []))
    ∷ leaves (Ok (Set State 3 8)) (lists (0 ∷ 90 ∷ []) (5 ∷ 6 ∷ 92 ∷ []) quiet (0 ∷ 0 ∷ 0 ∷ 8 ∷ 8 ∷ 97 ∷ []))
    ∷ leaves (Ok (Set State 4 9)) (lists (0 ∷ 90 ∷ []) (5 ∷ 6 ∷ 92 ∷ []) quiet (0 ∷ 0 ∷ 0 ∷ 6 ∷ 9 ∷ 97 ∷ []))
    ∷ leaves (Ok (Set State 5 8)) tables
    ∷ leaves (Ok (Request (Error 0))) (lists (0 ∷ 90 ∷ []) (5 ∷ 6 ∷ 92 ∷ []) quiet (3 ∷ 12 ∷ 0 ∷ 0 ∷ 8 ∷ 97 ∷ []))
    ∷ leaves (Ok (Request (Fatal 0))) (lists (0 ∷ 90 ∷ []) (5 ∷ 6 ∷ 92 ∷ []) quiet (0 ∷ 0 ∷ 0 ∷ 6 ∷ 9 ∷ 97 ∷ []))
    ∷ leaves (Ok (Request FenceClear)) tables
    ∷ leaves (Ok (Request (Priority 0 9))) (lists (0 ∷ 90 ∷ []) (5 ∷ 6 ∷ 92 ∷ []) (0 ∷ 0 ∷ 9 ∷ 0 ∷ 94 ∷ []) running)
    ∷ leaves (Ok (Request (Priority 1 9))) tables
    ∷ leaves bad tables
    ∷ []

pub lent_hold : map (λ c. after_in tables c.line) lent_cases ≡ map (λ c. c.after) lent_cases
unfolding opened lent_cases table_of fits room_for after_in
lent_hold = refl
