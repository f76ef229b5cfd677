-- What the functions of the lent tables are promised to do.
--     set_reply e             what a set line writes by its end: nothing where the word was set, or the answer to a bad line
--     DidSet b t i v e c      on lent tables b, the set line for word i of table t and value v ended with e and left c
--     SizedTo b x r c         on lent tables b, the size line for extent x answered r and left c: no_room where the lists have no room for its tables
--     SetPart n l i o e k     of list l, the first n words are in use: word i was set to the value o where it is one of them, else the line is bad; e is the end and k the list
-- Assumes nothing.
use Rattle.std.specs.Prelude.{◌≡◌, cond, List, ℕ, ltb, set, Option, Some, None, Result, Ok, Err}
use Rattle.replay_text.specs.declared.Table.{Table}
use Rattle.replay_text.specs.Text.{bad_numbers}
use Rattle.replay_tables.specs.Lent.{Lent, in_use, lengths_in, room_for, size_line, sized_to, set_in}
use Rattle.replay_text.specs.SessionTables.{settable}
use Rattle.replay_tables.specs.declared.Extent.{Extent}
use Rattle.replay_text.specs.declared.BadLine.{BadLine}
use Rattle.replay_text.specs.Results.{Reply, silent, says, no_room}

abbrev pub SetEnd : Type 0
SetEnd = Result Unit BadLine

abbrev pub set_reply : SetEnd → Reply
set_reply (Ok u) = silent
set_reply (Err e) = says bad_numbers

abbrev pub DidSet : Lent → Table → (i v : ℕ) → SetEnd → Lent → Type 0
DidSet b t i v e c = (set_reply e ≡ cond (settable (in_use b) t i v) silent (says bad_numbers)) × (c ≡ set_in t i v b)

abbrev pub SizedTo : Lent → Extent → Reply → Lent → Type 0
SizedTo b x r c = (r ≡ cond (room_for (size_line x) (lengths_in b)) silent no_room) × (c ≡ sized_to x b)

abbrev pub SetPart : {A : Type 0} (end : ℕ) → List A → (i : ℕ) → Option A → SetEnd → List A → Type 0
SetPart end l i None e k = (set_reply e ≡ says bad_numbers) × (k ≡ l)
SetPart end l i (Some v) e k = (set_reply e ≡ cond (ltb i end) silent (says bad_numbers)) × (k ≡ cond (ltb i end) (set l i v) l)
