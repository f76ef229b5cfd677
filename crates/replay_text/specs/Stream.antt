-- A replay byte by byte.
--     Stream              the first bytes of the line that has not ended, the count of output lines, and the session
--     held p b            the line's first bytes after one more: a line's first 128 bytes (line_kept) tell what it says
--     before l            the count of bytes of l before its first line feed; held_all p l: the line's first bytes after all of l
--     reply s             what the line of s answers
--     ended s             the stream after the end of its line; ending s: what that writes
--     fed s b             the stream after byte b; said s b: what that writes
--     fed_all, said_all    of a list of bytes
--     closing s           what the end of the input writes
--     begin               before the first byte
-- Assumes nothing.
use Rattle.std.specs.Prelude.{cond, List, [], ◌∷◌, ◌++◌, ℕ, suc, ltb, eqb, length}
use Rattle.replay_text.specs.Line.{line_of}
use Rattle.replay_text.specs.SessionTables.{Session, start}
use Rattle.replay_text.specs.Session.{reply_to, after_line}
use Rattle.replay_text.specs.Results.{Reply}
use Rattle.replay_text.specs.Bytes.{line_feed}
use Rattle.replay_text.specs.Replay.{text_of, count_after}

pub record Stream : Type 0 where
  pub pending : List ℕ
  pub count : ℕ
  pub session : Session

abbrev pub line_kept : ℕ
line_kept = 128

abbrev pub held : List ℕ → ℕ → List ℕ
held p b = cond (ltb (length p) line_kept) (p ++ (b ∷ [])) p

-- the bytes of a list before its first line feed, and a line's first bytes after a list of bytes more
unfoldable pub before : List ℕ → ℕ
before [] = 0
before (b ∷ l) = cond (eqb b line_feed) 0 (suc (before l))

unfoldable pub held_all : List ℕ → List ℕ → List ℕ
held_all p [] = p
held_all p (b ∷ l) = held_all (held p b) l

abbrev pub reply : Stream → Reply
reply s = reply_to s.session (line_of s.pending)

unfoldable pub ended : Stream → Stream
ended s = record { pending = []; count = count_after s.count (reply s); session = after_line s.session (line_of s.pending) }

unfoldable pub ending : Stream → List ℕ
ending s = text_of s.count (reply s)

unfoldable pub fed : Stream → ℕ → Stream
fed s b = cond (eqb b line_feed) (ended s) (record { pending = held s.pending b; count = s.count; session = s.session })

unfoldable pub said : Stream → ℕ → List ℕ
said s b = cond (eqb b line_feed) (ending s) []

unfoldable pub fed_all : Stream → List ℕ → Stream
fed_all s [] = s
fed_all s (b ∷ l) = fed_all (fed s b) l

unfoldable pub said_all : Stream → List ℕ → List ℕ
said_all s [] = []
said_all s (b ∷ l) = said s b ++ said_all (fed s b) l

unfoldable pub closing : Stream → List ℕ
closing s = cond (eqb (length s.pending) 0) [] (ending s)

abbrev pub begin : Stream
begin = record { pending = []; count = 0; session = start }
