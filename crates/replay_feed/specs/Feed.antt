-- A piece of the input, byte by byte, on all that a replay is lent.
--     Buffer              the line's buffer and how many bytes of it are pending
--     kept b x            the buffer after byte x, which is no line feed: a line's first 128 bytes (line_kept) tell what it says; kept_all b l: after bytes l
--     buffer_of s         the buffer of a replay; with_buffer s b: another in its place
--     byte_in s x         where a replay stands after byte x: the byte is kept, or the line ends
--     stuck s x           byte x is a line feed whose line cannot end
--     Fed                 where a replay stands, and the count of bytes taken; later n r: with n bytes more; stopped s: none was taken
--     feed_all s l        WHERE A REPLAY STANDS AFTER A PIECE: all bytes of l are taken up to the first line feed whose line cannot end
--     end_bytes n         how many bytes the end of the input adds where n are pending
--     end_of s             the end of the input: a missing line feed where bytes are pending, else nothing
-- Assumes nothing.
use Rattle.std.specs.Prelude.{Bool, cond, not, ◌&&◌, List, [], ◌∷◌, ℕ, suc, ◌+◌, eqb, ltb, take, set}
use Rattle.replay_text.specs.Bytes.{line_feed}
use Rattle.replay_session.specs.Standing.{Standing, free, line_done}
use Rattle.replay_text.specs.Stream.{line_kept}

pub record Buffer : Type 0 where
  pub line : List ℕ
  pub pending : ℕ

abbrev pub kept : Buffer → ℕ → Buffer
kept b x = cond (ltb b.pending line_kept) (record { line = set b.line b.pending x; pending = suc b.pending }) b

unfoldable pub kept_all : Buffer → List ℕ → Buffer
kept_all b [] = b
kept_all b (x ∷ l) = kept_all (kept b x) l

abbrev pub buffer_of : Standing → Buffer
buffer_of s = record { line = s.line; pending = s.pending }

abbrev pub with_buffer : Standing → Buffer → Standing
with_buffer s b = record { lent = s.lent; line = b.line; pending = b.pending; count = s.count; out = s.out; at = s.at }

unfoldable pub byte_in : Standing → ℕ → Standing
byte_in s x = cond (eqb x line_feed) (line_done s) (with_buffer s (kept (buffer_of s) x))

abbrev pub stuck : Standing → ℕ → Bool
stuck s x = eqb x line_feed && not (free s)

pub record Fed : Type 0 where
  pub standing : Standing
  pub bytes : ℕ

abbrev pub stopped : Standing → Fed
stopped s = record { standing = s; bytes = 0 }

abbrev pub later : ℕ → Fed → Fed
later n r = record { standing = r.standing; bytes = n + r.bytes }

unfoldable pub feed_all : Standing → List ℕ → Fed
feed_all s [] = stopped s
feed_all s (x ∷ l) = cond (stuck s x) (stopped s) (later 1 (feed_all (byte_in s x) l))

abbrev pub end_bytes : (pending : ℕ) → ℕ
end_bytes n = cond (eqb n 0) 0 1

abbrev pub end_of : Standing → List ℕ
end_of s = take (end_bytes s.pending) (line_feed ∷ [])
