-- What a piece does, in the words of the definition by bytes.
--     stream_in s         the stream that a replay is: the pending bytes, the count of output lines, and the session that the words in use are
--     FedText s l f       after bytes l, of which f were taken, the stream is that of the definition, and what it says is written from the end of the output on;
--                         bytes are left only where the next one is a line feed whose line cannot end
--     InText              so it is of every piece, where the line's buffer fits; it goes on fitting, and no list changes its length
-- Assumes nothing.
use Rattle.std.specs.Prelude.{◌≡◌, true, List, ℕ, ◌+◌, ◌≤◌, ◌<◌, length, take, get_or}
use Rattle.std.proofs.lemmas.List.Edits.{sets}
use Rattle.replay_session.specs.Standing.{Standing, fits}
use Rattle.replay_text.specs.Stream.{Stream, fed_all, said_all}
use Rattle.replay_tables.specs.Lent.{in_use, lengths_in}
use Rattle.replay_feed.specs.Feed.{Fed, stuck, feed_all}

abbrev pub stream_in : Standing → Stream
stream_in s = record { pending = take s.pending s.line; count = s.count; session = in_use s.lent }

pub record FedText (s : Standing) (l : List ℕ) (f : Fed) : Type 0 where
  pub stream : stream_in f.standing ≡ fed_all (stream_in s) (take f.bytes l)
  pub at : f.standing.at ≡ s.at + length (said_all (stream_in s) (take f.bytes l))
  pub out : f.standing.out ≡ sets s.out s.at (said_all (stream_in s) (take f.bytes l))
  pub fit : fits f.standing ≡ true
  pub lengths : lengths_in f.standing.lent ≡ lengths_in s.lent
  pub out_length : length f.standing.out ≡ length s.out
  pub most : f.bytes ≤ length l
  pub stop : f.bytes < length l → stuck f.standing (get_or l f.bytes 0) ≡ true

pub record InText : Type 0 where
  pub pieces : (s : Standing) (l : List ℕ) → fits s ≡ true → FedText s l (feed_all s l)
