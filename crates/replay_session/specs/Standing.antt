-- Where a replay stands: all that it is lent and all that it counts.
--     Progress            (of the code) the extent of the tables, the count of bytes kept of the line, the count of output lines
--     Standing            the lent tables, the line's buffer and how much of it is pending, the count of output lines, the output and where it ends
--     Buffers, buffers    the lent lists alone; lent_buffers: as they are lent; buffers_of s: those of s; progress_of s: what is carried by value
--     standing p b a      by progress, lent lists and the end of the output
--     line_in s           what the pending bytes say as a line; reply_now s: what it answers; said_now s: the bytes of that
--     last_count          the count of output lines that no line can follow: it has 64 bits
--     free s              whether the line can end: one more output line can be counted, the output has room for one, and the tables for what the line asks
--     line_done s         THE END OF A LINE: where it can end, it is done and answered, and no byte is pending; else nothing is changed
--     fits s              the line's buffer has 128 bytes (line_kept), and no more are pending
-- Assumes nothing.
use Rattle.std.specs.Prelude.{Bool, cond, ◌&&◌, List, ℕ, ◌+◌, eqb, ltb, leb, length, take}
use Rattle.std.proofs.lemmas.List.Edits.{sets}
use Rattle.replay_text.specs.Line.{line_of}
use Rattle.replay_text.specs.Results.{Parsed, Reply}
use Rattle.replay_text.specs.Text.{line_most}
use Rattle.replay_session.specs.Promise.{reply_in}
use Rattle.replay_text.specs.Replay.{text_of, count_after}
use Rattle.replay_text.specs.Stream.{line_kept}
use Rattle.replay_tables.specs.Lent.{Lent, lent, lengths_in, room_for, after_in}
use Rattle.replay_tables.specs.declared.lent.Lent.{Lent as Lists}
use Rattle.replay_session.specs.declared.Progress.{Progress}

pub record Standing : Type 0 where
  pub lent : Lent
  pub line : List ℕ
  pub pending : ℕ
  pub count : ℕ
  pub out : List ℕ
  pub at : ℕ

pub record Buffers : Type 0 where
  pub requesters : List ℕ
  pub entries : List ℕ
  pub memory : List ℕ
  pub peers : List ℕ
  pub interrupts : List ℕ
  pub windows : List ℕ
  pub segments : List ℕ
  pub state : List ℕ
  pub line : List ℕ
  pub out : List ℕ

abbrev pub buffers : (requesters entries memory peers interrupts windows segments state line out : List ℕ) → Buffers
buffers q e m p n w g t b o = record {
  requesters = q;
  entries = e;
  memory = m;
  peers = p;
  interrupts = n;
  windows = w;
  segments = g;
  state = t;
  line = b;
  out = o;
}

abbrev pub lent_buffers : Lists → (line out : List ℕ) → Buffers
lent_buffers l b o =
    buffers
    l.requesters.now
    l.entries.now
    l.memory.now
    l.peers.now
    l.interrupts.now
    l.windows.now
    l.segments.now
    l.state.now
    b
    o

abbrev pub buffers_of : Standing → Buffers
buffers_of s =
    buffers
    s.lent.requesters
    s.lent.entries
    s.lent.memory
    s.lent.peers
    s.lent.interrupts
    s.lent.windows
    s.lent.segments
    s.lent.state
    s.line
    s.out

abbrev pub progress_of : Standing → Progress
progress_of s = record { extent = s.lent.extent; pending = s.pending; count = s.count }

abbrev pub standing : Progress → Buffers → (at : ℕ) → Standing
standing p b a = record {
  lent = lent p.extent b.requesters b.entries b.memory b.peers b.interrupts b.windows b.segments b.state;
  line = b.line;
  pending = p.pending;
  count = p.count;
  out = b.out;
  at = a;
}

abbrev pub line_in : Standing → Parsed
line_in s = line_of (take s.pending s.line)

abbrev pub reply_now : Standing → Reply
reply_now s = reply_in s.lent (line_in s)

abbrev pub said_now : Standing → List ℕ
said_now s = text_of s.count (reply_now s)

abbrev pub last_count : ℕ
last_count = 18446744073709551615

unfoldable pub free : Standing → Bool
free s = ltb s.count last_count && leb (s.at + line_most) (length s.out) && room_for (line_in s) (lengths_in s.lent)

abbrev pub answered : Standing → Standing
answered s = record {
  lent = after_in s.lent (line_in s);
  line = s.line;
  pending = 0;
  count = count_after s.count (reply_now s);
  out = sets s.out s.at (said_now s);
  at = s.at + length (said_now s);
}

unfoldable pub line_done : Standing → Standing
line_done s = cond (free s) (answered s) s

abbrev pub fits : Standing → Bool
fits s = eqb (length s.line) line_kept && leb s.pending line_kept
