-- What the functions of a replay promise.
--     KeptTo b l i k c    from place i of input l the bytes up to a line feed or the end were kept in buffer b: c, up to the place that k says
--     MovedTo s l i t m   from place i of input l, a line was read and ended: the replay stands at t, and m says the place after those bytes and the place up
--                         to which bytes can be taken: the end of l, or the same place, where the line cannot end
--     moved_by p a e j n  what the end e of a line makes of its line feed at place j of an input of n bytes, where the replay stood at p and the output ended at a
--     Started p           progress p is before the first byte, whatever the lent lists hold
--     FedAs s l r c       a piece l was fed where the replay stood at s: r was returned and c are the lent lists afterwards
-- Assumes nothing.
use Rattle.std.specs.Prelude.{◌≡◌, Bool, true, cond, List, ℕ, ◌+◌, ◌<◌, length, take, drop, Result, Ok, Err, is_ok}
use Rattle.replay_session.specs.Standing.{Standing, Buffers, buffers_of, progress_of, standing, fits}
use Rattle.replay_text.specs.declared.NoRoom.{NoRoom}
use Rattle.replay_session.specs.EndPromise.{progress_after, at_after}
use Rattle.replay_session.specs.declared.Ended.{Ended}
use Rattle.replay_session.specs.declared.Progress.{Progress}
use Rattle.replay_text.specs.SessionIsolation.{SessionIsolation}
use Rattle.replay_text.specs.Stream.{begin, before}
use Rattle.replay_text.specs.Whole.{Whole}
use Rattle.replay_feed.specs.Feed.{Buffer, kept_all, Fed, later, stopped, feed_all}
use Rattle.replay_feed.specs.InText.{InText, stream_in}
use Rattle.replay_feed.specs.declared.Fed.{Fed as FedPart}
use Rattle.replay_feed.specs.declared.Unfit.{Unfit}
use Rattle.replay_feed.specs.declared.Kept.{Kept}
use Rattle.replay_feed.specs.declared.Moved.{Moved}

pub record KeptTo (b : Buffer) (l : List ℕ) (i : ℕ) (k : Kept) (c : Buffer) : Type 0 where
  pub next : k.next ≡ i + before (drop i l)
  pub keeps : c ≡ kept_all b (take (before (drop i l)) (drop i l))

-- a line feed at place j of an input, by the end of its line
abbrev pub moved_by : Progress → (a : ℕ) → Result Ended NoRoom → (j length : ℕ) → Moved
moved_by p a e j n = record { progress = progress_after p e; at = at_after a e; next = cond (is_ok e) (j + 1) j; limit = cond (is_ok e) n j }

pub record MovedTo (s : Standing) (l : List ℕ) (i : ℕ) (t : Standing) (m : Moved) : Type 0 where
  pub more : Bool
  pub bytes : ℕ
  pub next : m.next ≡ i + bytes
  pub limit : m.limit ≡ cond more (length l) m.next
  pub some : more ≡ true → 0 < bytes
  pub same : feed_all s (drop i l) ≡ later bytes (cond more (feed_all t (drop m.next l)) (stopped t))
  pub fit : fits t ≡ true

-- before the first byte, whatever the lent lists hold
pub record Started (p : Progress) : Type 0 where
  pub begins : (b : Buffers) (a : ℕ) → stream_in (standing p b a) ≡ begin
  pub fit : (b : Buffers) (a : ℕ) → length b.line ≡ 128 → fits (standing p b a) ≡ true
  pub whole : Whole

abbrev pub FedResult : Type 0
FedResult = Result FedPart Unfit

abbrev pub fed_result : Fed → FedResult
fed_result f = Ok (record { progress = progress_of f.standing; bytes = f.bytes; at = f.standing.at })

pub record FedAs (s : Standing) (l : List ℕ) (r : FedResult) (c : Buffers) : Type 0 where
  pub returns : r ≡ cond (fits s) (fed_result (feed_all s l)) (Err (record {}))
  pub leaves : c ≡ cond (fits s) (buffers_of (feed_all s l).standing) (buffers_of s)
  pub text : InText
  pub whole : Whole
  pub isolation : SessionIsolation
