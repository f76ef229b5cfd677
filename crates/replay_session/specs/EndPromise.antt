-- What the end of a line is promised to do.
--     EndedTo s e t       at s, the line ended as e says and left t
--     RanTo s e t         the same of a line that the output and its count have room for
--     ended_at x n a      where a replay stands after a line: extent x, n output lines, the end a of the output
--     ran_by a n r        the end of a line that ran and replied r, after n output lines that end at a
--     progress_after p e, at_after a e    where the replay stands after the end e of a line; where it could not end, where it stood before
-- Assumes nothing.
use Rattle.std.specs.Prelude.{◌≡◌, cond, ℕ, ◌+◌, length, Result, Ok, Err, is_ok}
use Rattle.replay_text.specs.SessionIsolation.{SessionIsolation}
use Rattle.replay_text.specs.Replay.{text_of, count_after}
use Rattle.replay_text.specs.Results.{Reply}
use Rattle.replay_text.specs.declared.NoRoom.{NoRoom}
use Rattle.replay_tables.specs.Lent.{lengths_in, room_for}
use Rattle.replay_tables.specs.declared.Extent.{Extent}
use Rattle.replay_tables.specs.declared.Replied.{Replied}
use Rattle.replay_session.specs.Standing.{Standing, line_in, free, answered, line_done}
use Rattle.replay_session.specs.declared.Ended.{Ended}
use Rattle.replay_session.specs.declared.Progress.{Progress}

abbrev pub ended_at : Extent → (n a : ℕ) → Ended
ended_at x n a = record { progress = record { extent = x; pending = 0; count = n }; at = a }

-- the end of a line that ran, by what it wrote
abbrev ran_reply : Extent → (a n : ℕ) → Reply → Result Ended NoRoom
ran_reply x a n (Ok o) = Ok (ended_at x (count_after n (Ok o)) (a + length (text_of n (Ok o))))
ran_reply x a n (Err e) = Err e

abbrev pub ran_by : (a n : ℕ) → Replied → Result Ended NoRoom
ran_by a n r = ran_reply r.extent a n r.reply

abbrev pub progress_after : Progress → Result Ended NoRoom → Progress
progress_after p (Ok d) = d.progress
progress_after p (Err e) = p

abbrev pub at_after : ℕ → Result Ended NoRoom → ℕ
at_after a (Ok d) = d.at
at_after a (Err e) = a

pub record EndedTo (s : Standing) (e : Result Ended NoRoom) (t : Standing) : Type 0 where
  pub could : is_ok e ≡ free s
  pub leaves : t ≡ line_done s
  pub isolation : SessionIsolation

pub record RanTo (s : Standing) (e : Result Ended NoRoom) (t : Standing) : Type 0 where
  pub could : is_ok e ≡ room_for (line_in s) (lengths_in s.lent)
  pub leaves : t ≡ cond (room_for (line_in s) (lengths_in s.lent)) (answered s) s
