-- 01, 'Replay text': what a line does to a session.
--     Session             (of SessionTables) the tables, memory and what requests write
--     Parsed, Reply       (of Results) what a line says, and what it writes
--     reply_to s l        what line l writes; after_line s l: the session after it. A bad line changes nothing
-- Assumes nothing.
use Rattle.std.specs.Prelude.{cond, Ok, Err}
use Rattle.kinds.specs.Answer.{numbered}
use Rattle.replay_text.specs.SessionTables.{Session, emptied, stored, settable}
use Rattle.replay_text.specs.Results.{Parsed, Reply, silent, says}
use Rattle.replay_text.specs.declared.Line.TheVariants.{Size, Set, Request}
use Rattle.profile.specs.Step.{answered, after}
use Rattle.replay_text.specs.Text.{bad_numbers}

unfoldable pub reply_to : Session → Parsed → Reply
reply_to s (Ok (Size n m r w)) = silent
reply_to s (Ok (Set t i v)) = cond (settable s t i v) silent (says bad_numbers)
reply_to s (Ok (Request q)) = says (numbered (answered s.tables s.memory s.live q))
reply_to s (Err e) = says bad_numbers

unfoldable pub after_line : Session → Parsed → Session
after_line s (Ok (Size n m r w)) = emptied n m r w
after_line s (Ok (Set t i v)) = cond (settable s t i v) (stored s t i v) s
after_line s (Ok (Request q)) = record { tables = s.tables; memory = s.memory; live = after s.tables s.memory s.live q }
after_line s (Err e) = s
