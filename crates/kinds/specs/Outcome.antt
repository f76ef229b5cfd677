-- The outcomes that recur.
--     passed p a n        a pass of PE p to address a with n table words read: nothing is changed
--     kept a              answer a: nothing is changed
--     refused r           a refusal with no table word read: nothing is changed
--     failed r a n w      a refusal that freezes the PE, alone: the record's value is the address a of the request; n table words were read, and the
--                         one at w failed, which answer and record both say
--     done e              done, with effect e
--     settled x           what is known of a request, a refusal with no table word read being that it is kept
-- Assumes nothing.
use Rattle.std.specs.Prelude.{false, ℕ, Result, Ok, Err}
use Rattle.kinds.specs.Answer.{refuse}
use Rattle.kinds.specs.declared.answer.Answer.{Answer}
use Rattle.kinds.specs.declared.answer.Answer.TheVariants.{Pass, Refuse, Done}
use Rattle.kinds.specs.declared.answer.Reason.{Reason}
use Rattle.kinds.specs.declared.number.ByteAddress.{ByteAddress}
use Rattle.kinds.specs.declared.number.PeNumber.{PeNumber}
use Rattle.kinds.specs.declared.outcome.Check.{Check}
use Rattle.kinds.specs.declared.outcome.Check.TheVariants.{Kept}
use Rattle.kinds.specs.declared.outcome.Effect.{Effect}
use Rattle.kinds.specs.declared.outcome.Effect.TheVariants.{Keep, Freeze}
use Rattle.kinds.specs.declared.outcome.Outcome.{Outcome}

abbrev pub kept : Answer → Outcome
kept a = record { answer = a; effect = Keep }

abbrev pub passed : PeNumber → ByteAddress → (words : ℕ) → Outcome
passed p a n = kept (Pass a p n)

abbrev pub refused : Reason → Outcome
refused r = kept (refuse r)

abbrev pub failed : Reason → ByteAddress → (words : ℕ) → (word : ByteAddress) → Outcome
failed r a n w = record { answer = Refuse r n w; effect = Freeze (record { reason = r; value = a.0; word = w }) false }

abbrev pub done : Effect → Outcome
done e = record { answer = Done; effect = e }

abbrev pub settled : Result Check Reason → Check
settled (Ok x) = x
settled (Err r) = Kept (refuse r)
