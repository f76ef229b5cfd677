-- The paper's numbers of an answer.
--     reason_number r     the number of reason r in the table of answers
--     numbered a          answer a as numbers: its name (0 pass, 1 msi, 2 held, 3 ones, 4 drop, 5 refuse, 6 done), its reason (0: none),
--                         its value (an address, an interrupt number, all ones, or 0), the count of table words read, its PE, server and
--                         priority, and the address of the table word that failed (0 where an answer has none); plain: of an answer that has
--                         none of these four
--     refuse r            the refusal with no table word read, and none that failed
--     is_done a           answer a is done
-- Assumes nothing.
use Rattle.std.specs.Prelude.{Bool, true, false, ℕ}
use Rattle.kinds.specs.Number.{no_word}
use Rattle.kinds.specs.declared.answer.Answer.{Answer}
use Rattle.kinds.specs.declared.answer.Answer.TheVariants.{Pass, Msi, Held, Ones, Drop, Refuse, Done}
use Rattle.kinds.specs.declared.answer.Numbers.{Numbers}
use Rattle.kinds.specs.declared.answer.Reason.{Reason}
use Rattle.kinds.specs.declared.answer.Reason.TheVariants.{TableLength, BadRequest, UnknownRequester, DmaStopped, AddressClass, BadEntry, OutsideWindow, TableWord, MsiRefused, NoWindow, MmioStopped, ErrorMessage, FrozenAsPeer, BadFirmware, OutsideMemory, AboveInstalled, Fenced}

abbrev pub reason_number : Reason → ℕ
reason_number TableLength = 1
reason_number BadRequest = 2
reason_number UnknownRequester = 3
reason_number DmaStopped = 4
reason_number AddressClass = 5
reason_number BadEntry = 6
reason_number OutsideWindow = 7
reason_number TableWord = 8
reason_number MsiRefused = 9
reason_number NoWindow = 10
reason_number MmioStopped = 11
reason_number ErrorMessage = 12
reason_number FrozenAsPeer = 13
reason_number BadFirmware = 14
reason_number OutsideMemory = 15
reason_number AboveInstalled = 17
reason_number Fenced = 18

-- an answer that names no PE, server, priority or table word
abbrev pub plain : (name reason value words : ℕ) → Numbers
plain n r v w = record { name = n; reason = r; value = v; words = w; pe = 0; server = 0; priority = 0; word = 0 }

abbrev pub numbered : Answer → Numbers
numbered (Pass a p w) = record { name = 0; reason = 0; value = a.0; words = w; pe = p.0; server = 0; priority = 0; word = 0 }
numbered (Msi n s p) = record { name = 1; reason = 0; value = n; words = 0; pe = 0; server = s; priority = p; word = 0 }
numbered (Held n) = plain 2 0 n 0
numbered (Ones r v) = plain 3 (reason_number r) v 0
numbered (Drop r) = plain 4 (reason_number r) 0 0
numbered (Refuse r n w) = record { name = 5; reason = reason_number r; value = 0; words = n; pe = 0; server = 0; priority = 0; word = w.0 }
numbered Done = plain 6 0 0 0

abbrev pub refuse : Reason → Answer
refuse r = Refuse r 0 no_word

abbrev pub is_done : Answer → Bool
is_done (Pass a p w) = false
is_done (Msi n s p) = false
is_done (Held n) = false
is_done (Ones r v) = false
is_done (Drop r) = false
is_done (Refuse r n w) = false
is_done Done = true
