-- What a line says and what it writes, in the code's types.
--     Parsed              the line, or bad
--     Reply               nothing (silent), an output line with these numbers (says), or no_room: the lent tables are too short for a size line
-- Assumes nothing.
use Rattle.std.specs.Prelude.{Option, Some, None, Result, Ok, Err}
use Rattle.kinds.specs.declared.answer.Numbers.{Numbers}
use Rattle.replay_text.specs.declared.Line.{Line}
use Rattle.replay_text.specs.declared.BadLine.{BadLine}
use Rattle.replay_text.specs.declared.NoRoom.{NoRoom}

abbrev pub Parsed : Type 0
Parsed = Result Line BadLine

abbrev pub bad : Parsed
bad = Err (record {})

abbrev pub Reply : Type 0
Reply = Result (Option Numbers) NoRoom

abbrev pub silent : Reply
silent = Ok None

abbrev pub says : Numbers → Reply
says x = Ok (Some x)

abbrev pub no_room : Reply
no_room = Err (record {})
