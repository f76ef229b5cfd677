-- The lines that a replay writes.
--     header              the first line
--     answer_line n x     output line n: n, the answer's name, its reason, its value and its count of table words, parted by tabs, with a line feed
--     head_of, tail_of     the first two fields of a line, and the other three
--     head_most, tail_most, line_most  their bytes at most, and those of a line; name_room: of a name and the tab after it
--     bad_numbers         what a bad line answers
-- Assumes nothing.
use Rattle.std.specs.Prelude.{List, ◌++◌, ℕ, ◌+◌}
use Rattle.replay_text.specs.Bytes.{bytes, tab, line_feed}
use Rattle.kinds.specs.Answer.{plain}
use Rattle.kinds.specs.declared.answer.Numbers.{Numbers}
use Rattle.replay_text.specs.Digits.{decimal, hexadecimal, ended_by, decimal_room, hexadecimal_room}
use Rattle.replay_text.specs.Name.{name_of, name_most}

-- the first two fields of a line, and the other three
unfoldable pub head_of : (n name : ℕ) → List ℕ
head_of n name = ended_by tab (decimal n) ++ ended_by tab (name_of name)

unfoldable pub tail_of : (reason value words : ℕ) → List ℕ
tail_of reason value words = ended_by tab (decimal reason) ++ (ended_by tab (hexadecimal value) ++ ended_by line_feed (decimal words))

abbrev pub answer_line : ℕ → Numbers → List ℕ
answer_line n x = head_of n x.name ++ tail_of x.reason x.value x.words

abbrev pub header : List ℕ
header = bytes "n\tanswer\treason\tvalue\twords\n"

abbrev pub bad_numbers : Numbers
bad_numbers = plain 7 0 0 0

abbrev pub name_room : ℕ
name_room = name_most + 1

abbrev pub head_most : ℕ
head_most = decimal_room + name_room

abbrev pub tail_most : ℕ
tail_most = decimal_room + hexadecimal_room + decimal_room

abbrev pub line_most : ℕ
line_most = head_most + tail_most
