-- Lengths of the lines that a replay writes.
--     head_most_lem, tail_most_lem  the two parts of a line are no longer than head_most and tail_most
--     line-most           no answer's line is longer than line_most
-- Assumes nothing.
use Rattle.std.specs.Prelude.{ℕ, ◌≤◌, length}
use Rattle.std.proofs.Common.{arith, length-append}
use Rattle.replay_text.proofs.DigitsLaws.{length_digits, decimal-most}
use Rattle.kinds.specs.declared.answer.Numbers.{Numbers}
use Rattle.replay_text.proofs.NameLaws.{name_most_lem}
use Rattle.replay_text.specs.Text.{head_of, tail_of, answer_line, head_most, tail_most, line_most}

pub head_most_lem : (n name : ℕ) → length (head_of n name) ≤ head_most
unfolding head_of
head_most_lem n name = simp length-append (omega (arith, decimal-most n, name_most_lem name))

pub tail_most_lem : (reason value words : ℕ) → length (tail_of reason value words) ≤ tail_most
unfolding tail_of
tail_most_lem reason value words = simp length-append (omega (arith, decimal-most reason, length_digits 16 16 value, decimal-most words))

pub line-most : (n : ℕ) (x : Numbers) → length (answer_line n x) ≤ line_most
line-most n x = simp length-append (omega (arith, head_most_lem n x.name, tail_most_lem x.reason x.value x.words))
