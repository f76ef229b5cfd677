-- 01, 'Replay text': the whole output of an input.
--     lines_from p l       the lines of bytes l, of which p is the start of the first; what follows the last line feed counts if it is not empty
--     text_of n r          the bytes that reply r writes after n output lines; count_after n r: how many output lines there are then
--     answers n s ls      the bytes that lines ls write, on session s and after n output lines
--     output l            the output of input l
-- Assumes nothing.
use Rattle.std.specs.Prelude.{cond, List, [], ◌∷◌, ◌++◌, ℕ, ◌+◌, eqb, length, Ok, Err, Some, None}
use Rattle.replay_text.specs.Bytes.{line_feed}
use Rattle.replay_text.specs.Line.{line_of}
use Rattle.replay_text.specs.Text.{header, answer_line}
use Rattle.replay_text.specs.SessionTables.{Session, start}
use Rattle.replay_text.specs.Session.{reply_to, after_line}
use Rattle.replay_text.specs.Results.{Reply}

unfoldable pub lines_from : List ℕ → List ℕ → List (List ℕ)
lines_from p [] = cond (eqb (length p) 0) [] (p ∷ [])
lines_from p (b ∷ l) = cond (eqb b line_feed) (p ∷ lines_from [] l) (lines_from (p ++ (b ∷ [])) l)

abbrev pub text_of : ℕ → Reply → List ℕ
text_of n (Ok None) = []
text_of n (Ok (Some x)) = answer_line (n + 1) x
text_of n (Err e) = []

abbrev pub count_after : ℕ → Reply → ℕ
count_after n (Ok None) = n
count_after n (Ok (Some x)) = n + 1
count_after n (Err e) = n

unfoldable pub answers : ℕ → Session → List (List ℕ) → List ℕ
answers n s [] = []
answers n s (l ∷ ls) = text_of n (reply_to s (line_of l)) ++ answers (count_after n (reply_to s (line_of l))) (after_line s (line_of l)) ls

unfoldable pub output : List ℕ → List ℕ
output l = header ++ answers 0 start (lines_from [] l)
