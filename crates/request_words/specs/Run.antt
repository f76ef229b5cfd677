-- A list of requests as words: what each gets, and what the list leaves.
--     served w l          how many whole requests the request words w and the answer words l both hold
--     Ran S               the tables that are written, and the answer words
--     ran_one_on, ran_on  on any machine: request k served on r, and the first n requests, each on the tables as the last one left them; `asked` is what is
--                         asked as request k
--     answers_on          what the requests of a list, not as words, are answered, each on the tables as the last one left them
--     RunState, run_state t i l   of the bridge: state t, interrupts i and answer words l
--     ran_one f m w r k   request k of the request words w served on r; ran_to f m w s l n: after the first n requests; answers_to f m s l: of a list
-- Assumes nothing.
use Rattle.std.specs.Prelude.{List, [], ◌∷◌, ℕ, zero, suc, ◌/◌, min, length}
use Rattle.kinds.specs.declared.answer.Answer.{Answer}
use Rattle.kinds.specs.declared.request.Request.{Request}
use Rattle.profile.specs.Step.{answered, after}
use Rattle.profile.specs.Tables.{Tables, Live}
use Rattle.request_words.specs.Layout.{request_words, answer_words, decoded_at, written}

abbrev pub served : (requests answers : List ℕ) → ℕ
served w l = min (length w / request_words) (length l / answer_words)

pub record Ran (S : Type 0) : Type 0 where
  pub live : S
  pub answers : List ℕ

module _ {S Q : Type 0} (next : S → Q → S) (answer : S → Q → Answer) where
  abbrev pub ran_one_on : (ℕ → Q) → Ran S → ℕ → Ran S
  ran_one_on asked r k = record { live = next r.live (asked k); answers = written r.answers k (answer r.live (asked k)) }

  unfoldable pub ran_on : (ℕ → Q) → S → (answers : List ℕ) → ℕ → Ran S
  ran_on asked s l zero = record { live = s; answers = l }
  ran_on asked s l (suc k) = ran_one_on asked (ran_on asked s l k) k

  abbrev pub answers_on : S → List Q → List Answer
  answers_on s [] = []
  answers_on s (q ∷ l) = answer s q ∷ answers_on (next s q) l

-- ---- the bridge

abbrev pub RunState : Type 0
RunState = Ran Live

abbrev pub run_state : (state interrupts answers : List ℕ) → RunState
run_state t i l = record { live = record { state = t; interrupts = i }; answers = l }

abbrev pub ran_one : Tables → (memory requests : List ℕ) → RunState → ℕ → RunState
ran_one f m w r k = ran_one_on (after f m) (answered f m) (decoded_at w) r k

abbrev pub ran_to : Tables → (memory requests : List ℕ) → Live → (answers : List ℕ) → ℕ → RunState
ran_to f m w s l n = ran_on (after f m) (answered f m) (decoded_at w) s l n

abbrev pub answers_to : Tables → (memory : List ℕ) → Live → List Request → List Answer
answers_to f m s l = answers_on (after f m) (answered f m) s l
