-- Theorems of specs/RunRelease.antt.
--     run_released        THE THEOREM
-- Assumes nothing.
use Rattle.std.specs.Prelude.{◌≡◌, List, ◌++◌, ℕ, zero, suc, ◌*◌, ◌<◌, ◌≤◌, length}
use Rattle.std.proofs.Common.{sym, ap, ◌∙◌, arith}
use Rattle.kinds.specs.declared.request.Request.{Request}
use Rattle.history.specs.History.{unfrozen}
use Rattle.history.proofs.Release.{released, left_both}
use Rattle.isolation.specs.Corollaries.{ran}
use Rattle.isolation.specs.Isolation.{left}
use Rattle.isolation.specs.View.{Bridge}
use Rattle.profile.specs.Step.{answered}
use Rattle.profile.specs.Tables.{Live}
use Rattle.request_words.specs.Layout.{answer_words, decoded_at, answer_list, words_at}
use Rattle.request_words.specs.Run.{served, ran_to}
use Rattle.request_words.proofs.RunLaws.{room, ran_to-live, ran_to-answers}
use Rattle.request_words.specs.RunRelease.{RunReleased, run_left, run_requests}

-- a run after a list leaves what the list of both leaves
run_left_lem : (a : Bridge) (l : List Request) (w x : List ℕ) → run_left (ran a l) w x ≡ left a (l ++ run_requests w x)
run_left_lem a l w x = ran_to-live a.tables a.memory w (left a l) x (served w x) ∙ sym (left_both a l (run_requests w x))

-- the words of the first answer
first-words : (a : Bridge) (s : Live) (w x : List ℕ) (n : ℕ) → 0 < n → n * answer_words ≤ length x
    → words_at (ran_to a.tables a.memory w s x n).answers 0 ≡ answer_list (answered a.tables a.memory s (decoded_at w 0))
first-words a s w x zero o h = absurd (omega arith)
first-words a s w x (suc n) o h = rw (ran_to-answers a.tables a.memory w s x (suc n) h)

pub run_released : RunReleased
run_released = record {
  stop = λ a z l w x k low. rw (run_left_lem a l w x) (released.stop a z (l ++ run_requests w x) k low);
  error_record = λ a z l w x k low. rw (run_left_lem a l w x) (released.error_record a z (l ++ run_requests w x) k low);
  release = λ a z l r k low c w x o h.
      let t = left (ran a l) r in
      first-words a t w x (served w x) o (room w x) ∙ ap answer_list (released.release a z l r k low c (decoded_at w 0) h)
      ∙ sym (first-words a (unfrozen a.tables.sizes.pes t) w x (served w x) o (room w x));
}
