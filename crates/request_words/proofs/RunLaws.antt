-- A run over words is the run of the requests that the words name.
--     room                the answer words have room for what is served
--     ran_on-live         on any machine a run leaves what the list of its requests leaves
--     ran_on-answers      its first answer words are the answers to that list, one after the other, and the others stay
--     ran_to-live, ran_to-answers  these of the bridge
-- Assumes nothing.
use Rattle.std.specs.Prelude.{◌≡◌, refl, List, [], ◌∷◌, length}
use Rattle.std.proofs.Common.{ap, ◌∙◌}
use Prim.Native.Nat.{ℕ, zero, suc, ◌+◌, ◌*◌, ◌/◌, ◌≤◌}
use Rattle.std.proofs.Math.Nat.{add-zero, zero-add, min-le_right}
use native.Mathlib.Omega.{arith}
use Rattle.kinds.specs.declared.answer.Answer.{Answer}
use Rattle.isolation.specs.Machine.{end}
use Rattle.profile.specs.Step.{answered, after}
use Rattle.profile.specs.Tables.{Tables, Live}
use Rattle.request_words.specs.Layout.{request_words, answer_words, asked_from, requests_from, decoded_at, answers_of, over}
use Rattle.request_words.proofs.LayoutLaws.{written_from, all-written}
use Rattle.request_words.specs.Run.{Ran, served, ran_on, answers_on, ran_to, answers_to}

pub room : (w l : List ℕ) → served w l * answer_words ≤ length l
room w l = omega (arith, min-le_right (length w / request_words) (length l / answer_words))

length_asked : {Q : Type 0} (asked : ℕ → Q) (k n : ℕ) → length (asked_from asked k n) ≡ n
length_asked asked k zero = refl
length_asked asked k (suc n) = ap suc (length_asked asked (suc k) n)

module _ {S Q : Type 0} (next : S → Q → S) (answer : S → Q → Answer) where
  length_answers : (s : S) (l : List Q) → length (answers_on next answer s l) ≡ length l
  length_answers s [] = refl
  length_answers s (q ∷ l) = ap suc (length_answers (next s q) l)

  module _ (asked : ℕ → Q) (s : S) (x : List ℕ) where
    -- the tables that request k meets, and the answer words
    met : ℕ → Ran S
    met k = ran_on next answer asked s x k

    -- n requests from request k
    met-from : (k n : ℕ) → met (k + n) ≡ record {
      live = end next (met k).live (asked_from asked k n);
      answers = written_from (met k).answers k (answers_on next answer (met k).live (asked_from asked k n));
    }
    unfolding met ran_on
    met-from k zero = rw add-zero
    met-from k (suc n) = let e : k + suc n ≡ suc k + n = omega arith in rw e (met-from (suc k) n)

    all-met : (n : ℕ) → ran_on next answer asked s x n
        ≡ record { live = end next s (asked_from asked 0 n); answers = written_from x 0 (answers_on next answer s (asked_from asked 0 n)) }
    unfolding met ran_on
    all-met n = rw zero-add at (met-from 0 n)

    pub ran_on-live : (n : ℕ) → (ran_on next answer asked s x n).live ≡ end next s (asked_from asked 0 n)
    ran_on-live n = ap (λ (r : Ran S). r.live) (all-met n)

    pub ran_on-answers : (n : ℕ) → n * answer_words ≤ length x → (ran_on next answer asked s x n).answers ≡ over (answers_of (answers_on next answer s (asked_from asked 0 n))) x
    ran_on-answers n h =
        ap (λ (r : Ran S). r.answers) (all-met n)
        ∙ all-written x (answers_on next answer s (asked_from asked 0 n)) (rw (length_answers, length_asked) h)

module _ (f : Tables) (m w : List ℕ) (s : Live) (x : List ℕ) where
  pub ran_to-live : (n : ℕ) → (ran_to f m w s x n).live ≡ end (after f m) s (requests_from w 0 n)
  ran_to-live = ran_on-live (after f m) (answered f m) (decoded_at w) s x

  pub ran_to-answers : (n : ℕ) → n * answer_words ≤ length x → (ran_to f m w s x n).answers ≡ over (answers_of (answers_to f m s (requests_from w 0 n))) x
  ran_to-answers = ran_on-answers (after f m) (answered f m) (decoded_at w) s x
