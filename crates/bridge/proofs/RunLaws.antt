-- What `run` is proved from: a request of a list served is one step, and a list of steps is a run. Assumes nothing.
use mathlib.Core.Path.{◌≡◌, refl, ap, ◌∙◌}
use mathlib.Core.List.{List}
use Prim.Native.Nat.{ℕ, suc, ◌+◌, ◌*◌, ◌/◌, ◌≤◌, ◌<◌, min}
use native.Mathlib.Nat.{min-le_left, min-le_right}
use native.Mathlib.Omega.{arith}
use lib.ListN.{length}
use Rattle.kinds.specs.declared.answer.Answer.{Answer}
use Rattle.kinds.specs.declared.request.Request.{Request}
use Rattle.history.proofs.Release.{released}
use Rattle.isolation.proofs.Isolation.{isolation}
use Rattle.profile.specs.Tables.{Tables, Live}
use Rattle.profile.specs.Step.{answered}
use Rattle.request_words.specs.Layout.{request_words, answer_words, decoded_at, request_in, written, written_in}
use Rattle.request_words.proofs.LayoutLaws.{request_in_lem, written_in_lem}
use Rattle.request_words.proofs.RunIsolation.{run_isolation}
use Rattle.request_words.proofs.RunOfList.{run_of_list}
use Rattle.request_words.proofs.RunRelease.{run_released}
use Rattle.request_words.specs.Run.{ran_one, ran_on, RunState, ran_to, served}
use Rattle.handle.specs.Promise.{Handled}
use Rattle.bridge.specs.Promise.{RanAll}

pub requests_fit : (a b : ℕ) {n : ℕ} → n ≡ min (a / request_words) (b / answer_words) → n * request_words ≤ a
requests_fit a b e = omega (arith, min-le_left (a / request_words) (b / answer_words), e)

pub answers_fit : (a b : ℕ) {n : ℕ} → n ≡ min (a / request_words) (b / answer_words) → n * answer_words ≤ b
answers_fit a b e = omega (arith, min-le_right (a / request_words) (b / answer_words), e)

abbrev pub ran : Live → (answers : List ℕ) → RunState
ran s l = record { live = s; answers = l }

module _ (f : Tables) (m w : List ℕ) (s : Live) (l : List ℕ) where
  pub none_ran : ran s l ≡ ran_to f m w s l 0
  unfolding ran_on
  none_ran = refl

  step : (k : ℕ) {r : RunState} → r ≡ ran_to f m w s l k → ran_one f m w r k ≡ ran_to f m w s l (suc k)
  unfolding ran_on
  step k e = ap (λ (x : RunState). ran_one f m w x k) e

  -- request k, served on what the first k left
  pub one_ran : (n k : ℕ) {j v : List ℕ} {u t : Live} {q : Request} {a : Answer} → k < n → n * request_words ≤ length w → n * answer_words ≤ length l
      → length j ≡ length l → ran u j ≡ ran_to f m w s l k → q ≡ request_in w k → Handled f m u q a t → v ≡ written_in j k a
      → ran t v ≡ ran_to f m w s l (k + 1)
  one_ran n k {j} {v} {u} {t} {q} {a} low asks room same before e r told =
      let g : k * request_words + request_words ≤ length w = omega arith in
      let h : k * answer_words + answer_words ≤ length j = omega (arith, same) in
      let asked : q ≡ decoded_at w k = e ∙ request_in_lem w k g in
      let put : v ≡ written j k a = told ∙ written_in_lem j k a h in
      let next : k + 1 ≡ suc k = omega arith in
      let left : t ≡ (ran_one f m w (ran u j) k).live = r.leaves ∙ rw asked in
      let says : a ≡ answered f m u (decoded_at w k) = r.answers ∙ rw asked in
      rw (next, left, put, says) (step k before)

  pub all_ran : {n k : ℕ} {t : Live} {v : List ℕ} → n ≡ served w l → n ≤ k → k ≤ n → ran t v ≡ ran_to f m w s l k → RanAll f m w s l n t v
  all_ran {n} {k} e high low h =
      let z : k ≡ served w l = omega (arith, e) in
      let r = rw z at h in
      record {
        count = e;
        leaves = ap (λ (x : RunState). x.live) r;
        answers = ap (λ (x : RunState). x.answers) r;
        of_list = run_of_list;
        isolation = isolation;
        words-isolation = run_isolation;
        release = released;
        words-release = run_released;
      }
