-- Theorems of specs/RunIsolation.antt.
--     run_isolation       THE THEOREM
-- Assumes nothing.
use Rattle.std.specs.Prelude.{◌≡◌, Bool, List, [], ◌++◌, map, drop}
use Rattle.std.proofs.Math.Path.{refl}
use Rattle.std.proofs.Common.{sym, ap, ◌∙◌, append_assoc, arith, length-append}
use Prim.Native.Nat.{ℕ, zero, suc, ◌*◌, ◌≤◌}
use Rattle.std.proofs.Math.Nat.{suc-mul}
use Rattle.std.proofs.Math.ListN.{length}
use Rattle.kinds.proofs.Tests.{by_cases}
use Rattle.kinds.specs.declared.number.PeNumber.{PeNumber}
use Rattle.kinds.specs.declared.request.Request.{Request}
use Rattle.isolation.specs.Isolation.{machine}
use Rattle.isolation.proofs.Isolation.{isolation, belongs-keeps}
use Rattle.isolation.specs.Machine.{seen}
use Rattle.isolation.specs.View.{Bridge}
use Rattle.profile.specs.Agree.{belongs}
use Rattle.profile.specs.Step.{answered, after}
use Rattle.profile.specs.Tables.{Live}
use Rattle.request_words.specs.Layout.{answer_words, decoded_at, requests_from, answer_list, answers_of, words_at}
use Rattle.request_words.proofs.LayoutLaws.{words-at}
use Rattle.request_words.specs.Run.{served, ran_to, answers_to}
use Rattle.request_words.proofs.RunLaws.{room, ran_to-live, ran_to-answers}
use Rattle.request_words.specs.RunIsolation.{RunIsolation, own_answers, own_answers_from}

-- ---- the words of the own answers are the own answers in words

module _ (G : PeNumber → Bool) (a : Bridge) (w : List ℕ) where
  -- the words of what the group is answered: of n requests from request k, on tables s
  told : Live → (k n : ℕ) → List (List ℕ)
  told s k n = map answer_list (seen (machine G a.tables a.memory) s (requests_from w k n))

  own-words : (v : List ℕ) (k : ℕ) → length v ≡ k * answer_words → (n : ℕ) (s : Live)
      → ((q : Request) → belongs G a.tables s q ≡ belongs G a.tables a.live q) → (y : List ℕ)
      → own_answers_from G a w (v ++ (answers_of (answers_to a.tables a.memory s (requests_from w k n)) ++ y)) k n ≡ told s k n
  unfolding told
  own-words v k e zero s o y = refl
  own-words v k e (suc n) s o y =
      let q = decoded_at w k in
      let t = after a.tables a.memory s q in
      let r = answered a.tables a.memory s q in
      let z = answers_of (answers_to a.tables a.memory t (requests_from w (suc k) n)) ++ y in
      let next : length (v ++ answer_list r) ≡ suc k * answer_words = rw (length-append, e) (omega (arith, suc-mul k answer_words)) in
      let here : words_at (v ++ (answer_list r ++ z)) k ≡ answer_list r = words-at v z k r e in
      let rest : own_answers_from G a w (v ++ (answer_list r ++ z)) (suc k) n ≡ told t (suc k) n =
      rw (append_assoc v (answer_list r) z) at (own-words (v ++ answer_list r) (suc k) next n t (λ p. belongs-keeps G a.tables a.memory s q p ∙ o p) y) in
      rw (o q) (by_cases (belongs G a.tables a.live q) (λ b. rw (b, here, rest)) (λ b. rw (b, rest)))

  own-answers : (l : List ℕ) (n : ℕ) → n * answer_words ≤ length l
      → own_answers G a w (ran_to a.tables a.memory w a.live l n).answers n ≡ told a.live 0 n
  own-answers l n h =
      let x = answers_of (answers_to a.tables a.memory a.live (requests_from w 0 n)) in
      rw (ran_to-answers a.tables a.memory w a.live l n h) (own-words [] 0 refl n a.live (λ q. refl) (drop (length x) l))

pub run_isolation : RunIsolation
unfolding told
run_isolation = record {
  isolated = λ G a b c v w u l k e.
      let both = isolation.isolated G a b c v (requests_from w 0 (served w l)) (requests_from u 0 (served u k)) e in
      let x = ran_to-live a.tables a.memory w a.live l (served w l) in
      let y = ran_to-live b.tables b.memory u b.live k (served u k) in (
        own-answers G a w l (served w l) (room w l) ∙ ap (map answer_list) both.0 ∙ sym (own-answers G b u k (served u k) (room u k)),
        rw (x, y) both.1,
        rw (x, y) both.2,
      );
}
