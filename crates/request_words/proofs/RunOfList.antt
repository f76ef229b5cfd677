-- Theorems of specs/RunOfList.antt.
--     run_of_list         THE THEOREM
-- Assumes nothing.
use Rattle.std.specs.Prelude.{◌≡◌, List, ◌++◌, ℕ, ◌+◌, ◌*◌, ◌/◌, ◌<◌, ◌≤◌, length, take}
use Rattle.std.proofs.Common.{sym, ◌∙◌, arith, length-append, length-take-le}
use Rattle.std.proofs.Math.Nat.{min-eq_left, min-eq_right}
use Rattle.std.proofs.Math.Seq.{take-length}
use Rattle.kinds.specs.declared.request.Request.{Request}
use Rattle.profile.specs.Tables.{Tables, Live}
use Rattle.request_words.proofs.EncodedLaws.{length_words_of, requests-back}
use Rattle.request_words.specs.Layout.{request_words, answer_words, words_of, Brought, requests_from}
use Rattle.request_words.specs.Run.{served}
use Rattle.request_words.proofs.RunLaws.{room, ran_to-live, ran_to-answers}
use Rattle.request_words.specs.RunOfList.{RunOfList, Serves}

-- as many as are served
serves : (f : Tables) (m : List ℕ) (s : Live) (l : List Request) → Brought l → (y x : List ℕ) (n : ℕ) → n ≤ length l → served (words_of l ++ y) x ≡ n
    → Serves f m s (words_of l ++ y) x (take n l)
serves f m s l b y x n h e =
    let w = words_of l ++ y in
    let i = served w x in
    let back : requests_from w 0 i ≡ take n l = rw e (requests-back l b y n h) in
    record {
      count = e ∙ sym (length-take-le n l h);
      leaves = ran_to-live f m w s x i ∙ rw back;
      answers = ran_to-answers f m w s x i (room w x) ∙ rw back;
    }

module _ (l : List Request) (y x : List ℕ) where
  words : length (words_of l ++ y) ≡ length l * request_words + length y
  words = rw (length-append, length_words_of)

  all-counted : length y < request_words → length l * answer_words ≤ length x → served (words_of l ++ y) x ≡ length l
  all-counted g h =
      let e : length (words_of l ++ y) / request_words ≡ length l = rw words (omega arith) in
      rw e (min-eq_left (omega arith))

  first_counted : length x / answer_words ≤ length l → served (words_of l ++ y) x ≡ length x / answer_words
  first_counted h = min-eq_right (rw words (omega arith))

pub run_of_list : RunOfList
run_of_list = record {
  all-served = λ f m s l b y g x h. rw take-length at (serves f m s l b y x (length l) (omega arith) (all-counted l y x g h));
  first-served = λ f m s l b y x h. serves f m s l b y x (length x / answer_words) h (first_counted l y x h);
}
