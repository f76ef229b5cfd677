-- A run over the words of a list of requests is the run of the list.
--     Serves f m s w x l  the run over request words w and answer words x serves the requests of list l, and no other: their number, what they
--                         leave, and their answers in the place of the first answer words
--     RunOfList           THE CLAIM: of any requests that a caller can bring, and what follows their words, all are served where the answer words
--                         have room, and else the first ones, as many as they have room for
-- The theorems are in proofs/RunOfList.antt. Assumes nothing.
use Rattle.std.specs.Prelude.{◌≡◌, List, ◌++◌, ℕ, ◌*◌, ◌/◌, ◌<◌, ◌≤◌, length, take}
use Rattle.kinds.specs.declared.request.Request.{Request}
use Rattle.isolation.specs.Machine.{end}
use Rattle.profile.specs.Step.{after}
use Rattle.profile.specs.Tables.{Tables, Live}
use Rattle.request_words.specs.Layout.{request_words, answer_words, words_of, Brought, answers_of, over}
use Rattle.request_words.specs.Run.{served, ran_to, answers_to}

pub record Serves (f : Tables) (m : List ℕ) (s : Live) (w x : List ℕ) (l : List Request) : Type 0 where
  pub count : served w x ≡ length l
  pub leaves : (ran_to f m w s x (served w x)).live ≡ end (after f m) s l
  pub answers : (ran_to f m w s x (served w x)).answers ≡ over (answers_of (answers_to f m s l)) x

pub record RunOfList : Type 0 where
  -- tables, memory and what is written; the requests; words after theirs, too few for one more; answer words with room
  pub all-served : (f : Tables) (m : List ℕ) (s : Live) (l : List Request) → Brought l → (y : List ℕ) → length y < request_words → (x : List ℕ)
      → length l * answer_words ≤ length x → Serves f m s (words_of l ++ y) x l
  -- whatever words are after theirs, and answer words with room for these requests or fewer
  pub first-served : (f : Tables) (m : List ℕ) (s : Live) (l : List Request) → Brought l → (y : List ℕ) → (x : List ℕ)
      → length x / answer_words ≤ length l → Serves f m s (words_of l ++ y) x (take (length x / answer_words) l)
