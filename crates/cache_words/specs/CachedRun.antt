-- A list of operations as words, on the bridge with a translation cache.
--     cached_ran_to f w x l n  after the first n operations that the request words w name, each on the tables as the last one left them; l are the answer words
--     cached_answers f x l what the operations of list l, not as words, are answered
--     CachedRunOf         THE CLAIM: a run over words is the run of the operations that they name
-- Assumes nothing.
use Rattle.std.specs.Prelude.{◌≡◌, List, ◌++◌, ℕ, ◌*◌, length}
use Rattle.kinds.specs.declared.answer.Answer.{Answer}
use Rattle.kinds.specs.declared.request.Operation.{Operation}
use Rattle.profile.specs.Tables.{Tables}
use Rattle.isolation.specs.Machine.{end}
use Rattle.request_words.specs.Layout.{request_words, answers_of, over}
use Rattle.request_words.specs.Run.{Ran, served, ran_one_on, ran_on, answers_on}
use Rattle.cache.specs.Cache.{Cached, cached_answer, cached_after}
use Rattle.cache_words.specs.Operations.{encoded_operation, operation_at, operations_from}
use Rattle.cache_words.specs.OperationsLaws.{Sendable}

abbrev pub cached_ran_one : Tables → (requests : List ℕ) → Ran Cached → ℕ → Ran Cached
cached_ran_one f w r k = ran_one_on (cached_after f) (cached_answer f) (operation_at w) r k

abbrev pub cached_ran_to : Tables → (requests : List ℕ) → Cached → (answers : List ℕ) → ℕ → Ran Cached
cached_ran_to f w x l n = ran_on (cached_after f) (cached_answer f) (operation_at w) x l n

abbrev pub cached_answers : Tables → Cached → List Operation → List Answer
cached_answers f x l = answers_on (cached_after f) (cached_answer f) x l

pub record CachedRunOf : Type 0 where
  -- tables, what is written, request words and answer words
  pub leaves : (f : Tables) (x : Cached) (w l : List ℕ)
      → (cached_ran_to f w x l (served w l)).live ≡ end (cached_after f) x (operations_from w 0 (served w l))
  -- its first answer words are the answers, one after the other; the others stay
  pub answers : (f : Tables) (x : Cached) (w l : List ℕ)
      → (cached_ran_to f w x l (served w l)).answers ≡ over (answers_of (cached_answers f x (operations_from w 0 (served w l)))) l
  -- the words of an operation that a caller can bring name it, wherever they stand
  pub named : (v : List ℕ) (k : ℕ) → length v ≡ k * request_words → (q : Operation) → Sendable q → (y : List ℕ)
      → operation_at (v ++ (encoded_operation q ++ y)) k ≡ q
