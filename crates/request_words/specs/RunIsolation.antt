-- DEMAND 3, of a run over words.
--     run_places ..       the places of the first n requests that the request words w name: the group's own requests, and the fatal messages and fence clears
--                         of others that are answered done, by their kind
--     own_answers ..      the words of the answers to the own requests, in order, in the answer words x; own_answers_from ..: of n requests from request k
--     RunIsolation        THE CLAIM: `Isolation`, with words in the place of requests and answers
-- The theorems are in proofs/RunIsolation.antt. Assumes nothing.
use Rattle.std.specs.Prelude.{◌≡◌, Bool, cond, List, [], ◌∷◌}
use Prim.Native.Nat.{ℕ, zero, suc}
use Rattle.kinds.specs.Words.{at}
use Rattle.kinds.specs.declared.number.PeNumber.{PeNumber}
use Rattle.kinds.specs.declared.request.Request.{Request}
use Rattle.isolation.specs.Isolation.{Place, places_in}
use Rattle.isolation.specs.View.{Bridge, Written, View}
use Rattle.profile.specs.Agree.{belongs, Closed}
use Rattle.profile.specs.Fence.{fence_word}
use Rattle.request_words.specs.Layout.{decoded_at, requests_from, words_at}
use Rattle.request_words.specs.Run.{served, ran_to}

abbrev pub run_places : (PeNumber → Bool) → Bridge → (requests : List ℕ) → (n : ℕ) → List (Place Request)
run_places G a w n = places_in G a (requests_from w 0 n)

abbrev pub own_answers_from : (PeNumber → Bool) → Bridge → (requests answers : List ℕ) → (k n : ℕ) → List (List ℕ)
own_answers_from G a w x k zero = []
own_answers_from G a w x k (suc n) =
    cond (belongs G a.tables a.live (decoded_at w k)) (words_at x k ∷ own_answers_from G a w x (suc k) n) (own_answers_from G a w x (suc k) n)

abbrev pub own_answers : (PeNumber → Bool) → Bridge → (requests answers : List ℕ) → (n : ℕ) → List (List ℕ)
own_answers G a w x n = own_answers_from G a w x 0 n

pub record RunIsolation : Type 0 where
  pub isolated : (G : PeNumber → Bool) (a b : Bridge) → Closed G a.tables → View G a b
      -- request words w on the first bridge and v on the second, with answer words l and k
      → (w v l k : List ℕ) → run_places G a w (served w l) ≡ run_places G b v (served v k)
      → (own_answers G a w (ran_to a.tables a.memory w a.live l (served w l)).answers (served w l)
      ≡ own_answers G b v (ran_to b.tables b.memory v b.live k (served v k)).answers (served v k))
      × Written G a.tables.sizes.interrupts (ran_to a.tables a.memory w a.live l (served w l)).live
      (ran_to b.tables b.memory v b.live k (served v k)).live
      × (at (ran_to a.tables a.memory w a.live l (served w l)).live.state (fence_word a.tables.sizes.pes)
      ≡ at (ran_to b.tables b.memory v b.live k (served v k)).live.state (fence_word b.tables.sizes.pes))
