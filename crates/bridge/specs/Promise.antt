-- What the entry points promise.
--     Handled f m s q a t     request q was answered a and left t: as the definition says, and isolation holds of that definition (of `handle`)
--     RanAll f m w s l n t k  of the request words w, n were served on s; t is what they left, and k the answer words that were l: as the definition
--                             says. By it the words of a list of requests are served as the list, and isolation holds of it, for requests and for
--                             their words; so does [14]: from a state of zeros, stop bits and error records are what the history says, and a released
--                             PE is answered as if no PE had been frozen
-- Assumes nothing.
use Rattle.std.specs.Prelude.{◌≡◌, List, ℕ}
use Rattle.history.specs.Release.{Released}
use Rattle.isolation.specs.Isolation.{Isolation}
use Rattle.profile.specs.Tables.{Tables, Live}
use Rattle.request_words.specs.Run.{served, ran_to}
use Rattle.request_words.specs.RunIsolation.{RunIsolation}
use Rattle.request_words.specs.RunOfList.{RunOfList}
use Rattle.request_words.specs.RunRelease.{RunReleased}
pub use Rattle.handle.specs.Promise.{Handled}

pub record RanAll (f : Tables) (m w : List ℕ) (s : Live) (l : List ℕ) (n : ℕ) (t : Live) (k : List ℕ) : Type 0 where
  pub count : n ≡ served w l
  pub leaves : t ≡ (ran_to f m w s l (served w l)).live
  pub answers : k ≡ (ran_to f m w s l (served w l)).answers
  pub of_list : RunOfList
  pub isolation : Isolation
  pub words-isolation : RunIsolation
  pub release : Released
  pub words-release : RunReleased
