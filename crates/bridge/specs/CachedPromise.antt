-- What the entry points of the bridge with a translation cache promise.
--     RanCached f w x l n y k of the request words w, n were served on x; y is what they left, and k the answer words that were l: as the definition says, on any
--                             contents of the cache. By it a run over words is the run of the operations that they name; of every list of operations what a
--                             slot holds is fixed, and stop bits and error records are what the history says; and over sequences that start by emptying the
--                             cache every answer is that of the bridge without one, and demand 3 holds, through caches and edits
-- Assumes nothing.
use Rattle.std.specs.Prelude.{◌≡◌, List, ℕ}
use Rattle.profile.specs.Tables.{Tables}
use Rattle.request_words.specs.Run.{served}
use Rattle.cache.specs.Cache.{Cached}
use Rattle.cache.specs.Contents.{Contents}
use Rattle.cache_claims.specs.Demand.{Simulation, CachedIsolation}
use Rattle.cache_claims.specs.Release.{CachedReleased}
use Rattle.cache_words.specs.CachedRun.{cached_ran_to, CachedRunOf}

pub record RanCached (f : Tables) (w : List ℕ) (x : Cached) (l : List ℕ) (n : ℕ) (y : Cached) (k : List ℕ) : Type 0 where
  pub count : n ≡ served w l
  pub leaves : y ≡ (cached_ran_to f w x l (served w l)).live
  pub answers : k ≡ (cached_ran_to f w x l (served w l)).answers
  pub of_list : CachedRunOf
  pub contents : Contents
  pub simulation : Simulation
  pub isolation : CachedIsolation
  pub release : CachedReleased
