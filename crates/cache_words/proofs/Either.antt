-- Theorems of specs/Either.antt.
--     bare-span           a span on the bridge without a cache is that of its own run
-- Assumes nothing.
use Rattle.std.specs.Prelude.{◌≡◌, false, List}
use Rattle.std.proofs.Math.Path.{refl}
use Prim.Native.Nat.{ℕ, zero, suc}
use Rattle.std.proofs.Common.{zero-add}
use Rattle.profile.specs.Tables.{Tables, Live}
use Rattle.request_words.specs.Run.{Ran, RunState, ran_one_on, ran_on, ran_one, ran_to}
use Rattle.cache.specs.Cache.{Cached}
use Rattle.cache_words.specs.Operations.{operation_at}
use Rattle.cache_words.proofs.OperationsLaws.{plain_of_lem}
use Rattle.cache_words.specs.Either.{either_after, either_answer, either_span, span}

module _ (f : Tables) (m w c : List ℕ) (s : Live) (l : List ℕ) where
  -- the state and the answer words of a bridge without a cache, seen as those of one that has the cache c
  abbrev pub as_cached : RunState → Ran Cached
  as_cached r = record { live = record { bare = record { memory = m; live = r.live }; cache = c }; answers = r.answers }

  one-bare : (r : RunState) (k : ℕ) → ran_one_on (either_after false f) (either_answer false f) (operation_at w) (as_cached r) k ≡ as_cached (ran_one f m w r k)
  one-bare r k = rw (plain_of_lem _ _ _ _ _ _)

  pub bare-span : (n : ℕ) → either_span false f w (as_cached (record { live = s; answers = l })) 0 n ≡ as_cached (ran_to f m w s l n)
  unfolding span ran_on
  bare-span zero = refl
  bare-span (suc n) = rw (zero-add, bare-span n) (one-bare (ran_to f m w s l n) n)
