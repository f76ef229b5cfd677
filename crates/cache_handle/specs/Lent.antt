-- The lent slices of the bridge with a cache, and definitions over both bridges, with a cache or without one, which b says: the checks, what the cache says of
-- them, and what is left of them.
--     held m s c          memory m, what is written s and cache c; lent m t i c: s being state t and interrupts i
--     either_sized b n ok  not reason 1: ok says it of the other tables, n is the length of the cache
--     either_looked b i c x   the checks x after the cache c was looked at, with a cache
--     either_filled b i m c x  the cache after what is left of a check x: with a cache it may be filled
--     quick_at b i c x    what the cache says of the check x
--     finished_by i m x q  the outcome by the check x and what the cache says; filled_by b i m c x q: the cache after that
-- Assumes nothing.
use Rattle.std.specs.Prelude.{Bool, true, false, ◌&&◌, List, ℕ, eqb, Option, Some, None}
use Rattle.kinds.specs.declared.outcome.Check.{Check}
use Rattle.kinds.specs.declared.outcome.Check.TheVariants.{Kept, Ready, Walk, Fences}
use Rattle.kinds.specs.declared.outcome.Outcome.{Outcome}
use Rattle.profile.specs.Tables.{Live}
use Rattle.tables.specs.Tables.{live}
use Rattle.cache.specs.Slots.{cache_words}
use Rattle.cache.specs.Cache.{Cached, looked, filled}
use Rattle.decide.specs.Finished.{finished}
use Rattle.cache_dma.specs.Quick.{quick_for}

abbrev pub held : (memory : List ℕ) → Live → (cache : List ℕ) → Cached
held m s c = record { bare = record { memory = m; live = s }; cache = c }

abbrev pub lent : (memory state interrupts cache : List ℕ) → Cached
lent m t i c = held m (live t i) c

abbrev pub either_sized : (cached : Bool) → (words : ℕ) → Bool → Bool
either_sized true n ok = eqb n cache_words && ok
either_sized false n ok = ok

abbrev pub either_looked : (cached : Bool) → (installed : ℕ) → (cache : List ℕ) → Check → Check
either_looked true i c x = looked i c x
either_looked false i c x = x

abbrev pub either_filled : (cached : Bool) → (installed : ℕ) → (memory cache : List ℕ) → Check → List ℕ
either_filled true i m c x = filled i m c x
either_filled false i m c x = c

abbrev pub quick_at : (cached : Bool) → (installed : ℕ) → (cache : List ℕ) → Check → Option Outcome
quick_at true i c (Kept a) = None
quick_at true i c (Ready p o) = None
quick_at true i c (Walk p e q) = quick_for i c p e q
quick_at true i c (Fences b) = None
quick_at false i c x = None

abbrev pub finished_by : (installed : ℕ) → (memory : List ℕ) → Check → Option Outcome → Outcome
finished_by i m x (Some o) = o
finished_by i m x None = finished i m x

abbrev pub filled_by : (cached : Bool) → (installed : ℕ) → (memory cache : List ℕ) → Check → Option Outcome → List ℕ
filled_by b i m c x (Some o) = c
filled_by b i m c x None = either_filled b i m c x
