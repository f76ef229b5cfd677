-- The definitions that one operation of the bridge with a cache goes through, under one name, for what is proved by computing.
--     opened-cache        all of them: `unfolding opened-cache`. Whether a word is in reach stays shut: that is never computed
-- Assumes nothing.
use Rattle.kinds.specs.Has.{has}
use Rattle.profile.proofs.Opened.{opened}
use Rattle.cache.specs.Slots.{slot_of, holds, put, dropped, sweep}
use Rattle.cache.specs.Cache.{is_hit, found_by, looked, filled, tabled, through, names, cache_by}
use Rattle.cache.specs.Contents.{slot_event}

unfoldable pub opened-cache : Unit {0}
unfolding opened has slot_of holds put dropped sweep is_hit found_by looked filled tabled through names cache_by slot_event
opened-cache = tt
