use mathlib.Core.Path.{◌≡◌}
use lib.ListN.{length}
use Rattle.tables.specs.Lent.{seen, Same}
use Rattle.cache_handle.specs.Lent.{held}
use Rattle.cache_words.specs.CachedRun.{cached_ran_to}
use Rattle.bridge.proofs.CachedLaws.{cached_ran}
use Rattle.bridge.proofs.cached_run.cached_run.Given as goal

abbrev pub invariant-loop-k : goal.invariant-loop-k
invariant-loop-k l =
    (length l.memory ≡ length l.initial.memory) × (length l.cache ≡ length l.initial.cache) × (length l.answers ≡ length l.initial.answers) × Same l.initial.live l.live
    × (cached_ran (held l.memory (seen l.live) l.cache) l.answers ≡ cached_ran_to l.tables l.requests (held l.initial.memory (seen l.initial.live) l.initial.cache) l.initial.answers l.k)
