use mathlib.Core.Path.{◌≡◌}
use lib.ListN.{length}
use Rattle.request_words.specs.Run.{ran_to}
use Rattle.tables.specs.Lent.{seen, Same}
use Rattle.bridge.proofs.RunLaws.{ran}
use Rattle.bridge.proofs.run.run.Given as goal

abbrev pub invariant-loop-k : goal.invariant-loop-k
invariant-loop-k l =
    (length l.answers ≡ length l.initial.answers) × Same l.initial.live l.live
    × (ran (seen l.live) l.answers ≡ ran_to l.tables l.memory l.requests (seen l.initial.live) l.initial.answers l.k)
