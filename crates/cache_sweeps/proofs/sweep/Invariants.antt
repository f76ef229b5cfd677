use mathlib.Core.Path.{◌≡◌}
use mathlib.Core.Bool.{Bool}
use Prim.Native.Nat.{ℕ}
use lib.ListN.{length}
use Rattle.kinds.specs.Turns.{turns}
use Rattle.cache.specs.Slots.{Test}
use Rattle.cache_sweeps.specs.Turn.{turned}
use Rattle.cache_sweeps.proofs.sweep.Given as goal

abbrev pub invariant-loop-slot : goal.invariant-loop-slot
invariant-loop-slot g l =
    (length l.cache ≡ length l.initial.cache) × ((d : Test) → ((t h q : ℕ) (r : Bool) → goal.F-post g l.named t h q r → r ≡ d t h q) → l.cache ≡ turns (turned d) l.initial.cache l.slot)
