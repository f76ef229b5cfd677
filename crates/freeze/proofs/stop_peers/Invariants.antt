use mathlib.Core.Path.{◌≡◌}
use Prim.Native.Nat.{◌+◌, ◌-◌, ◌*◌, ◌≤◌}
use lib.ListN.{length}
use Rattle.kinds.specs.Turns.{turns}
use Rattle.profile.specs.Tables.{state_words}
use Rattle.freeze.specs.Turn.{peer_turn}
use Rattle.freeze.proofs.stop_peers.Given as goal

abbrev pub invariant-loop-k : goal.invariant-loop-k
invariant-loop-k l = (l.k * state_words ≤ length l.state + 2) × (length l.state ≡ length l.initial.state) × (l.state ≡ turns (peer_turn l.peers l.pe) l.initial.state l.k)

abbrev pub decreases-loop-k : goal.decreases-loop-k
decreases-loop-k l = length l.state + state_words - l.k * state_words
