use Rattle.isolation_tests.specs.Group.{outsider_lists}
use Rattle.isolation_groups.specs.Any.{any}
use mathlib.Core.Path.{◌≡◌}
use Rattle.isolation_tests.proofs.closed.any_outsider_lists.Given as goal

abbrev pub invariant-loop-pe : goal.invariant-loop-pe
invariant-loop-pe l = any l.pes (outsider_lists l.group l.peers l.pes) ≡ any l.pe (outsider_lists l.group l.peers l.pes)
