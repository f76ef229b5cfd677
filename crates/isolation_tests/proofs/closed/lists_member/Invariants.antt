use Rattle.isolation_tests.specs.Group.{member_listed}
use Rattle.isolation_groups.specs.Any.{any}
use mathlib.Core.Path.{◌≡◌}
use Rattle.isolation_tests.proofs.closed.lists_member.Given as goal

abbrev pub invariant-loop-k : goal.invariant-loop-k
invariant-loop-k l = any l.pes (member_listed l.group l.vector) ≡ any l.k (member_listed l.group l.vector)
