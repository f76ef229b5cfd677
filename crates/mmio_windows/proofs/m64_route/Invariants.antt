use Rattle.std.proofs.Common.{◌≡◌, ◌-◌}
use Rattle.profile.specs.Windows.{m64_count, m64_from}
use Rattle.mmio_windows.proofs.m64_route.Given as goal

abbrev pub invariant-loop-k : goal.invariant-loop-k
invariant-loop-k l = m64_from l.windows m64_count 0 l.address ≡ m64_from l.windows (m64_count - l.k) l.k l.address
