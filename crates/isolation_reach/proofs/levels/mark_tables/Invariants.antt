use mathlib.Core.Path.{◌≡◌}
use Rattle.kinds.specs.Turns.{turns}
use Rattle.isolation_reach.specs.Marks.{table_turn}
use Rattle.isolation_reach.proofs.levels.mark_tables.Given as goal

abbrev pub invariant-loop-j : goal.invariant-loop-j
invariant-loop-j l = l.under ≡ turns (table_turn l.memory l.tables l.level.bits l.level.table l.level.index) l.initial.under l.j
