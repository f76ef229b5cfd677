use mathlib.Core.Path.{◌≡◌}
use Rattle.kinds.specs.Turns.{turns}
use Rattle.isolation_reach.specs.Marks.{mark_turn}
use Rattle.isolation_reach.proofs.levels.mark_words.Given as goal

abbrev pub invariant-loop-j : goal.invariant-loop-j
invariant-loop-j l = l.marks ≡ turns (mark_turn l.tables l.level.bits l.level.table l.level.index l.count) l.initial.marks l.j
