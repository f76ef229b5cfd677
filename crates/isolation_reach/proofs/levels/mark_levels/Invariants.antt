use mathlib.Core.Path.{◌≡◌}
use lib.ListN.{length, replicate}
use Rattle.isolation_reach.specs.Marks.{marks_from}
use Rattle.isolation_reach.specs.Room.{Same}
use Rattle.isolation_reach.proofs.levels.mark_levels.Given as goal

abbrev pub invariant-loop-below : goal.invariant-loop-below
invariant-loop-below l = record {
  same : Same l.initial.room l.room;
  marks : marks_from l.initial.room.memory.now l.bits l.gap.page l.gap.count l.levels (replicate (length l.initial.room.memory.now) 0) l.first l.initial.room.marks.now
      ≡ marks_from l.initial.room.memory.now l.bits l.gap.page l.gap.count l.below l.room.tables.now l.table l.room.marks.now;
}
