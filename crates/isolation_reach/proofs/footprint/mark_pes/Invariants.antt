use Rattle.kinds.specs.Turns.{turns}
use Rattle.isolation_reach.specs.Footprint.{pe_turn}
use Rattle.isolation_reach.specs.Room.{Marked}
use Rattle.isolation_reach.proofs.footprint.mark_pes.Given as goal

abbrev pub invariant-loop-pe : goal.invariant-loop-pe
invariant-loop-pe l = Marked l.initial.room l.room (turns (pe_turn l.group l.entries l.initial.room.memory.now) l.initial.room.marks.now l.pe)
