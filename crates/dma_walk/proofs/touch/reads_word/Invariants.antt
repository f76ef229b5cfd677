use mathlib.Core.Path.{◌≡◌}
use mathlib.Core.Bool.{true}
use Prim.Native.Nat.{◌+◌, ◌*◌, ◌≤◌}
use Rattle.kinds.specs.Has.{has}
use Rattle.profile.specs.Entry.{aligned, offset_bits, most_table_code, code_bits}
use Rattle.profile.specs.Walk.{walk_from}
use Rattle.dma_walk.proofs.touch.reads_word.Given as goal

abbrev pub invariant-loop-below : goal.invariant-loop-below
invariant-loop-below l = (l.bits ≤ most_table_code + code_bits) × (l.bits * l.below ≤ offset_bits) × (aligned l.bits l.base ≡ true) ×
    (has l.word (walk_from l.memory l.fn.entry.levels l.bits l.initial.base l.page).reads ≡ has l.word (walk_from l.memory l.below l.bits l.base l.page).reads)
