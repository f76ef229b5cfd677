-- The lent tables of a replay, as they are lent.
--     whole x l           by an extent, what the lists hold
--     Same l k            the same lists, whatever they hold
-- Assumes nothing.
use Rattle.std.specs.Prelude.{◌≡◌}
use Rattle.replay_tables.specs.Lent.{Lent, lent}
use Rattle.replay_tables.specs.declared.Extent.{Extent}
use Rattle.replay_tables.specs.declared.lent.Lent.{Lent as Lists}

abbrev pub whole : Extent → Lists → Lent
whole x l =
    lent
    x
    l.requesters.now
    l.entries.now
    l.memory.now
    l.peers.now
    l.interrupts.now
    l.windows.now
    l.segments.now
    l.state.now

pub record Same (old new : Lists) : Type 0 where
  pub requesters : new.requesters.ghost_name ≡ old.requesters.ghost_name
  pub entries : new.entries.ghost_name ≡ old.entries.ghost_name
  pub memory : new.memory.ghost_name ≡ old.memory.ghost_name
  pub peers : new.peers.ghost_name ≡ old.peers.ghost_name
  pub interrupts : new.interrupts.ghost_name ≡ old.interrupts.ghost_name
  pub windows : new.windows.ghost_name ≡ old.windows.ghost_name
  pub segments : new.segments.ghost_name ≡ old.segments.ghost_name
  pub state : new.state.ghost_name ≡ old.state.ghost_name
