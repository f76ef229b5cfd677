-- The tables that requests write, as they are lent.
--     seen l              what they hold: state and interrupts
--     Same l k            the same two slices, whatever they hold
--     Becomes l k x       the same two slices, which then hold x
-- Assumes nothing.
use Rattle.std.specs.Prelude.{◌≡◌}
use Rattle.profile.specs.Tables.{Live}
use Rattle.tables.specs.declared.lent.Live.{Live as Lent}

abbrev pub seen : Lent → Live
seen l = record { state = l.state.now; interrupts = l.interrupts.now }

pub record Same (old new : Lent) : Type 0 where
  pub state : new.state.ghost_name ≡ old.state.ghost_name
  pub interrupts : new.interrupts.ghost_name ≡ old.interrupts.ghost_name

pub record Becomes (old new : Lent) (x : Live) : Type 0 where
  pub same : Same old new
  pub holds : seen new ≡ x
