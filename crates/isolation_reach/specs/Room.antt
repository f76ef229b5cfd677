-- What a function does that is lent memory, its marks and room to work in.
--     Same r s            the same lists, whatever those that are written hold; memory as it was
--     Marked r s x        the same lists, and x are the marks
-- Assumes nothing.
use Rattle.std.specs.Prelude.{◌≡◌, List, ℕ}
use Rattle.isolation_reach.specs.declared.room.Room.{Room}

pub record Same (old new : Room) : Type 0 where
  pub memory : new.memory.now ≡ old.memory.now
  pub marks : new.marks.ghost_name ≡ old.marks.ghost_name
  pub tables : new.tables.ghost_name ≡ old.tables.ghost_name
  pub under : new.under.ghost_name ≡ old.under.ghost_name

pub record Marked (old new : Room) (x : List ℕ) : Type 0 where
  pub same : Same old new
  pub holds : new.marks.now ≡ x
