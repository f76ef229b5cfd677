-- The lent slices are the tables: none is lost or put in another's place.
--     tables-back, live_back, lengths-back    the tables, what is written, and the lengths, from their own fields
-- Assumes nothing.
use Rattle.std.specs.Prelude.{◌≡◌, refl, List, ℕ, length}
use Rattle.profile.specs.Tables.{Tables, Live, lengths}
use Rattle.tables.specs.Tables.{tables, live, lengths_of}

pub tables-back : (f : Tables) → tables f.sizes f.installed f.requesters f.entries f.peers f.windows f.segments ≡ f
tables-back f = refl

pub live_back : (s : Live) → live s.state s.interrupts ≡ s
live_back s = refl

pub lengths-back : (f : Tables) (m : List ℕ) (s : Live)
    → lengths_of f.requesters f.entries m f.peers s.interrupts f.windows f.segments s.state ≡ lengths f (length m) s
lengths-back f m s = refl
