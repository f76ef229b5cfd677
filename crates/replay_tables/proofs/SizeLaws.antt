-- What a size line cites.
--     sized_room          the lists cleared, where they have room for what the line asks
-- Assumes nothing.
use Rattle.std.specs.Prelude.{◌≡◌, Bool, true, refl}
use Rattle.replay_text.specs.Results.{silent}
use Rattle.replay_tables.specs.Lent.{Lent, lengths_in, room_for, size_line, cleared_to}
use Rattle.replay_tables.specs.Promise.{SizedTo}
use Rattle.replay_tables.specs.declared.Extent.{Extent}

pub sized_room : (asked : Extent) (before : Lent) {after : Lent} {b : Bool} → b ≡ room_for (size_line asked) (lengths_in before) → b ≡ true →
    after ≡ cleared_to asked before → SizedTo before asked silent after
sized_room asked before e h c = rw (← e, h) (refl, c)
