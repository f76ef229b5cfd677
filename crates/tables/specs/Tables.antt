-- The lent slices as the definition's tables.
--     tables z i q e p w g    the tables with sizes z and installed size i that no request writes: requesters, translation entries, peers, windows, segments
--     live t i            the tables that requests write: state and interrupts
--     lengths_of q e ..   the lengths of the lent lists
-- Assumes nothing.
use Rattle.std.specs.Prelude.{List, ℕ, length}
use Rattle.kinds.specs.declared.record.Lengths.{Lengths}
use Rattle.kinds.specs.declared.record.Sizes.{Sizes}
use Rattle.profile.specs.Tables.{Tables, Live}

abbrev pub tables : Sizes → (installed : ℕ) → (requesters entries peers windows segments : List ℕ) → Tables
tables z i q e p w g = record { sizes = z; installed = i; requesters = q; entries = e; peers = p; windows = w; segments = g }

abbrev pub live : (state interrupts : List ℕ) → Live
live t i = record { state = t; interrupts = i }

abbrev pub lengths_of : (requesters entries memory peers interrupts windows segments state : List ℕ) → Lengths
lengths_of q e m p n w g t = record {
  requesters = length q;
  entries = length e;
  memory = length m;
  peers = length p;
  interrupts = length n;
  windows = length w;
  segments = length g;
  state = length t;
}
