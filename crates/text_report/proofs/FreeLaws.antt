-- There is no room for a text of m bytes at place a.
--     room-short          there are not m bytes at all
--     room-late           place a leaves fewer
-- Assumes nothing.
use Rattle.std.specs.Prelude.{◌≡◌, false, List, ℕ, ◌+◌, ◌-◌, ◌<◌, length}
use Rattle.std.proofs.Common.{arith}
use Rattle.std.proofs.lemmas.Bool.{lt-leb}
use Rattle.text_report.specs.Written.{free_for}

module _ (m : ℕ) (o : List ℕ) (a : ℕ) where
  pub room-short : length o < m → free_for m o a ≡ false
  room-short h = lt-leb (a + m) (length o) (omega arith)

  pub room-late : length o - m < a → free_for m o a ≡ false
  room-late h = lt-leb (a + m) (length o) (omega arith)
