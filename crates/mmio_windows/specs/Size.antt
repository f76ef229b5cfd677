-- The size of an open window, by the count of its trailing zeros.
--     Power least most n  n is a power of two, from 2 ^ least to 2 ^ most
--     WindowSize n        the size of an open window: from 1 MiB, the least of M32, to 2 ^ 50, the most of M64
-- Assumes nothing.
use Rattle.std.specs.Prelude.{◌≡◌, ℕ, ◌^◌, ◌≤◌}
use Rattle.std.specs.Int.Count.{count_trailing_zeros}

pub record Power (least most size : ℕ) : Type 0 where
  pub is : size ≡ 2 ^ count_trailing_zeros 64 size
  pub low : least ≤ count_trailing_zeros 64 size
  pub high : count_trailing_zeros 64 size ≤ most

abbrev pub WindowSize : ℕ → Type 0
WindowSize n = Power 20 50 n
