-- The tables that are there once, or not at all.
--     once n              1 where there are PEs, n, and with them windows and segments; else 0
-- Assumes nothing.
use Rattle.std.specs.Prelude.{cond, ℕ, eqb}

abbrev pub once : ℕ → ℕ
once n = cond (eqb n 0) 0 1
