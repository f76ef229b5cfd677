-- A text written into a list of bytes, where enough of them are free.
--     free_for m o a      m bytes of o are free from place a on
--     written m o a t     the bytes of o after text t was to be written at place a, where m bytes have to be free: t in their place, or all as they were
-- Assumes nothing.
use Rattle.std.specs.Prelude.{Bool, cond, List, ◌++◌, ℕ, ◌+◌, leb, length, take, drop}

-- m bytes of o are free from place a on
abbrev pub free_for : ℕ → List ℕ → ℕ → Bool
free_for m o a = leb (a + m) (length o)

unfoldable pub written : ℕ → List ℕ → ℕ → List ℕ → List ℕ
written m o a t = cond (free_for m o a) (take a o ++ t ++ drop (a + length t) o) o
