-- What a function comes to, together with the cache that it leaves.
--     Went r k o c        it came to r and left the cache k: they are o and c
-- Assumes nothing.
use Rattle.std.specs.Prelude.{◌≡◌, List, ℕ}
use Rattle.kinds.specs.declared.outcome.Outcome.{Outcome}

pub record Went (r : Outcome) (k : List ℕ) (o : Outcome) (c : List ℕ) : Type 0 where
  pub comes : r ≡ o
  pub leaves : k ≡ c
