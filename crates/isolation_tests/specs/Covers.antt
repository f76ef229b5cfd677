-- What it promises that the marks of a group's table words are made.
--     coverable n r t u m     N, n, is within its limit, and the marks r and the two lists to work in, t and u, have the length of memory m
--     Covered ..              1 is returned where that holds, else 0; the marks afterwards are those of the definition, which are exact, and the two lists are 0
--                             in every word; or all three are as they were
-- Assumes nothing.
use Rattle.std.specs.Prelude.{◌≡◌, Bool, true, cond, List, [], ◌∷◌, ℕ, leb, eqb, length, replicate}
use Rattle.kinds.specs.Tests.{all}
use Rattle.profile.specs.Tables.{most_pes}
use Rattle.isolation_reach.specs.Footprint.{members_marks, Exact}
use Rattle.isolation_tests.specs.Group.{flag}

unfoldable pub coverable : ℕ → (marks tables under memory : List ℕ) → Bool
coverable n r t u m = all (leb n most_pes ∷ eqb (length r) (length m) ∷ eqb (length t) (length m) ∷ eqb (length u) (length m) ∷ [])

pub record Covered (g : List ℕ) (n : ℕ) (l m r t u : List ℕ) (result : ℕ) (x v w : List ℕ) : Type 0 where
  pub returns : result ≡ flag (coverable n r t u m)
  pub marks : x ≡ cond (coverable n r t u m) (members_marks (length t) (length u) g l m n (length r)) r
  pub tables : v ≡ cond (coverable n r t u m) (replicate (length t) 0) t
  pub under : w ≡ cond (coverable n r t u m) (replicate (length u) 0) u
  pub exact : coverable n r t u m ≡ true → Exact g n l m x
