-- The length of a name.
--     name_most_lem       a name has name_most letters at most
--     name_bad            from 7 on it is that of 7
-- Assumes nothing.
use Rattle.std.specs.Prelude.{◌≡◌, List, [], ◌∷◌, ℕ, zero, suc, ◌≤◌, max, length, get_or}
use Rattle.std.proofs.Common.{arith}
use Rattle.std.proofs.Math.ListN.{get_or-eq_default}
use Rattle.replay_text.specs.Bytes.{bytes}
use Rattle.replay_text.specs.Name.{names, name_of, name_most}

-- the length of the longest text
abbrev longest : List (List ℕ) → ℕ
longest [] = 0
longest (w ∷ ws) = max (length w) (longest ws)

chosen-most : (ws : List (List ℕ)) (k : ℕ) (d : List ℕ) → length (get_or ws k d) ≤ max (length d) (longest ws)
chosen-most [] k d = omega arith
chosen-most (w ∷ ws) zero d = omega arith
chosen-most (w ∷ ws) (suc k) d = omega (arith, chosen-most ws k d)

pub name_most_lem : (k : ℕ) → length (name_of k) ≤ name_most
unfolding name_of
name_most_lem k = chosen-most names k (bytes "bad")

pub name_bad : (k : ℕ) → 7 ≤ k → name_of k ≡ name_of 7
unfolding name_of
name_bad k h = get_or-eq_default names (bytes "bad") {n = k} h
