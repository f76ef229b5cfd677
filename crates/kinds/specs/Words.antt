-- The words of a table: read, or all rewritten by a rule.
--     at l i              word i of l, or 0 where l has none
--     no_pe, pe_at l i    65,536, which is no PE's number; the number of a PE that word i of l holds, or `no_pe` where l has no such word
--     map_at f j l        each word of l rewritten by f from its place, counted from j, and its old value
--     bit_of l k           bit k mod 64 (0 lowest) of word k div 64 of l is set
-- Assumes nothing.
use Rattle.std.specs.Prelude.{Bool, List, [], ◌∷◌, ℕ, suc, ◌/◌, ◌%◌, ◌^◌, eqb, get_or}

abbrev pub at : List ℕ → ℕ → ℕ
at l i = get_or l i 0

abbrev pub no_pe : ℕ
no_pe = 65536

abbrev pub pe_at : List ℕ → ℕ → ℕ
pe_at l i = get_or l i no_pe

unfoldable pub map_at : (ℕ → ℕ → ℕ) → ℕ → List ℕ → List ℕ
map_at f j [] = []
map_at f j (x ∷ xs) = f j x ∷ map_at f (suc j) xs

abbrev pub bit_of : List ℕ → ℕ → Bool
bit_of l k = eqb (at l (k / 64) / 2 ^ (k % 64) % 2) 1
