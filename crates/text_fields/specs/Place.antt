-- The fields of a line as parts of its bytes, each by where it ends.
--     first_of l           the first field of l; cut_of l is its length
--     field_after l p     the field after the one that ends at p; empty where there is none
--     end_after l p       where it ends
--     fields_after l p    all the fields after the one that ends at p; rest l: those after the first byte of l
-- Assumes nothing.
use Rattle.std.specs.Prelude.{cond, List, [], ◌∷◌, ℕ, suc, ◌+◌, eqb, length, take, drop}
use Rattle.replay_text.specs.Bytes.{tab}
use Rattle.replay_text.specs.Field.{fields_of}

unfoldable pub cut_of : List ℕ → ℕ
cut_of [] = 0
cut_of (b ∷ l) = cond (eqb b tab) 0 (suc (cut_of l))

unfoldable pub first_of : List ℕ → List ℕ
first_of l = take (cut_of l) l

unfoldable pub field_after : List ℕ → ℕ → List ℕ
field_after l p = first_of (drop (p + 1) l)

abbrev pub end_after : List ℕ → ℕ → ℕ
end_after l p = p + 1 + length (field_after l p)

-- the fields of what follows a byte that ends a field
abbrev pub rest : List ℕ → List (List ℕ)
rest [] = []
rest (b ∷ l) = fields_of l

unfoldable pub fields_after : List ℕ → ℕ → List (List ℕ)
fields_after l p = rest (drop p l)
