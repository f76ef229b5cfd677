-- The fields of a line that are left to read, and what they hold.
--     fields_in r         the fields from where the next one begins in a line; none after the last
--     next_value read fs  what `read` takes the first of the fields fs for; after_next fs: the fields after it
--     last_value read fs  what it takes the one field that is left for
--     digit_in b          the value of byte b as a digit, or none
-- Assumes nothing.
use Rattle.std.specs.Prelude.{cond, List, [], ◌∷◌, ℕ, ltb, Option, Some, None, Result, Err, ok_or}
use Rattle.std.specs.Borrow.{Bor}
use Rattle.replay_text.specs.declared.BadLine.{BadLine}
use Rattle.replay_text.specs.Field.{fields_of, digit_of, only}

abbrev pub fields_in : Option (Bor (List ℕ)) → List (List ℕ)
fields_in None = []
fields_in (Some r) = fields_of r.now

unfoldable pub next_value : {A : Type 0} → (List ℕ → Option A) → List (List ℕ) → Result A BadLine
next_value read [] = Err (record {})
next_value read (f ∷ fs) = ok_or (read f) (record {})

abbrev pub after_next : List (List ℕ) → List (List ℕ)
after_next [] = []
after_next (f ∷ fs) = fs

abbrev pub last_value : {A : Type 0} → (List ℕ → Option A) → List (List ℕ) → Result A BadLine
last_value read fs = ok_or (only read fs) (record {})

abbrev pub digit_in : ℕ → Option ℕ
digit_in b = cond (ltb (digit_of b) 16) (Some (digit_of b)) None
