-- The fields of a line, and the numbers that they hold.
--     fields_of l          the fields of line l, parted at its tabs: one more than there are tabs
--     digit_of b          the value of byte b as a digit, `0` to `9` or `a` to `f`; 16 of any other byte
--     number_of f          the number in field f, of 1 to 16 digits, the first the highest; none of any other field; number_from v f: after digits that gave v
--     only read fs        what the one field that is left holds; none where none or more are left
--     is a b              the bytes a and b are the same
-- Assumes nothing.
use Rattle.std.specs.Prelude.{Bool, true, false, cond, ◌&&◌, List, [], ◌∷◌, ℕ, ◌+◌, ◌-◌, ◌*◌, ltb, leb, eqb, length, Option, None, Some}
use Rattle.replay_text.specs.Bytes.{tab}

-- a byte at the front of the first field
abbrev pub push : ℕ → List (List ℕ) → List (List ℕ)
push b [] = []
push b (f ∷ fs) = (b ∷ f) ∷ fs

unfoldable pub fields_of : List ℕ → List (List ℕ)
fields_of [] = [] ∷ []
fields_of (b ∷ l) = cond (eqb b tab) ([] ∷ fields_of l) (push b (fields_of l))

abbrev pub digit_of : ℕ → ℕ
digit_of b = cond (ltb b 48) 16 (cond (ltb b 58) (b - 48) (cond (ltb b 97) 16 (cond (ltb b 103) (b - 87) 16)))

-- the number that digits give after those that gave v
unfoldable pub number_from : (v : ℕ) → List ℕ → Option ℕ
number_from v [] = Some v
number_from v (b ∷ f) = cond (ltb (digit_of b) 16) (number_from (v * 16 + digit_of b) f) None

unfoldable pub number_of : List ℕ → Option ℕ
number_of f = cond (leb 1 (length f) && leb (length f) 16) (number_from 0 f) None

unfoldable pub only : {A : Type 0} → (List ℕ → Option A) → List (List ℕ) → Option A
only read [] = None
only read (f ∷ []) = read f
only read (f ∷ g ∷ fs) = None

unfoldable pub is : List ℕ → List ℕ → Bool
is [] [] = true
is [] (b ∷ k) = false
is (a ∷ l) [] = false
is (a ∷ l) (b ∷ k) = cond (eqb a b) (is l k) false
