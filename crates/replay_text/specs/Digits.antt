-- Numbers as text.
--     decimal n           number n in decimal, with no zero in front; decimal_digits at most
--     hexadecimal v       value v in hexadecimal_digits digits
--     digits b k n        the last k digits of n in base b; places n: how many n has in decimal
--     ended_by b f        field f and the byte b that ends it
--     decimal_room, hexadecimal_room  the bytes of such a field at most
-- Assumes nothing.
use Rattle.std.specs.Prelude.{cond, List, [], ◌∷◌, ◌++◌, ℕ, zero, suc, ◌+◌, ◌/◌, ◌%◌, ltb}

-- the digit d, below 16, as a byte
abbrev pub glyph : ℕ → ℕ
glyph d = cond (ltb d 10) (48 + d) (87 + d)

-- the last k digits of n in base b, the highest first
unfoldable pub digits : (b k n : ℕ) → List ℕ
digits b zero n = []
digits b (suc k) n = digits b k (n / b) ++ (glyph (n % b) ∷ [])

-- how many decimal digits n has, k + 1 at most
unfoldable pub places_from : (k n : ℕ) → ℕ
places_from zero n = 1
places_from (suc k) n = cond (ltb n 10) 1 (suc (places_from k (n / 10)))

-- a number of 64 bits has 20 at most
abbrev pub decimal_digits : ℕ
decimal_digits = 20

abbrev pub places : ℕ → ℕ
places n = places_from 19 n

abbrev pub decimal : ℕ → List ℕ
decimal n = digits 10 (places n) n

-- a value has 16, with zeros in front
abbrev pub hexadecimal_digits : ℕ
hexadecimal_digits = 16

abbrev pub hexadecimal : ℕ → List ℕ
hexadecimal v = digits 16 hexadecimal_digits v

-- a field and the byte that ends it
abbrev pub ended_by : ℕ → List ℕ → List ℕ
ended_by b f = f ++ (b ∷ [])

abbrev pub decimal_room : ℕ
decimal_room = decimal_digits + 1

abbrev pub hexadecimal_room : ℕ
hexadecimal_room = hexadecimal_digits + 1
