-- Lengths of numbers as text.
--     length_digits       k digits are k bytes; length_ended: a byte that ends a field is one more
--     places-most         a number has decimal_digits digits at most; decimal-most: so it takes that many bytes at most
--     decimal-room, hexadecimal-room    a number and the byte that ends it take no more than their room
-- Assumes nothing.
use Rattle.std.specs.Prelude.{◌≡◌, refl, List, [], ◌∷◌, ℕ, zero, suc, ◌+◌, ◌/◌, ◌%◌, ◌≤◌, ltb, length}
use Rattle.std.proofs.Common.{◌∙◌, arith, length-append}
use Rattle.kinds.proofs.Tests.{by_cases}
use Rattle.replay_text.specs.Digits.{glyph, digits, places_from, places, decimal, hexadecimal, ended_by, decimal_digits, hexadecimal_digits, decimal_room, hexadecimal_room}

pub length_ended : (b : ℕ) (f : List ℕ) → length (ended_by b f) ≡ length f + 1
length_ended b f = length-append f (b ∷ [])

pub length_digits : (b k n : ℕ) → length (digits b k n) ≡ k
unfolding digits
length_digits b zero n = refl
length_digits b (suc k) n = length_ended (glyph (n % b)) (digits b k (n / b)) ∙ rw (length_digits b k (n / b)) (omega arith)

places-from : (k n : ℕ) → places_from k n ≤ k + 1
unfolding places_from
places-from zero n = omega arith
places-from (suc k) n = by_cases (ltb n 10) (λ o. rw o (omega arith)) (λ o. rw o (omega (arith, places-from k (n / 10))))

pub places-most : (n : ℕ) → places n ≤ decimal_digits
places-most n = places-from 19 n

pub decimal-most : (n : ℕ) → length (decimal n) ≤ decimal_digits
decimal-most n = rw (length_digits 10 (places n) n) (places-most n)

pub decimal-room : (e n : ℕ) → length (ended_by e (decimal n)) ≤ decimal_room
decimal-room e n = rw (length_ended e (decimal n)) (omega (arith, decimal-most n))

pub hexadecimal-room : (e v : ℕ) → length (ended_by e (hexadecimal v)) ≤ hexadecimal_room
hexadecimal-room e v = rw (length_ended e (hexadecimal v), length_digits 16 hexadecimal_digits v) (omega arith)
