-- What the functions that write numbers are proved from, a law to a `return` or a turn. Assumes nothing.
use mathlib.Core.Path.{◌≡◌}
use mathlib.Core.List.{List, [], ◌∷◌}
use Prim.Native.Nat.{ℕ, zero, suc, ◌+◌, ◌-◌, ◌/◌, ◌%◌, ◌≤◌, ◌<◌}
use native.Mathlib.Nat.{mod-lt}
use native.Mathlib.Numerals.{sub-one}
use native.Mathlib.Omega.{arith}
use lib.ListN.{length, set}
use lib.Seq.{sets}
use borrow.Author.Tests.{lt-ltb, le-ltb}
use Rattle.replay_text.specs.Digits.{glyph, digits, places_from, places, decimal, ended_by, decimal_digits}
use Rattle.replay_text.proofs.DigitsLaws.{length_ended, length_digits}
use Rattle.text_report.specs.Placed.{Wrote}
use Rattle.text_report.proofs.WrittenLaws.{sets_append, sets_last}

-- digits, the last first; i are left to write, those of r
module _ (l m : List ℕ) (a b k n : ℕ) where
  pub digits-turn : (i r : ℕ) {g : ℕ} → sets m a (digits b i r) ≡ sets l a (digits b k n) → 0 < i → g ≡ glyph (r % b)
      → sets (set m (a + (i - 1)) g) a (digits b (i - 1) (r / b)) ≡ sets l a (digits b k n)
  unfolding digits
  digits-turn zero r same h e = absurd (omega arith)
  digits-turn (suc j) r same h e =
      rw (sub-one (suc j), e)
      (rw (sets_last m a (digits b j (r / b)) (glyph (r % b)), length_digits b j (r / b)) at same)

  pub digits-end : (i r : ℕ) → sets m a (digits b i r) ≡ sets l a (digits b k n) → i ≤ 0 → m ≡ sets l a (digits b k n)
  unfolding digits
  digits-end zero r same h = same
  digits-end (suc j) r same h = absurd (omega arith)

pub digit_below : (r b : ℕ) → 0 < b → b ≤ 16 → r % b < 16
digit_below r b h k = let z = mod-lt r h in omega arith

-- the places of n; c are counted, r is what is left
module _ (n c r : ℕ) (same : places n + 1 ≡ c + places_from (decimal_digits - c) r) where
  pub places-turn : c < decimal_digits → 10 ≤ r → places n + 1 ≡ c + 1 + places_from (decimal_digits - (c + 1)) (r / 10)
  unfolding places_from
  places-turn h k =
      let e : decimal_digits - c ≡ suc (decimal_digits - (c + 1)) = omega arith in
      let z = rw (e, le-ltb r 10 k) at same in
      omega arith

  pub places-few : c < decimal_digits → r < 10 → c ≡ places n
  unfolding places_from
  places-few h k =
      let e : decimal_digits - c ≡ suc (decimal_digits - (c + 1)) = omega arith in
      let z = rw (e, lt-ltb r 10 k) at same in
      omega arith

  pub places-all : decimal_digits ≤ c → c ≡ places n
  unfolding places_from
  places-all h =
      let e : decimal_digits - c ≡ 0 = omega arith in
      let z = rw e at same in
      omega arith

-- digits, and the byte e that ends them
module _ (l : List ℕ) (a b k n e : ℕ) where
  pub digits-ended : {m : List ℕ} → m ≡ sets l a (digits b k n) → set m (a + k) e ≡ sets l a (ended_by e (digits b k n))
  digits-ended f = rw (sets_append l a (digits b k n) (e ∷ []), length_digits b k n, ← f)

  pub digits-past : a + k + 1 ≡ a + length (ended_by e (digits b k n))
  digits-past = rw (length_ended e (digits b k n), length_digits b k n) (omega arith)

-- c are the places of n
pub decimal_wrote : (l : List ℕ) (a n e : ℕ) {c : ℕ} {q : List ℕ} {r : ℕ} → c ≡ places n → Wrote (ended_by e (digits 10 c n)) l a q r → Wrote (ended_by e (decimal n)) l a q r
decimal_wrote l a n e f h = rw f at h
