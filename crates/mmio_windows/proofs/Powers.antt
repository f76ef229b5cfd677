-- A power of two by the count of its trailing zeros.
--     trailing_pow        2 ^ j has j trailing zeros
--     power_is            the code's test is the definition's: x is 2 to the count of its zeros, in the range; power_off: outside it
--     power_of            what a number that passes the test is; wider: in a wider range too
--     multiple_is         a mask is a remainder by a power
--     begins-placed, placed-begins    b is a without the rest by n exactly where b is a multiple of n and a is one of the n bytes from b
--     segment_is          a shift by the exponent less 8 is a quotient by the 256th part of the size
-- Assumes nothing.
use Rattle.std.proofs.Common.{◌≡◌, ℕ, zero, suc, ◌+◌, ◌-◌, ◌*◌, ◌/◌, ◌%◌, ◌^◌, ◌<◌, ◌≤◌, Bool, true, false, ◌&&◌, eqb, leb, le-leb, sym, refl, ap, ◌∙◌, le_of_suc-le-suc, mod-lt, mod-eq_of_lt, pow-suc, arith, pow-add, eq-eqb, eqb-true}
use native.Mathlib.Nat.{div-add-mod, mul-mod_right, mod-le, add-mul-mod_self_left}
use lib.Bits.{bit_and, and_mask}
use lib.Count.{count_trailing_zeros}
use lib.Pow.{shl-shr}
use borrow.Author.Tests.{eqb-false}
use Rattle.kinds.proofs.Powers.{one_shl}
use Rattle.kinds.proofs.Tests.{by_cases, clash, or_cases, or_left, or_right}
use Rattle.kinds.specs.declared.number.ByteAddress.{ByteAddress}
use Rattle.profile.specs.Windows.{is_power, segment_of}
use Rattle.mmio_windows.specs.Size.{Power, WindowSize}

halved : (n : ℕ) → n * 2 / 2 ≡ n
halved n = omega arith

even : (n : ℕ) → n * 2 % 2 ≡ 0
even n = omega arith

pub trailing_pow : (d j : ℕ) → j < d → count_trailing_zeros d (2 ^ j) ≡ j
unfolding count_trailing_zeros
trailing_pow zero j h = absurd (omega arith)
trailing_pow (suc d) zero h = refl
trailing_pow (suc d) (suc j) h = rw (pow-suc 2 j, even (2 ^ j), halved (2 ^ j)) (ap suc (trailing_pow d j (le_of_suc-le-suc h)))

-- the definition's search over exponents, both ways
found : {P : Type 0} (k n x : ℕ) → is_power k n x ≡ true → ((j : ℕ) → x ≡ 2 ^ j → k ≤ j → j ≤ k + n → P) → P
unfolding is_power
found k zero x e f = f k (eqb-true x (2 ^ k) e) (omega arith) (omega arith)
found k (suc n) x e f =
    or_cases (eqb x (2 ^ (k + suc n))) (is_power k n x) e
    (λ o. f (k + suc n) (eqb-true x (2 ^ (k + suc n)) o) (omega arith) (omega arith))
    (λ o. found k n x o (λ j i l m. f j i l (omega arith)))

finds : (k n j : ℕ) → k ≤ j → j ≤ k + n → is_power k n (2 ^ j) ≡ true
unfolding is_power
finds k zero j h g = eq-eqb (2 ^ j) (2 ^ k) (ap (λ (i : ℕ). 2 ^ i) (omega arith))
finds k (suc n) j h g =
    let at = eqb (2 ^ j) (2 ^ (k + suc n)) in
    by_cases (eqb j (k + suc n))
    (λ o. or_left at (is_power k n (2 ^ j)) (eq-eqb (2 ^ j) (2 ^ (k + suc n)) (ap (λ (i : ℕ). 2 ^ i) (eqb-true j (k + suc n) o))))
    (λ o. let z = eqb-false j (k + suc n) o in or_right at (is_power k n (2 ^ j)) (finds k n j h (omega arith)))

module _ (least most x : ℕ) (order : least ≤ most) (few : most < 64) where
  pub power_of : is_power least (most - least) x ≡ true → Power least most x
  power_of e =
      found least (most - least) x e
      (λ j i l m. let t : count_trailing_zeros 64 x ≡ j = ap (count_trailing_zeros 64) i ∙ trailing_pow 64 j (omega arith) in
      record { is = rw t i; low = omega arith; high = omega arith })

  of_power : Power least most x → is_power least (most - least) x ≡ true
  of_power p = rw p.is (finds least (most - least) (count_trailing_zeros 64 x) p.low (omega arith))

  -- what is no power in the range
  outside : (Power least most x → ⊥) → false ≡ is_power least (most - least) x
  outside f = by_cases (is_power least (most - least) x) (λ o. absurd (f (power_of o))) (λ o. sym o)

  pub power_off : {q : Bool} → q ≡ (leb least (count_trailing_zeros 64 x) && leb (count_trailing_zeros 64 x) most) → q ≡ false → q ≡ is_power least (most - least) x
  power_off e o = o ∙ outside (λ p. clash (sym o ∙ (e ∙ rw (le-leb least (count_trailing_zeros 64 x) p.low, le-leb (count_trailing_zeros 64 x) most p.high))) refl)

  pub power_is : least ≤ count_trailing_zeros 64 x → count_trailing_zeros 64 x ≤ most → eqb x (1 * 2 ^ count_trailing_zeros 64 x % 2 ^ 64) ≡ is_power least (most - least) x
  power_is l m =
      let t = count_trailing_zeros 64 x in
      rw (one_shl t (omega arith))
      (by_cases (eqb x (2 ^ t))
      (λ o. rw o (sym (of_power (record { is = eqb-true x (2 ^ t) o; low = l; high = m }))))
      (λ o. rw o (outside (λ p. eqb-false x (2 ^ t) o p.is))))

pub wider : {least most : ℕ} (j k x : ℕ) → j ≤ least → most ≤ k → Power least most x → Power j k x
wider j k x l m p = record { is = p.is; low = omega (arith, p.low); high = omega (arith, p.high) }

-- over the exponent
pub mask_is : (x n k : ℕ) → n ≡ 2 ^ k → bit_and x (n - 1) ≡ x % n
mask_is x n k e = rw e (and_mask x k)

part-is : (n k : ℕ) → n ≡ 2 ^ k → 8 ≤ k → n / 256 ≡ 2 ^ (k - 8)
part-is n k e h =
    let apart : k ≡ k - 8 + 8 = omega arith in
    ap (λ (m : ℕ). m / 256) (e ∙ ap (λ (i : ℕ). 2 ^ i) apart ∙ pow-add 2 (k - 8) 8) ∙ shl-shr (2 ^ (k - 8)) 8

module _ (a b n : ℕ) (some : 0 < n) where
  pub begins-placed : a - a % n ≡ b → (b % n ≡ 0) × (b ≤ a) × (a - b < n)
  begins-placed e =
      let whole : b ≡ n * (a / n) = omega (arith, e, div-add-mod a n) in
      (rw whole (mul-mod_right n (a / n)), omega (arith, e), omega (arith, e, mod-le a n, mod-lt a some))

  pub placed-begins : b % n ≡ 0 → b ≤ a → a - b < n → a - a % n ≡ b
  placed-begins m l h =
      let apart : a ≡ a - b + n * (b / n) = omega (arith, m, l, div-add-mod b n) in
      let rest : a % n ≡ a - b = ap (λ (x : ℕ). x % n) apart ∙ add-mul-mod_self_left (a - b) n (b / n) ∙ mod-eq_of_lt h in
      omega (arith, rest, l)

module _ (n : ℕ) (p : WindowSize n) where
  pub multiple_is : (x : ℕ) → eqb (bit_and x (n - 1)) 0 ≡ eqb (x % n) 0
  multiple_is x = ap (λ (m : ℕ). eqb m 0) (mask_is x n (count_trailing_zeros 64 n) p.is)

  pub segment_fits : 8 ≤ count_trailing_zeros 64 n
  segment_fits = omega (arith, p.low)

  pub segment_is : (b : ℕ) (a : ByteAddress) → (a.0 - b) / 2 ^ (count_trailing_zeros 64 n - 8) ≡ segment_of b n a
  unfolding segment_of
  segment_is b a = sym (ap (λ (m : ℕ). (a.0 - b) / m) (part-is n (count_trailing_zeros 64 n) p.is segment_fits))
