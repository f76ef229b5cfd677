-- Shifts and masks at 64 bits as powers, quotients and remainders.
--     one_shl             1 << k; one_shl_pos is what `(1 << k) - 1` asks
--     eight_shl           8 << k, the bytes of a table of 2 ^ k words
--     masked              x & ((1 << k) - 1)
--     cleared             (x >> k) << k
--     joined              (p << k) | (x & ((1 << k) - 1)), cut to 64 bits; joined-fits: a word with its lowest k bits replaced is in 64 bits
--     mod_lt_pow          a remainder by 2 ^ k is below every power from 2 ^ k up
--     less_one            l times b is one b more than l - 1 times b
-- Assumes nothing.
use Rattle.std.specs.Prelude.{◌≡◌, ℕ, zero, suc, ◌+◌, ◌-◌, ◌*◌, ◌/◌, ◌%◌, ◌^◌, ◌≤◌, ◌<◌}
use Rattle.std.proofs.Common.{sym, ap, subst, ◌∙◌, mod-eq_of_lt, mod-lt, lt_of_le_of_lt, one-mul, div-mul-le_self, suc-mul, div-lt_iff_lt-mul, mul-le-mul_right, add-zero, sub-one, arith, pow-add, pow_pos, pow_mono}
use Rattle.std.proofs.Math.Path.{subst⁻¹}
use Rattle.std.proofs.Math.Nat.{mul-mod_left}
use Rattle.std.proofs.Math.Pow.{pow-lt, high, low}
use Rattle.std.proofs.lemmas.Nat.{mod-pow-add, shl-shr, and_mask, or_shifted}
use Rattle.std.specs.Int.Bits.{bit_and, bit_or}

pub one_shl : (k : ℕ) → k < 64 → (1 * 2 ^ k) % 2 ^ 64 ≡ 2 ^ k
one_shl k h = rw (one-mul (2 ^ k)) (mod-eq_of_lt (pow-lt h))

pub one_shl_pos : (k : ℕ) → k < 64 → 1 ≤ (1 * 2 ^ k) % 2 ^ 64
one_shl_pos k h = rw (one_shl k h) (pow_pos k)

pub eight_shl : (k : ℕ) → k < 61 → (8 * 2 ^ k) % 2 ^ 64 ≡ 2 ^ (3 + k)
eight_shl k h = rw (← pow-add 2 3 k) (mod-eq_of_lt (pow-lt {j = 64} (omega arith)))

pub masked : (x k : ℕ) → k < 64 → bit_and x ((1 * 2 ^ k) % 2 ^ 64 - 1) ≡ x % 2 ^ k
masked x k h = rw (one_shl k h) (and_mask x k)

pub mod_lt_pow : (x k m : ℕ) → k ≤ m → x % 2 ^ k < 2 ^ m
mod_lt_pow x k m h = omega (arith, mod-lt x (pow_pos k), pow_mono h)

pub cleared : (x k : ℕ) → x < 2 ^ 64 → (x / 2 ^ k * 2 ^ k) % 2 ^ 64 ≡ x / 2 ^ k * 2 ^ k
cleared x k h = mod-eq_of_lt (lt_of_le_of_lt (div-mul-le_self x (2 ^ k)) h)

pub less_one : (l b : ℕ) → 0 < l → l * b ≡ (l - 1) * b + b
less_one zero b h = absurd (omega arith)
less_one (suc k) b h = rw (sub-one (suc k)) (suc-mul k b)

-- a number below a multiple of b stays below it with its remainder by b replaced
under : (x y b n : ℕ) → 0 < b → x < n * b → x / b * b + y % b < n * b
under x y b n pos h =
    let q : x / b < n = (div-lt_iff_lt-mul pos).1 h in
    let m : (x / b + 1) * b ≤ n * b = mul-le-mul_right b (omega arith) in
    let r = mod-lt y pos in
    omega arith

-- 64 bits, the lowest k of them apart
parted : (k : ℕ) → k < 64 → 64 ≡ 64 - k + k
parted k h = omega arith

pub joined-fits : (w x k : ℕ) → k < 64 → w < 2 ^ 64 → w / 2 ^ k * 2 ^ k + x % 2 ^ k < 2 ^ 64
joined-fits w x k h f =
    let e : 2 ^ 64 ≡ 2 ^ (64 - k) * 2 ^ k = ap (λ (n : ℕ). 2 ^ n) (parted k h) ∙ pow-add 2 (64 - k) k in
    subst⁻¹ (λ (n : ℕ). w / 2 ^ k * 2 ^ k + x % 2 ^ k < n) e (under w x (2 ^ k) (2 ^ (64 - k)) (pow_pos k) (subst (λ (n : ℕ). w < n) e f))

-- the two sides of `joined`, cut to j + k bits
cut_left : (p j k : ℕ) → p * 2 ^ k % 2 ^ (j + k) ≡ p % 2 ^ j * 2 ^ k
cut_left p j k = mod-pow-add (p * 2 ^ k) j k ∙ rw (shl-shr p k, mul-mod_left p (2 ^ k), add-zero)

cut_right : (p x j k : ℕ) → (p * 2 ^ k + x % 2 ^ k) % 2 ^ (j + k) ≡ p % 2 ^ j * 2 ^ k + x % 2 ^ k
cut_right p x j k =
    mod-pow-add (p * 2 ^ k + x % 2 ^ k) j k ∙ rw (high p k (mod-lt x (pow_pos k)), low p k (mod-lt x (pow_pos k)))

pub joined : (p x k : ℕ) → k < 64 → bit_or (p * 2 ^ k % 2 ^ 64) (bit_and x (1 * 2 ^ k % 2 ^ 64 - 1)) ≡ (p * 2 ^ k + x % 2 ^ k) % 2 ^ 64
joined p x k h =
    let j = 64 - k in
    let l : p * 2 ^ k % 2 ^ 64 ≡ p % 2 ^ j * 2 ^ k = subst⁻¹ (λ (n : ℕ). p * 2 ^ k % 2 ^ n ≡ p % 2 ^ j * 2 ^ k) (parted k h) (cut_left p j k) in
    let r : (p * 2 ^ k + x % 2 ^ k) % 2 ^ 64 ≡ p % 2 ^ j * 2 ^ k + x % 2 ^ k =
    subst⁻¹ (λ (n : ℕ). (p * 2 ^ k + x % 2 ^ k) % 2 ^ n ≡ p % 2 ^ j * 2 ^ k + x % 2 ^ k) (parted k h) (cut_right p x j k) in
    rw (masked x k h) (ap (λ (n : ℕ). bit_or n (x % 2 ^ k)) l ∙ or_shifted (p % 2 ^ j) k (x % 2 ^ k) (mod-lt x (pow_pos k)) ∙ sym r)
