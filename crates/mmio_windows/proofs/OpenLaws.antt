-- What `is_placed`, `m32_takes` and `m64_takes` are proved from. `p`, `q` are what calls gave.
--     m32-power, m64-power    a size that passes the test of M32 or of M64 is a power of its range
--     placed_there, placed_away   the base is the address without the bits below the size, or it is not
--     m32_away ..         M32 takes an address or does not, test by test; m64_off, m64_on: so does an M64 window
-- Assumes nothing.
use Rattle.std.proofs.Common.{◌≡◌, ℕ, ◌+◌, ◌-◌, ◌*◌, ◌%◌, ◌^◌, ◌<◌, ◌≤◌, Bool, true, false, ◌&&◌, ◌||◌, eqb, ltb, leb, List, sym, refl, ◌∙◌, arith, pow_pos, pow_mono, ltb-true, lt-ltb, eq-eqb, ne_eqb, eqb-true, le-leb, leb-false, leb-true}
use lib.Bits.{bit_and}
use lib.Count.{count_trailing_zeros}
use borrow.Author.Tests.{lt-leb}
use Rattle.kinds.proofs.Tests.{by_cases, and_left, and_right, and-true, and_false}
use Rattle.kinds.specs.Words.{at}
use Rattle.kinds.specs.declared.number.ByteAddress.{ByteAddress}
use Rattle.kinds.specs.declared.record.Window.{Window}
use Rattle.profile.specs.Windows.{is_power, covers, m32_open, m64_open, m32_words, m64_words, window}
use Rattle.mmio_windows.specs.Size.{Power, WindowSize}
use Rattle.mmio_windows.specs.Takes.{placed, m32_takes, m64_takes}
use Rattle.mmio_windows.proofs.Powers.{power_of, wider, mask_is, begins-placed, placed-begins}

-- a power of the range of M32 or of M64
pub m32-power : (n : ℕ) → is_power 20 12 n ≡ true → Power 20 32 n
m32-power n e = power_of 20 32 n (omega arith) (omega arith) e

pub m64-power : (n : ℕ) → is_power 28 22 n ≡ true → Power 28 50 n
m64-power n e = power_of 28 50 n (omega arith) (omega arith) e

-- d is size n less 1, in 64 bits
module _ (least most b n : ℕ) (a : ByteAddress) (order : least ≤ most) (few : most < 64) (fits : n < 2 ^ 64) where
  abbrev d : ℕ
  d = (n + 18446744073709551615) % 18446744073709551616

  some : Power least most n → 0 < n
  some p = rw p.is (pow_pos (count_trailing_zeros 64 n))

  rest-is : Power least most n → bit_and a.0 d ≡ a.0 % n
  rest-is p = let e : d ≡ n - 1 = omega (arith, fits, some p) in rw e (mask_is a.0 n (count_trailing_zeros 64 n) p.is)

  pub placed_there : {p : Bool} → a.0 - bit_and a.0 d ≡ b → p ≡ is_power least (most - least) n → p ≡ placed least most b n a
  unfolding placed covers
  placed_there e h =
      by_cases (is_power least (most - least) n)
      (λ o. let p = power_of least most n order few o in
      let f = begins-placed a.0 b n (some p) (rw (← rest-is p) e) in
      h ∙ rw (o, eq-eqb (b % n) 0 f.0, le-leb b a.0 f.1, lt-ltb (a.0 - b) n f.2))
      (λ o. h ∙ rw o)

  pub placed_away : (a.0 - bit_and a.0 d ≡ b → ⊥) → eqb (a.0 - bit_and a.0 d) b ≡ placed least most b n a
  unfolding placed covers
  placed_away g =
      let s = is_power least (most - least) n in
      let whole = eqb (b % n) 0 in
      rw (ne_eqb (a.0 - bit_and a.0 d) b g)
      (by_cases (placed least most b n a)
      (λ o. let c = and_right (s && whole) (covers b n a) o in
      let h = and_left (s && whole) (covers b n a) o in
      let p = power_of least most n order few (and_left s whole h) in
      let from = leb-true b a.0 (and_left (leb b a.0) (ltb (a.0 - b) n) c) in
      let before = ltb-true (a.0 - b) n (and_right (leb b a.0) (ltb (a.0 - b) n) c) in
      absurd (g (rw (rest-is p) (placed-begins a.0 b n (some p) (eqb-true (b % n) 0 (and_right s whole h)) from before))))
      (λ o. sym o))

-- what is asked first stands last in the definition
swapped : (r c : Bool) → (r && c) ≡ (c && r)
swapped true c = sym (and-true c)
swapped false c = sym (and_false c)

m32_moved : (s q r c : Bool) → (s && q && r && c) ≡ (s && c && (q && r))
m32_moved true q r c = swapped (q && r) c
m32_moved false q r c = refl

m64_moved : (s r c : Bool) → (s && r && c) ≡ (s && c && r)
m64_moved true r c = swapped r c
m64_moved false r c = refl

m32-parts : (b n c : ℕ) (a : ByteAddress) → m32_takes b n c a ≡ (placed 20 32 b n a && (eqb (c % n) 0 && leb (c + n) (2 ^ 32)))
unfolding m32_takes m32_open placed
m32-parts b n c a = m32_moved (is_power 20 12 n && eqb (b % n) 0) (eqb (c % n) 0) (leb (c + n) (2 ^ 32)) (covers b n a)

m64-parts : (w : Window) (a : ByteAddress) → m64_takes w a ≡ (placed 28 50 w.base w.size a && (eqb w.mode 1 || eqb w.mode 2))
unfolding m64_takes m64_open placed
m64-parts w a = m64_moved (is_power 28 22 w.size && eqb (w.base % w.size) 0) (eqb w.mode 1 || eqb w.mode 2) (covers w.base w.size a)

-- the PCI side ends at or below 2 ^ 32
pci_end : (c n : ℕ) → n ≤ 2 ^ 32 → leb c (2 ^ 32 - n) ≡ leb (c + n) (2 ^ 32)
pci_end c n h =
    by_cases (leb (c + n) (2 ^ 32))
    (λ o. let z = leb-true (c + n) (2 ^ 32) o in rw o (le-leb c (2 ^ 32 - n) (omega arith)))
    (λ o. let z = leb-false (c + n) (2 ^ 32) o in rw o (lt-leb c (2 ^ 32 - n) (omega arith)))

module _ {p : Bool} (b n c : ℕ) (a : ByteAddress) (e : p ≡ placed 20 32 b n a) where
  pub m32_away : {x : Bool} → x ≡ false → p ≡ false → x ≡ m32_takes b n c a
  m32_away o h = o ∙ sym (m32-parts b n c a ∙ rw (← e, h))

  power : p ≡ true → Power 20 32 n
  unfolding placed
  power h = m32-power n (and_left _ _ (and_left _ _ (sym e ∙ h)))

  pub m32_size : p ≡ true → WindowSize n
  m32_size h = wider 20 50 n (omega arith) (omega arith) (power h)

  pub m32_fits : p ≡ true → n ≤ 2 ^ 32
  m32_fits h = rw (power h).is (pow_mono (power h).high)

  module _ {q : Bool} (h : p ≡ true) (f : q ≡ eqb (c % n) 0) where
    pub m32_no_pci : {x : Bool} → x ≡ false → q ≡ false → x ≡ m32_takes b n c a
    m32_no_pci o i = o ∙ sym (m32-parts b n c a ∙ rw (← e, h, ← f, i))

    pub m32_end : q ≡ true → leb c (2 ^ 32 - n) ≡ m32_takes b n c a
    m32_end i = pci_end c n (m32_fits h) ∙ sym (m32-parts b n c a ∙ rw (← e, h, ← f, i))

module _ {m : ℕ} {q : Bool} (ws : List ℕ) (k : ℕ) (a : ByteAddress) (e : m ≡ at ws (m32_words + (k * m64_words + 2))) (f : q ≡ (eqb m 1 || eqb m 2)) where
  pub m64_off : q ≡ false → q ≡ m64_takes (window ws k) a
  m64_off h = h ∙ sym (m64-parts (window ws k) a ∙ rw (← e, ← f, h) (and_false (placed 28 50 (window ws k).base (window ws k).size a)))

  pub m64_on : {p : Bool} {b n : ℕ} → q ≡ true → b ≡ at ws (m32_words + k * m64_words) → n ≡ at ws (m32_words + (k * m64_words + 1)) → p ≡ placed 28 50 b n a
      → p ≡ m64_takes (window ws k) a
  m64_on {b = b} {n = n} h g i o = o ∙ sym (m64-parts (window ws k) a ∙ rw (← e, ← f, h, ← g, ← i) (and-true (placed 28 50 b n a)))
