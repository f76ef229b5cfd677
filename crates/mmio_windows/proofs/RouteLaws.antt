-- What the functions of `mmio_windows` are proved from. `p`, `q`, `r` are what calls gave.
--     m32_from ..         what is known of a window that takes an address: m64_begins ..
--     m64_away ..         what an M64 window gives; from_hit, from_next: one turn of the search through them; from_end: its end
--     route_m32, route_m64    M32 takes the address, or the M64 windows are asked
-- Assumes nothing.
use Rattle.kinds.specs.Lookup.{Route, hit}
use Rattle.std.specs.Prelude.{Some, None}
use Rattle.std.proofs.Common.{◌≡◌, ℕ, zero, suc, ◌+◌, ◌-◌, ◌%◌, ◌^◌, ◌<◌, ◌≤◌, Bool, true, false, ◌&&◌, eqb, ltb, leb, List, sym, refl, ◌∙◌, sub-one, arith, w64, Fits, ltb-true, leb-true}
use Rattle.kinds.proofs.Tests.{by_cases, and_left, and_right}
use Rattle.kinds.specs.Words.{at, pe_at}
use Rattle.kinds.specs.declared.lookup.Hit.{Hit}
use Rattle.kinds.specs.declared.number.ByteAddress.{ByteAddress}
use Rattle.kinds.specs.declared.record.Window.{Window}
use Rattle.mmio_windows.proofs.OpenLaws.{m32-power, m64-power}
use Rattle.mmio_windows.proofs.Powers.{wider}
use Rattle.mmio_windows.specs.Size.{WindowSize}
use Rattle.profile.specs.Windows.{is_power, covers, segment_of, m32_open, m64_open, m64_pe, m64_count, window, m64, m64_from, route}
use Rattle.mmio_windows.specs.Takes.{m32_takes, m64_takes}

-- what a window that takes an address has
covers-from : (b n : ℕ) (a : ByteAddress) → covers b n a ≡ true → b ≤ a.0
unfolding covers
covers-from b n a h = leb-true b a.0 (and_left (leb b a.0) (ltb (a.0 - b) n) h)

covers_below : (b n : ℕ) (a : ByteAddress) → covers b n a ≡ true → a.0 - b < n
unfolding covers
covers_below b n a h = ltb-true (a.0 - b) n (and_right (leb b a.0) (ltb (a.0 - b) n) h)

module _ (b n c : ℕ) (a : ByteAddress) (h : m32_takes b n c a ≡ true) where
  m32-covers : covers b n a ≡ true
  unfolding m32_takes
  m32-covers = and_right (m32_open b n c) (covers b n a) h

  m32-is-power : is_power 20 12 n ≡ true
  unfolding m32_takes m32_open
  m32-is-power = and_left _ _ (and_left _ _ (and_left _ _ (and_left (m32_open b n c) (covers b n a) h)))

  pub m32_from : b ≤ a.0
  m32_from = covers-from b n a m32-covers

  pub m32_sized : WindowSize n
  m32_sized = wider 20 50 n (omega arith) (omega arith) (m32-power n m32-is-power)

  pub m32_moved : Fits w64 (a.0 - b + c)
  unfolding m32_takes m32_open
  m32_moved =
      let ends = leb-true (c + n) (2 ^ 32) (and_right (is_power 20 12 n && eqb (b % n) 0 && eqb (c % n) 0) (leb (c + n) (2 ^ 32)) (and_left (m32_open b n c) (covers b n a) h)) in
      omega (arith, covers_below b n a m32-covers)

module _ (w : Window) (a : ByteAddress) (h : m64_takes w a ≡ true) where
  pub m64_begins : w.base ≤ a.0
  unfolding m64_takes
  m64_begins = covers-from w.base w.size a (and_right (m64_open w) (covers w.base w.size a) h)

  pub m64_sized : WindowSize w.size
  unfolding m64_takes m64_open
  m64_sized =
      let power = and_left (is_power 28 22 w.size) (eqb (w.base % w.size) 0) (and_left _ _ (and_left (m64_open w) (covers w.base w.size a) h)) in
      wider 20 50 w.size (omega arith) (omega arith) (m64-power w.size power)

-- the windows from number k on, n of them
from_zero : (ws : List ℕ) (k : ℕ) (a : ByteAddress) → m64_from ws 0 k a ≡ None
unfolding m64_from
from_zero ws k a = refl

from_suc : (ws : List ℕ) (n k : ℕ) (a : ByteAddress) → 0 < n → m64_from ws n k a ≡ m64 (window ws k) a (m64_from ws (n - 1) (k + 1) a)
unfolding m64_from
from_suc ws zero k a h = absurd (omega arith)
from_suc ws (suc n) k a h = rw (sub-one (suc n))

module _ (w : Window) (a : ByteAddress) {p : Bool} (e : p ≡ m64_takes w a) where
  pub m64_away : p ≡ false → None ≡ m64 w a None
  unfolding m64 m64_takes
  m64_away h = rw (← e, h)

  pub m64_there : {v : Window} {j : ℕ} → p ≡ true → v ≡ w → j ≡ m64_pe v a → hit j a ≡ m64 w a None
  unfolding m64 m64_takes
  m64_there h g f = rw (← e, h, f, g)

  pub m64_taken : {v : Window} → p ≡ true → v ≡ w → m64_takes v a ≡ true
  m64_taken h g = rw g (sym e ∙ h)

-- what a window gives it gives whatever the rest is, and where it gives nothing the rest decides
module _ (w : Window) (a : ByteAddress) (rest : Route) where
  given : {h : Hit} → m64 w a None ≡ Some h → m64 w a rest ≡ Some h
  unfolding m64
  given e = by_cases (m64_open w && covers w.base w.size a) (λ o. rw o (rw o at e)) (λ o. cc (rw o at e))

  passed : m64 w a None ≡ None → m64 w a rest ≡ rest
  unfolding m64
  passed e = by_cases (m64_open w && covers w.base w.size a) (λ o. cc (rw o at e)) (λ o. rw o)

-- k windows were asked
module _ (ws : List ℕ) (k : ℕ) (a : ByteAddress) (i : m64_from ws m64_count 0 a ≡ m64_from ws (m64_count - k) k a) where
  module _ {r : Route} (more : k < m64_count) (e : r ≡ m64 (window ws k) a None) where
    on : m64_from ws m64_count 0 a ≡ m64 (window ws k) a (m64_from ws (m64_count - (k + 1)) (k + 1) a)
    on = let n : m64_count - k - 1 ≡ m64_count - (k + 1) = omega arith in i ∙ from_suc ws (m64_count - k) k a (omega arith) ∙ rw n

    pub from_hit : {h : Hit} → r ≡ Some h → Some h ≡ m64_from ws m64_count 0 a
    from_hit f = sym (on ∙ given (window ws k) a (m64_from ws (m64_count - (k + 1)) (k + 1) a) (sym e ∙ f))

    pub from_next : r ≡ None → m64_from ws m64_count 0 a ≡ m64_from ws (m64_count - (k + 1)) (k + 1) a
    from_next f = on ∙ passed (window ws k) a (m64_from ws (m64_count - (k + 1)) (k + 1) a) (sym e ∙ f)

  pub from_end : m64_count ≤ k → None ≡ m64_from ws m64_count 0 a
  from_end h = let n : m64_count - k ≡ 0 = omega arith in sym (i ∙ rw n (from_zero ws k a))

module _ {p : Bool} {b n c : ℕ} (ws ss : List ℕ) (a : ByteAddress) (f : b ≡ at ws 0) (g : n ≡ at ws 1) (h : c ≡ at ws 2) (e : p ≡ m32_takes b n c a) where
  pub route_m32 : {x : Hit} → p ≡ true → x ≡ record { pe = pe_at ss (segment_of b n a); pci = record { 0 = a.0 - b + c } } → Some x ≡ route ws ss a
  unfolding route m32_takes
  route_m32 t o = rw (← f, ← g, ← h, ← e, t, o)

  pub route_m64 : {r : Route} → p ≡ false → r ≡ m64_from ws m64_count 0 a → r ≡ route ws ss a
  unfolding route m32_takes
  route_m64 t o = rw (← f, ← g, ← h, ← e, t) o
