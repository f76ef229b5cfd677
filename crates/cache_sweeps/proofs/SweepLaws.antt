-- What the functions of a sweep are proved from. Assumes nothing.
use mathlib.Core.Path.{◌≡◌, sym, ap, ◌∙◌}
use mathlib.Core.Bool.{Bool, true, false, ◌&&◌}
use mathlib.Core.List.{List}
use Prim.Native.Nat.{ℕ, ◌+◌, ◌-◌, ◌*◌, ◌/◌, ◌%◌, ◌^◌, ◌≤◌, ◌<◌}
use native.Mathlib.Omega.{arith}
use lib.Dec.{eqb, ltb}
use lib.ListN.{length}
use borrow.Author.Tests.{lt-ltb, le-ltb, eq-eqb, ne_eqb, eqb-true}
use Rattle.kinds.specs.Has.{has}
use Rattle.std.proofs.Common.{ext_get_or}
use Rattle.std.proofs.Math.Path.{fun_ext}
use Rattle.kinds.proofs.Tests.{by_cases, clash, and_false}
use Rattle.kinds.specs.Turns.{turns}
use Rattle.kinds.proofs.TurnsLaws.{turns_next}
use Rattle.kinds.specs.declared.number.ByteAddress.{ByteAddress}
use Rattle.kinds.specs.declared.number.PeNumber.{PeNumber}
use Rattle.profile.specs.Entry.{half, offset, entry_in, page_of, paged}
use Rattle.profile.specs.Walk.{walked_page}
use Rattle.profile.proofs.WalkLaws.{paged-walkable}
use Rattle.cache.specs.Cache.{tabled, through}
use Rattle.cache.specs.Slots.{slot_words, Test, dropped, sweep}
use Rattle.cache.proofs.SlotsLaws.{at-sweep, length_sweep}
use Rattle.cache_sweeps.specs.Drops.{of_entries, of_pe, of_page, page_slot}
use Rattle.cache_sweeps.specs.Turn.{cleared, turned}
use Rattle.cache_sweeps.proofs.TurnLaws.{length_turned, turns-is}

-- `of_pe`
pub no_tag : (p t : ℕ) → t ≡ 0 → false ≡ of_pe p t
no_tag p t z = rw z (sym (ne_eqb 0 (p + 1) (omega arith)))

pub tag_is : (p t : ℕ) → (t ≡ 0 → ⊥) → eqb (t - 1) p ≡ of_pe p t
tag_is p t n =
    by_cases (eqb (t - 1) p)
    (λ o. let z = eqb-true (t - 1) p o in o ∙ sym (eq-eqb t (p + 1) (omega arith)))
    (λ o. by_cases (eqb t (p + 1))
    (λ q. let z = eqb-true t (p + 1) q in clash (eq-eqb (t - 1) p (omega arith)) o)
    (λ q. o ∙ sym q))

-- `through`
module _ (n : ℕ) (e m : List ℕ) (k t h q : ℕ) where
  pub no_record : n ≤ t - 1 → through (of_entries n e) m k t h q ≡ false
  unfolding through tabled
  no_record b = rw (le-ltb _ _ b)

  pub no_half : 2 ≤ h → through (of_entries n e) m k t h q ≡ false
  unfolding through tabled
  no_half b = by_cases (ltb (t - 1) n) (λ o. rw (o, le-ltb _ _ b)) (λ o. rw o)

  -- bit 59 is the half
  bit : h < 2 → h * 2 ^ 59 % 2 ^ 64 / 2 ^ 59 % 2 ≡ h
  bit low = omega arith

  -- a record that has pages can be walked
  pub by_record : t - 1 < n → h < 2 → through (of_entries n e) m k t h q
      ≡ (paged (entry_in e (record { 0 = t - 1 }) (half (record { 0 = h * 2 ^ 59 % 2 ^ 64 })))
      && has k (walked_page m (entry_in e (record { 0 = t - 1 }) (half (record { 0 = h * 2 ^ 59 % 2 ^ 64 }))) (record { 0 = q })).reads)
  unfolding through tabled
  by_record some low =
      rw (bit low, lt-ltb _ _ some, lt-ltb _ _ low)
      (by_cases (paged (entry_in e (record { 0 = t - 1 }) h)) (λ o. rw (o, paged-walkable (entry_in e (record { 0 = t - 1 }) h) o)) (λ o. rw o))

-- `sweep`: a turn
pub turn_is : (d : Test) (l : List ℕ) (k : ℕ) {b : Bool} {x : List ℕ} → b ≡ dropped d l k → x ≡ cleared b l k → x ≡ turned d l k
unfolding turned
turn_is d l k e f = f ∙ rw e

module _ (d : Test) (c₀ : List ℕ) {c : List ℕ} (k : ℕ) (e : c ≡ turns (turned d) c₀ k) where
  module _ {x : List ℕ} (h : x ≡ turned d c k) where
    pub turn-next : x ≡ turns (turned d) c₀ (k + 1)
    turn-next = turns_next (turned d) c₀ k e h

    pub turn_length : length c ≡ length c₀ → length x ≡ length c₀
    turn_length g = ap length h ∙ length_turned d c k ∙ g

  pub turn_last : length c ≡ length c₀ → length c ≤ k * slot_words → c ≡ sweep d c₀
  turn_last g h = e ∙ turns-is d c₀ k (rw (← g) h)

-- `drop_page`: no slot is named
unnamed : (d : Test) → ((t h q : ℕ) → d t h q ≡ false) → (l : List ℕ) (k : ℕ) → dropped d l k ≡ false
unfolding dropped
unnamed d n l k = rw n (and_false _)

none_swept : (d : Test) → ((t h q : ℕ) → d t h q ≡ false) → (l : List ℕ) → sweep d l ≡ l
none_swept d n l = ext_get_or 0 (sweep d l) l (length_sweep d l) (λ i h. rw (at-sweep d l i, unnamed d n l (i / slot_words)))

module _ (e : List ℕ) (p : PeNumber) (a : ByteAddress) where
  pub page_named : paged (entry_in e p (half a)) ≡ true → page_slot e p a ≡ of_page p.0 (half a) (page_of (entry_in e p (half a)) (offset a)).0
  unfolding page_slot
  page_named o = fun_ext (λ t. fun_ext (λ h. fun_ext (λ q. rw o)))

  pub none_named : paged (entry_in e p (half a)) ≡ false → (l : List ℕ) → sweep (page_slot e p a) l ≡ l
  none_named o l = none_swept (page_slot e p a) (λ t h q. unfold page_slot in rw o) l
