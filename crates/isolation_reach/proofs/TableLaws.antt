-- Words, tables and pages: which word of a table a page has, and which table a word leads to.
--     first-place, index_place    the table and the index of a word by its place in a table that starts at a multiple of its size; whole-place: both together
--     first-aligned       the first word of a table is such a multiple; eighth: so is that of an aligned base
--     lead_is, lead_cases the table that a word leads to
--     within-table, within_here, within-cases     what it says that a word is within
--     up, part            the upper levels of a page: one less, and one less with its index; page_zero: all levels
-- Assumes nothing.
use Rattle.std.specs.Prelude.{◌≡◌, refl, true, not, List, ℕ, zero, suc, ◌+◌, ◌-◌, ◌*◌, ◌/◌, ◌%◌, ◌^◌, ◌<◌, ◌≤◌, ltb, eqb}
use Rattle.std.proofs.Common.{sym, mul-zero, mul-suc, mul_left_comm, div-one, arith, pow-add, shr-shr}
use Rattle.std.proofs.Math.Nat.{mul-mod_left, mod-le}
use Rattle.std.proofs.Math.ListN.{length}
use Rattle.std.proofs.Math.Pow.{split, low}
use borrow.Author.Tests.{ltb-true, ltb-false, leb-true, eqb-true, le-leb, lt-ltb, eq-eqb}
use Rattle.kinds.proofs.Tests.{by_cases, clash, and_right}
use Rattle.kinds.specs.Words.{at}
use Rattle.profile.specs.Entry.{aligned}
use Rattle.profile.specs.Walk.{next_base, leads}
use Rattle.isolation_reach.specs.Marks.{index_of, first_of, table_of, leads_to, within}
use Rattle.isolation_groups.specs.Mark.{any_mark}

module _ (n f d : ℕ) (whole : f % 2 ^ n ≡ 0) (h : d < 2 ^ n) where
  pub index_place : (f + d) % 2 ^ n ≡ d
  index_place = let e : f / 2 ^ n * 2 ^ n ≡ f = omega (arith, split f n) in rw e at (low (f / 2 ^ n) n h)

  pub first-place : first_of n (f + d) ≡ f
  unfolding first_of
  first-place = rw index_place (omega arith)

pub whole-place : (n j : ℕ) → first_of n j + j % 2 ^ n ≡ j
unfolding first_of
whole-place n j = omega (arith, mod-le j (2 ^ n))

pub first-aligned : (n j : ℕ) → first_of n j % 2 ^ n ≡ 0
first-aligned n j =
    let e : first_of n j ≡ j / 2 ^ n * 2 ^ n = omega (arith, split j n, whole-place n j) in
    rw e (mul-mod_left (j / 2 ^ n) (2 ^ n))

eight_times : (n q : ℕ) → q * 2 ^ (3 + n) ≡ 8 * (q * 2 ^ n)
eight_times n q = rw (pow-add 2 3 n) (mul_left_comm q 8 (2 ^ n))

module _ (n x : ℕ) (h : x % 2 ^ (3 + n) ≡ 0) where
  eighth-part : x / 8 ≡ x / 2 ^ (3 + n) * 2 ^ n
  eighth-part =
      let p = eight_times n (x / 2 ^ (3 + n)) in
      let s = split x (3 + n) in
      omega (arith, p, s, h)

  pub eighth : x / 8 % 2 ^ n ≡ 0
  eighth = rw eighth-part (mul-mod_left (x / 2 ^ (3 + n)) (2 ^ n))

  pub eighth-back : x / 8 * 8 ≡ x
  eighth-back =
      let p = eight_times n (x / 2 ^ (3 + n)) in
      let s = split x (3 + n) in
      omega (arith, p, s, h)

pub lead_aligned : (n w : ℕ) → leads n w ≡ true → (next_base w).0 / 8 % 2 ^ n ≡ 0
unfolding leads aligned
lead_aligned n w h =
    eighth n (w / 4096 * 4096) (eqb-true (w / 4096 * 4096 % 2 ^ (3 + n)) 0 (and_right (not (eqb (w % 4) 0)) (aligned n (next_base w)) h))

module _ (m : List ℕ) (n j : ℕ) where
  pub lead_is : j < length m → leads n (at m j) ≡ true → leads_to m n j ≡ (next_base (at m j)).0 / 8
  unfolding leads_to table_of
  lead_is h o = rw (lt-ltb j (length m) h, o)

  pub lead_cases : {Z : Type 0} → leads_to m n j < length m → (j < length m → leads n (at m j) ≡ true → leads_to m n j ≡ (next_base (at m j)).0 / 8 → Z) → Z
  unfolding leads_to table_of
  lead_cases h f =
      by_cases (ltb j (length m))
      (λ o. by_cases (leads n (at m j))
      (λ p. f (ltb-true j (length m) o) p (rw (o, p)))
      (λ p. let z : length m < length m = rw (o, p) at h in absurd (omega arith)))
      (λ o. let z : length m < length m = rw o at h in absurd (omega arith))

module _ (t : List ℕ) (n x d c j : ℕ) where
  pub within-table : any_mark t (first_of n j) ≡ true → within t n x d c j ≡ true
  unfolding within
  within-table o = rw o

  pub within_here : first_of n j ≡ x → (d ≤ j % 2 ^ n → d + c ≤ j % 2 ^ n) → within t n x d c j ≡ true
  unfolding within
  within_here e f =
      by_cases (any_mark t (first_of n j)) (λ o. rw o)
      (λ o. rw (o, eq-eqb (first_of n j) x e)
      (by_cases (ltb (j % 2 ^ n) d) (λ p. rw p)
      (λ p. let z = f (ltb-false (j % 2 ^ n) d p) in rw (p, le-leb c (j % 2 ^ n - d) (omega arith)))))

  pub within-cases : {Z : Type 0} → within t n x d c j ≡ true → (any_mark t (first_of n j) ≡ true → Z)
      → (first_of n j ≡ x → (d ≤ j % 2 ^ n → d + c ≤ j % 2 ^ n) → Z) → Z
  unfolding within
  within-cases h f g =
      by_cases (any_mark t (first_of n j)) f
      (λ o. by_cases (eqb (first_of n j) x)
      (λ p. g (eqb-true (first_of n j) x p)
      (λ l. by_cases (ltb (j % 2 ^ n) d)
      (λ q. let z = ltb-true (j % 2 ^ n) d q in absurd (omega arith))
      (λ q. let z = leb-true c (j % 2 ^ n - d) (rw (o, p, q) at h) in omega arith)))
      (λ p. clash (rw (o, p) at h) refl))

-- ---- pages

module _ (n k q : ℕ) where
  pub up : q / 2 ^ (n * suc k) ≡ q / 2 ^ (n * k) / 2 ^ n
  up = rw (mul-suc n k) (sym (shr-shr q (n * k) n))

  pub part : q / 2 ^ (n * k) ≡ q / 2 ^ (n * suc k) * 2 ^ n + index_of n k q
  part = rw up (sym (split (q / 2 ^ (n * k)) n))

pub page_zero : (n q : ℕ) → q / 2 ^ (n * zero) ≡ q
page_zero n q = rw (mul-zero n, div-one q)
