-- The pages of a record that are not walked are those whose addresses are of the 32-bit MSI window.
--     gap_inside          the first of them is a page of the table; gap_apart, gap_together: what the search by levels asks of them
--     page-dma            the first address of a page that is not among them is of the DMA class; dma-page: an address of the DMA class is in no such page
-- Assumes nothing.
use Rattle.std.specs.Prelude.{◌≡◌, ℕ, ◌+◌, ◌-◌, ◌*◌, ◌/◌, ◌^◌, ◌<◌, ◌≤◌, leb, eqb}
use Rattle.std.proofs.Common.{sym, ◌∙◌, lt_of_le_of_lt, arith, shr-shr}
use Rattle.std.proofs.Math.Nat.{zero-div, div-eq_of_lt}
use borrow.Author.Tests.{leb-true, eqb-true, eqb-false, ne_eqb, le-leb}
use Rattle.kinds.proofs.Tests.{by_cases}
use Rattle.kinds.specs.Number.{page_bits}
use Rattle.kinds.specs.declared.number.ByteAddress.{ByteAddress}
use Rattle.kinds.specs.declared.number.PageSize.TheVariants.{K4, K64, M16, M256}
use Rattle.kinds.specs.declared.record.TranslationEntry.{TranslationEntry}
use Rattle.kinds.specs.declared.request.AddressClass.TheVariants.{Dma}
use Rattle.profile.specs.Entry.{class_of, half, offset, page_size, page_of, index_bits}
use Rattle.isolation_reach.specs.declared.marks.Gap.{Gap}
use Rattle.isolation_reach.specs.Marks.{msi_page4k, msi_pages4k, msi_page64k, msi_pages64k, gap_at, gap_of}
use Rattle.isolation_reach.proofs.ReachLaws.{Free}

-- ---- the DMA class

dma-is : (a : ByteAddress) → a.0 < 2 ^ 60 → (0xFFFF0000 ≤ a.0 → a.0 ≤ 0xFFFFFFFF → ⊥) → class_of a ≡ Dma
unfolding class_of
dma-is a h f =
    rw (div-eq_of_lt h)
    (by_cases (leb 0xFFFF0000 a.0)
    (λ o. by_cases (leb a.0 0xFFFFFFFF) (λ p. absurd (f (leb-true _ _ o) (leb-true _ _ p))) (λ p. rw (o, p)))
    (λ o. rw o))

dma-cases : {Z : Type 0} (a : ByteAddress) → class_of a ≡ Dma → (a.0 < 2 ^ 60 → (0xFFFF0000 ≤ a.0 → a.0 ≤ 0xFFFFFFFF → ⊥) → Z) → Z
unfolding class_of
dma-cases a h f =
    by_cases (eqb (a.0 / 2 ^ 60) 0)
    (λ o. let z = eqb-true (a.0 / 2 ^ 60) 0 o in
    f (omega arith) (λ l k. let e = rw (o, le-leb 0xFFFF0000 a.0 l, le-leb a.0 0xFFFFFFFF k) at h in let y : ◌≡◌ {A = ℕ} 0 1 = cc in omega arith))
    (λ o. by_cases (eqb (a.0 / 2 ^ 60) 1)
    (λ p. let e = rw (o, p) at h in absurd (let y : ◌≡◌ {A = ℕ} 0 1 = cc in omega arith))
    (λ p. let e = rw (o, p) at h in absurd (let y : ◌≡◌ {A = ℕ} 0 1 = cc in omega arith)))

-- ---- the cases of a gap

gap_cases : (P : Gap → Type 0) (e : TranslationEntry) (h : ℕ)
    → (h ≡ 0 → e.page ≡ 1 → msi_page4k / 2 ^ (index_bits e * e.levels) ≡ 0 → P (record { page = msi_page4k; count = msi_pages4k }))
    → (h ≡ 0 → e.page ≡ 5 → msi_page64k / 2 ^ (index_bits e * e.levels) ≡ 0 → P (record { page = msi_page64k; count = msi_pages64k }))
    → P (record { page = 0; count = 0 })
    → P (gap_of e h)
unfolding gap_of gap_at
gap_cases P e h of-4k of-64k none =
    by_cases (eqb h 0)
    (λ o. by_cases (eqb e.page 1)
    (λ p. by_cases (eqb (msi_page4k / 2 ^ (index_bits e * e.levels)) 0)
    (λ q. rw (o, p, q) (of-4k (eqb-true h 0 o) (eqb-true e.page 1 p) (eqb-true _ 0 q))) (λ q. rw (o, p, q) none))
    (λ p. by_cases (eqb e.page 5)
    (λ r. by_cases (eqb (msi_page64k / 2 ^ (index_bits e * e.levels)) 0)
    (λ q. rw (o, p, r, q) (of-64k (eqb-true h 0 o) (eqb-true e.page 5 r) (eqb-true _ 0 q))) (λ q. rw (o, p, r, q) none))
    (λ r. rw (o, p, r) none)))
    (λ o. rw o none)

pub gap_inside : (e : TranslationEntry) (h : ℕ) → (gap_of e h).page / 2 ^ (index_bits e * e.levels) ≡ 0
gap_inside e h =
    gap_cases (λ (g : Gap). g.page / 2 ^ (index_bits e * e.levels) ≡ 0) e h (λ o p q. q) (λ o p q. q) (zero-div (2 ^ (index_bits e * e.levels)))

pub gap_apart : (e : TranslationEntry) (h y : ℕ) → Free (gap_of e h).page (gap_of e h).count (y * 512)
gap_apart e h y =
    gap_cases (λ (g : Gap). Free g.page g.count (y * 512)) e h
    (λ o p q l k. omega arith) (λ o p q l k. omega arith) (λ l k. omega arith)

sixteen : (n y : ℕ) → 4 ≤ n → 0xFFFF0 ≤ y → y < 0xFFFF0 + 16 → y / 2 ^ n ≡ 0xFFFF0 / 2 ^ n
sixteen n y h l k =
    let z : n ≡ 4 + (n - 4) = omega arith in
    let e : y / 2 ^ 4 ≡ 0xFFFF0 / 2 ^ 4 = omega arith in
    rw z (sym (shr-shr y 4 (n - 4)) ∙ rw e (shr-shr 0xFFFF0 4 (n - 4)))

pub gap_together : (e : TranslationEntry) (h y : ℕ) → 9 ≤ index_bits e → (gap_of e h).page ≤ y → y < (gap_of e h).page + (gap_of e h).count
    → y / 2 ^ index_bits e ≡ (gap_of e h).page / 2 ^ index_bits e
gap_together e h y wide =
    gap_cases (λ (g : Gap). g.page ≤ y → y < g.page + g.count → y / 2 ^ index_bits e ≡ g.page / 2 ^ index_bits e) e h
    (λ o p q l k. sixteen (index_bits e) y (omega arith) (omega arith) (omega arith))
    (λ o p q l k. let z : y ≡ 0xFFFF = omega arith in rw z)
    (λ l k. absurd (omega arith))

-- ---- pages and their addresses

module _ (e : TranslationEntry) where
  size_4k : e.page ≡ 1 → page_size e ≡ K4
  unfolding page_size
  size_4k p = rw p

  size_64k : e.page ≡ 5 → page_size e ≡ K64
  unfolding page_size
  size_64k p = rw p

  size_more : {Z : Type 0} → (e.page ≡ 1 → ⊥) → (e.page ≡ 5 → ⊥) → (page_size e ≡ M16 → Z) → (page_size e ≡ M256 → Z) → Z
  unfolding page_size
  size_more o p f g =
      by_cases (eqb e.page 13) (λ q. f (rw (ne_eqb _ 1 o, ne_eqb _ 5 p, q))) (λ q. g (rw (ne_eqb _ 1 o, ne_eqb _ 5 p, q)))

  module _ (h q : ℕ) (first : h ≡ 0) (inside : q < 2 ^ (index_bits e * e.levels)) (free : Free (gap_of e h).page (gap_of e h).count q) where
    free_4k : e.page ≡ 1 → Free msi_page4k msi_pages4k q
    unfolding gap_of gap_at
    free_4k p l k =
        by_cases (eqb (msi_page4k / 2 ^ (index_bits e * e.levels)) 0)
        (λ o. (rw (first, p, o) at free) l k)
        (λ o. eqb-false (msi_page4k / 2 ^ (index_bits e * e.levels)) 0 o (div-eq_of_lt (lt_of_le_of_lt l inside)))

    free_64k : e.page ≡ 5 → Free msi_page64k msi_pages64k q
    unfolding gap_of gap_at
    free_64k p l k =
        by_cases (eqb (msi_page64k / 2 ^ (index_bits e * e.levels)) 0)
        (λ o. (rw (first, p, o) at free) l k)
        (λ o. eqb-false (msi_page64k / 2 ^ (index_bits e * e.levels)) 0 o (div-eq_of_lt (lt_of_le_of_lt l inside)))

    outside-window : 0xFFFF0000 ≤ q * 2 ^ page_bits (page_size e) → q * 2 ^ page_bits (page_size e) ≤ 0xFFFFFFFF → ⊥
    outside-window =
        by_cases (eqb e.page 1)
        (λ o. let p = eqb-true e.page 1 o in rw (size_4k p) (λ l k. free_4k p (omega arith) (omega arith)))
        (λ o. by_cases (eqb e.page 5)
        (λ r. let p = eqb-true e.page 5 r in rw (size_64k p) (λ l k. free_64k p (omega arith) (omega arith)))
        (λ r. size_more (eqb-false e.page 1 o) (eqb-false e.page 5 r) (λ z. rw z (λ l k. omega arith)) (λ z. rw z (λ l k. omega arith))))

  pub page-dma : (h q : ℕ) → h < 2 → q < 2 ^ (index_bits e * e.levels) → q * 2 ^ page_bits (page_size e) < 2 ^ 59
      → Free (gap_of e h).page (gap_of e h).count q → class_of (record { 0 = h * 2 ^ 59 + q * 2 ^ page_bits (page_size e) }) ≡ Dma
  page-dma h q b inside small free =
      dma-is (record { 0 = h * 2 ^ 59 + q * 2 ^ page_bits (page_size e) }) (omega arith)
      (by_cases (eqb h 0)
      (λ o l k. let z = eqb-true h 0 o in outside-window h q z inside free (omega arith) (omega arith))
      (λ o l k. let z = eqb-false h 0 o in omega arith))

  pub dma-page : (h : ℕ) (a : ByteAddress) → half a ≡ h → class_of a ≡ Dma → Free (gap_of e h).page (gap_of e h).count (page_of e (offset a)).0
  dma-page h a b d =
      dma-cases a d
      (λ small out. gap_cases (λ (g : Gap). Free g.page g.count (page_of e (offset a)).0) e h
      (λ o p q. rw (size_4k p) (λ l k. out (omega arith) (omega arith)))
      (λ o p q. rw (size_64k p) (λ l k. out (omega arith) (omega arith)))
      (λ l k. omega arith))
