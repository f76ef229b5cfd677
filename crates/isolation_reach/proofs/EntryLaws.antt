-- The marks made for an entry are those of the words that walks by it read for an address of the DMA class.
--     by_kept, by_length  a mark stays, and the length
--     entry_read          A WORD THAT A WALK READS HAS A MARK
--     entry-marked        A WORD THAT HAS A MARK IS READ BY A WALK, if it had none before
-- Assumes nothing.
use Rattle.std.specs.Prelude.{◌≡◌, refl, true, ℕ, suc, ◌+◌, ◌-◌, ◌*◌, ◌/◌, ◌^◌, ◌<◌, ◌≤◌, ltb, length, replicate}
use Rattle.std.proofs.Common.{sym, ◌∙◌, inr, mul_comm, mod-lt, lt_of_lt_of_le, arith, pow_pos, pow_mono, shl_lt, shr_lt, ltb-true, lt-ltb}
use mathlib.Core.List.Memᴰ
use mathlib.Core.List.{List, Memᴰ}
use Rattle.std.proofs.Math.Nat.{div-eq_of_lt}
use Rattle.std.proofs.lemmas.Nat.{shl-shr}
use Rattle.std.proofs.Math.Pow.{split}
use Rattle.kinds.proofs.Tests.{by_cases, and_left, and_right}
use Rattle.kinds.specs.Number.{page_bits}
use Rattle.kinds.specs.declared.number.ByteAddress.{ByteAddress}
use Rattle.kinds.specs.declared.number.PageNumber.{PageNumber}
use Rattle.kinds.specs.declared.record.TranslationEntry.{TranslationEntry}
use Rattle.kinds.specs.declared.request.AddressClass.TheVariants.{Dma}
use Rattle.profile.specs.Entry.{class_of, half, offset, page_size, page_of, index_bits, span, paged, walks}
use Rattle.profile.specs.Walk.{walk_from, walk, reads_by}
use Rattle.isolation_reach.specs.Marks.{gap_of, marks_by}
use Rattle.isolation_groups.specs.Mark.{any_mark}
use Rattle.isolation_reach.proofs.MarksLaws.{paged-code, paged-level, paged-aligned, paged-span}
use Rattle.isolation_reach.proofs.PutLaws.{none-marked}
use Rattle.isolation_reach.proofs.TableLaws.{eighth, eighth-back}
use Rattle.isolation_reach.proofs.ReachLaws.{Own, marks-kept, length_marks, read-marked, marked-read}
use Rattle.isolation_reach.proofs.GapLaws.{gap_inside, gap_apart, gap_together, page-dma, dma-page}

under-power : (x k : ℕ) → x / 2 ^ k ≡ 0 → x < 2 ^ k
under-power x k e =
    let s = rw e at (split x k) in
    omega (arith, s, mod-lt x (pow_pos k))

span-is : (e : TranslationEntry) → span e ≡ index_bits e * e.levels + page_bits (page_size e)
unfolding span
span-is e = omega (arith, mul_comm (index_bits e) e.levels)

module _ (m : List ℕ) (e : TranslationEntry) (h : ℕ) (good : paged e ≡ true) where
  level-is : suc (e.levels - 1) ≡ e.levels
  level-is = omega (arith, paged-level e good)

  top_zero : (q : ℕ) → q < 2 ^ (index_bits e * e.levels) → q / 2 ^ (index_bits e * suc (e.levels - 1)) ≡ 0
  top_zero q l = rw level-is (div-eq_of_lt l)

  gap_zero : (gap_of e h).page / 2 ^ (index_bits e * suc (e.levels - 1)) ≡ 0
  gap_zero = rw level-is (gap_inside e h)

  page_small : (o : ByteAddress) → o.0 < 2 ^ span e → (page_of e o).0 < 2 ^ (index_bits e * e.levels)
  page_small o l = shr_lt (index_bits e * e.levels) (page_bits (page_size e)) (rw (← span-is e) l)

  bytes_small : (q : ℕ) → q < 2 ^ (index_bits e * e.levels) → q * 2 ^ page_bits (page_size e) < 2 ^ span e
  bytes_small q l = rw (span-is e) (shl_lt (index_bits e * e.levels) (page_bits (page_size e)) l)

  -- a walk of the page table from its root, as the levels go
  from_root : (q : PageNumber) (i : ℕ) → Memᴰ i (walk m e q).reads → Memᴰ i (walk_from m (suc (e.levels - 1)) (index_bits e) (record { 0 = e.base }) q).reads
  from_root q i z = rw level-is z

  to_root : (q : PageNumber) (i : ℕ) → Memᴰ i (walk_from m (suc (e.levels - 1)) (index_bits e) (record { 0 = e.base / 8 * 8 }) q).reads → Memᴰ i (walk m e q).reads
  to_root q i z = rw (level-is, eighth-back (index_bits e) e.base (paged-aligned e good)) at z

  -- what a walk of page q reads, and that q is a page of the table
  abbrev ReadBy : PageNumber → ℕ → Type 0
  ReadBy q i = (q.0 < 2 ^ (index_bits e * e.levels)) × Memᴰ i (walk m e q).reads

  wide : 9 ≤ index_bits e
  wide = omega (arith, paged-code e good)

  root_own : Own m (index_bits e) (gap_of e h).page (gap_of e h).count ReadBy (e.levels - 1) (e.base / 8)
  root_own = record {
    whole = eighth (index_bits e) e.base (paged-aligned e good);
    passes = λ q z i mem. (under-power q.0 (index_bits e * e.levels) (rw level-is at (z ∙ gap_zero)), to_root q i mem);
  }

  -- the first address of page q
  module _ (q : PageNumber) (i : ℕ) (b : h < 2) (inside : q.0 < 2 ^ (index_bits e * e.levels)) (mem : Memᴰ i (walk m e q).reads) where
    abbrev first_byte : ByteAddress
    first_byte = record { 0 = h * 2 ^ 59 + q.0 * 2 ^ page_bits (page_size e) }

    byte_small : q.0 * 2 ^ page_bits (page_size e) < 2 ^ 59
    byte_small = lt_of_lt_of_le (bytes_small q.0 inside) (pow_mono (paged-span e good))

    half_is : half first_byte ≡ h
    half_is = omega (arith, byte_small)

    offset-is : (offset first_byte).0 ≡ q.0 * 2 ^ page_bits (page_size e)
    offset-is = omega (arith, byte_small)

    page-is : page_of e (offset first_byte) ≡ q
    page-is = rw (offset-is, shl-shr q.0 (page_bits (page_size e)))

    byte_walks : walks e (offset first_byte) ≡ true
    unfolding walks
    byte_walks = rw (good, offset-is) (lt-ltb (q.0 * 2 ^ page_bits (page_size e)) (2 ^ span e) (bytes_small q.0 inside))

    byte_reads : Memᴰ i (reads_by e m (offset first_byte))
    unfolding reads_by
    byte_reads = rw (byte_walks, page-is) mem

pub by_kept : (m : List ℕ) (e : TranslationEntry) (h : ℕ) (r : List ℕ) (i : ℕ) → any_mark r i ≡ true → any_mark (marks_by m e h r) i ≡ true
unfolding marks_by
by_kept m e h r i o =
    by_cases (paged e)
    (λ p. rw p (marks-kept m (index_bits e) (gap_of e h).page (gap_of e h).count (e.levels - 1) (replicate (length m) 0) (e.base / 8) r i o))
    (λ p. rw p o)

pub by_length : (m : List ℕ) (e : TranslationEntry) (h : ℕ) (r : List ℕ) → length (marks_by m e h r) ≡ length r
unfolding marks_by
by_length m e h r =
    by_cases (paged e)
    (λ p. rw p (length_marks m (index_bits e) (gap_of e h).page (gap_of e h).count (e.levels - 1) (replicate (length m) 0) (e.base / 8) r))
    (λ p. rw p)

pub entry_read : (m : List ℕ) (e : TranslationEntry) (h : ℕ) (r : List ℕ) → length r ≡ length m → (a : ByteAddress) → half a ≡ h → class_of a ≡ Dma
    → (i : ℕ) → Memᴰ i (reads_by e m (offset a)) → any_mark (marks_by m e h r) i ≡ true
unfolding reads_by marks_by walks
entry_read m e h r l a b d i z =
    by_cases (walks e (offset a))
    (λ w. let good = and_left (paged e) (ltb (offset a).0 (2 ^ span e)) w in
    let o = ltb-true (offset a).0 (2 ^ span e) (and_right (paged e) (ltb (offset a).0 (2 ^ span e)) w) in
    let q = page_of e (offset a) in
    let same = top_zero m e h good q.0 (page_small m e h good (offset a) o) ∙ sym (gap_zero m e h good) in
    rw good
    (read-marked m (index_bits e) (gap_of e h).page (gap_of e h).count (e.levels - 1) (replicate (length m) 0) (e.base / 8) r (record { 0 = e.base }) q l
    (eighth (index_bits e) e.base (paged-aligned e good)) (inr (refl, same)) (dma-page e h a b d) i (from_root m e h good q i (rw w at z))))
    (λ w. absurd (Memᴰ.not-nil (rw w at z)))

pub entry-marked : (m : List ℕ) (e : TranslationEntry) (h : ℕ) (r : List ℕ) → h < 2 → (i : ℕ) → any_mark (marks_by m e h r) i ≡ true
    → {Z : Type 0} → (any_mark r i ≡ true → Z) → ((a : ByteAddress) → half a ≡ h → class_of a ≡ Dma → Memᴰ i (reads_by e m (offset a)) → Z) → Z
unfolding marks_by
entry-marked m e h r b i z f g =
    by_cases (paged e)
    (λ good. marked-read m (index_bits e) (gap_of e h).page (gap_of e h).count (ReadBy m e h good) (wide m e h good) (gap_apart e h)
    (λ y. gap_together e h y (wide m e h good)) (e.levels - 1) (replicate (length m) 0) (e.base / 8) r
    (λ s o. none-marked (length m) s o) (λ o. root_own m e h good) i (rw good at z) f
    (λ q free o. g (first_byte m e h good q i b o.0 o.1) (half_is m e h good q i b o.0 o.1)
    (page-dma e h q.0 b o.0 (byte_small m e h good q i b o.0 o.1) free) (byte_reads m e h good q i b o.0 o.1)))
    (λ bad. f (rw bad at z))
