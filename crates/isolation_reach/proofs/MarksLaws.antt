-- The marks of one level more, as a loop makes them, and what a good entry with pages says.
--     marks_zero, marks_suc   the last level, and one that has levels below it
--     walkable-code, walkable_bits  the ranges of an entry whose table can be walked
--     paged-code, paged-level, paged-aligned, paged-span   those of a good entry with pages
-- Assumes nothing.
use Rattle.std.specs.Prelude.{◌≡◌, true, ◌&&◌, List, leb, length}
use Rattle.std.proofs.Math.Path.{refl}
use Rattle.std.proofs.Math.Bool.{not}
use Prim.Native.Nat.{ℕ, zero, suc, ◌+◌, ◌-◌, ◌*◌, ◌%◌, ◌^◌, ◌<◌, ◌≤◌}
use Rattle.std.proofs.Common.{sub-one, arith}
use borrow.Author.Tests.{leb-true, eqb-true}
use Rattle.kinds.proofs.Tests.{and_left, and_right, all_true}
use Rattle.kinds.specs.declared.record.TranslationEntry.{TranslationEntry}
use Rattle.profile.specs.Entry.{index_bits, span, aligned, table_good, bypass, page_tests, pages_good, paged, walkable, walkable_tests, most_table_code, offset_bits}
use Rattle.isolation_reach.specs.Marks.{index_of, leads_to, marked_in, tables_under, marks_from}

module _ (m : List ℕ) (n q c : ℕ) where
  pub marks_zero : (k : ℕ) (t : List ℕ) (x : ℕ) (r : List ℕ) → k ≤ 0 → marks_from m n q c k t x r ≡ marked_in (length m) t n x (index_of n 0 q) c r
  unfolding marks_from
  marks_zero zero t x r h = refl
  marks_zero (suc k) t x r h = absurd (omega arith)

  pub marks_suc : (k : ℕ) (t : List ℕ) (x : ℕ) (r : List ℕ) → 0 < k → marks_from m n q c k t x r
      ≡ marks_from m n q c (k - 1) (tables_under m t n x (index_of n k q)) (leads_to m n (x + index_of n k q)) (marked_in (length m) t n x (index_of n k q) 0 r)
  unfolding marks_from
  marks_suc zero t x r h = absurd (omega arith)
  marks_suc (suc k) t x r h = rw (sub-one (suc k))

-- ---- the ranges of an entry with pages

pub walkable-code : (e : TranslationEntry) → walkable e ≡ true → e.table ≤ most_table_code
unfolding walkable
walkable-code e h = leb-true e.table most_table_code (all_true (walkable_tests e) 0 h)

pub walkable_bits : (e : TranslationEntry) → walkable e ≡ true → index_bits e * e.levels ≤ offset_bits
unfolding walkable
walkable_bits e h = leb-true (index_bits e * e.levels) offset_bits (all_true (walkable_tests e) 2 h)

module _ (e : TranslationEntry) (h : paged e ≡ true) where
  pages-good : pages_good e ≡ true
  unfolding paged
  pages-good = and_right (table_good e && not (bypass e)) (pages_good e) h

  pub paged-code : 1 ≤ e.table
  unfolding paged table_good
  paged-code = leb-true 1 e.table (and_left (leb 1 e.table) (leb e.table most_table_code) (and_left (table_good e) (not (bypass e)) (and_left (table_good e && not (bypass e)) (pages_good e) h)))

  pub paged-level : 1 ≤ e.levels
  unfolding pages_good
  paged-level = leb-true 1 e.levels (all_true (page_tests e) 1 pages-good)

  pub paged-aligned : e.base % 2 ^ (3 + index_bits e) ≡ 0
  unfolding pages_good aligned
  paged-aligned = eqb-true (e.base % 2 ^ (3 + index_bits e)) 0 (all_true (page_tests e) 3 pages-good)

  pub paged-span : span e ≤ offset_bits
  unfolding pages_good
  paged-span = leb-true (span e) offset_bits (all_true (page_tests e) 4 pages-good)
