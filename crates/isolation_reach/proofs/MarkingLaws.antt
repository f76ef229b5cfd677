-- What the functions of `levels` and `marks` are proved from. Assumes nothing.
use mathlib.Core.Path.{◌≡◌, sym, ◌∙◌}
use mathlib.Core.Bool.{Bool, true}
use mathlib.Core.List.{List}
use Prim.Native.Nat.{ℕ, ◌+◌, ◌-◌, ◌*◌, ◌<◌, ◌≤◌}
use native.Mathlib.Nat.{mul-le-mul_left}
use native.Mathlib.Omega.{arith}
use lib.ListN.{length, replicate}
use Rattle.kinds.specs.declared.record.TranslationEntry.{TranslationEntry}
use Rattle.profile.specs.Entry.{index_bits, paged, most_table_code, code_bits, offset_bits}
use Rattle.profile.proofs.WalkLaws.{paged-walkable}
use Rattle.isolation_reach.proofs.MarksLaws.{walkable-code, walkable_bits, paged-level, marks_zero, marks_suc}
use Rattle.isolation_reach.specs.Marks.{index_of, leads_to, marked_in, tables_under, marks_from}

-- the ranges of an entry with pages
module _ (e : TranslationEntry) {b : Bool} (asked : b ≡ paged e) (o : b ≡ true) where
  has_pages : paged e ≡ true
  has_pages = rw (← asked) o

  pub code_most : e.table ≤ most_table_code
  code_most = walkable-code e (paged-walkable e has_pages)

  pub all_bits : index_bits e * e.levels ≤ offset_bits
  all_bits = walkable_bits e (paged-walkable e has_pages)

  pub some_level : 1 ≤ e.levels
  some_level = paged-level e has_pages

  pub upper_bits : (e.table + code_bits) * (e.levels - 1) < 64
  upper_bits = let g : e.levels - 1 ≤ e.levels = omega arith in omega (arith, all_bits, mul-le-mul_left (e.table + code_bits) g)

-- ---- the levels

-- `below` levels are left, in a room with memory k
module _ (m : List ℕ) (n q c l f : ℕ) (s : List ℕ) (below : ℕ) (t : List ℕ) (x : ℕ) (r : List ℕ)
    (same : marks_from m n q c l (replicate (length m) 0) f s ≡ marks_from m n q c below t x r) (k : List ℕ) (memory : k ≡ m) where
  pub levels_next : {i y : ℕ} {u p : List ℕ} → 1 ≤ below → i ≡ index_of n below q → p ≡ marked_in (length k) t n x i 0 r → u ≡ tables_under k t n x i
      → y ≡ leads_to k n (x + i) → marks_from m n q c l (replicate (length m) 0) f s ≡ marks_from m n q c (below - 1) u y p
  levels_next h i g v e = same ∙ marks_suc m n q c below t x r h ∙ rw (← memory, ← i, ← g, ← v, ← e)

  pub levels_done : {i : ℕ} {p : List ℕ} → below < 1 → i ≡ index_of n 0 q → p ≡ marked_in (length k) t n x i c r
      → p ≡ marks_from m n q c l (replicate (length m) 0) f s
  levels_done h i g = sym (same ∙ marks_zero m n q c below t x r (omega arith) ∙ rw (← memory, ← i, ← g))
