-- The memory words that walks by an entry read for an address of the DMA class, found level by level and marked. A walk of page q reads one word of a table,
-- at the index that q has for its level. So a page that is not walked is left out of one table of the last level only: the one that it leads to.
--     index_of n k q       the index of page q in a table of 2 ^ n words with k levels below it
--     first_of n j         the first word of the table of 2 ^ n words that memory word j is in
--     table_of n w z       the first word of the table that an upper word w leads to, or z where it leads to none
--     leads_to m n j      the first word of the table that word j of memory m leads to; where it leads to none, the length of m
--     within t n x d c j  word j is in a table whose first word is marked in t; or in the table that starts at word x, but at none of the c indexes from d
--     put_turn P w r j    word w j of r is set to 1 where P j holds; mark_turn, table_turn: the turns of the two loops below
--     marked_in w t n x d c r     r with a mark on each of the first w memory words that is so
--     tables_over m t n x d u     u with a mark on the first word of each table that such a word leads to, where only index d is left out;
--                                 tables_under m t n x d: the same on a list of no marks
--     marks_from m n q c k t x r  r with the words that walks read from the tables with k levels below them. t has the tables that a page other than
--                                 those from q, of which there are c, leads to by its upper levels; x is the table that page q leads to
--     gap_at e q c        c pages from page q, where the table of entry e has page q, else none
--     msi_page4k ..       the first page of the 32-bit MSI window, and how many it has, where pages have 4 KiB, and 64 KiB
--     Gap, gap_of e h      the pages, of those that record h has, that are not walked, since all of their addresses are of the 32-bit MSI window: the first,
--                         and how many
--     marks_by m e h r    r with the words that walks by entry e, which is record h of its PE, read for an address of the DMA class
-- Assumes nothing.
use Rattle.std.specs.Prelude.{Bool, true, false, cond, List, ℕ, zero, suc, ◌+◌, ◌-◌, ◌*◌, ◌/◌, ◌%◌, ◌^◌, leb, ltb, eqb, length, set, replicate}
use Rattle.kinds.specs.Turns.{turns}
use Rattle.kinds.specs.Words.{at}
use Rattle.kinds.specs.declared.record.TranslationEntry.{TranslationEntry}
use Rattle.profile.specs.Entry.{index_bits, paged}
use Rattle.profile.specs.Walk.{next_base, leads}
use Rattle.isolation_reach.specs.declared.marks.Gap.{Gap}
use Rattle.isolation_groups.specs.Mark.{any_mark}

abbrev pub index_of : (bits below page : ℕ) → ℕ
index_of n k q = q / 2 ^ (n * k) % 2 ^ n

unfoldable pub first_of : (bits j : ℕ) → ℕ
first_of n j = j - j % 2 ^ n

unfoldable pub table_of : (bits word none : ℕ) → ℕ
table_of n w z = cond (leads n w) ((next_base w).0 / 8) z

unfoldable pub leads_to : List ℕ → (bits j : ℕ) → ℕ
leads_to m n j = cond (ltb j (length m)) (table_of n (at m j) (length m)) (length m)

unfoldable pub within : List ℕ → (bits table index count j : ℕ) → Bool
within t n x d c j =
    cond (any_mark t (first_of n j)) true
    (cond (eqb (first_of n j) x) (cond (ltb (j % 2 ^ n) d) true (leb c (j % 2 ^ n - d))) false)

abbrev pub put_turn : (ℕ → Bool) → (ℕ → ℕ) → List ℕ → ℕ → List ℕ
put_turn P w r j = cond (P j) (set r (w j) 1) r

abbrev pub mark_turn : List ℕ → (bits table index count : ℕ) → List ℕ → ℕ → List ℕ
mark_turn t n x d c = put_turn (within t n x d c) (λ j. j)

abbrev pub table_turn : (memory tables : List ℕ) → (bits table index : ℕ) → List ℕ → ℕ → List ℕ
table_turn m t n x d = put_turn (within t n x d 1) (leads_to m n)

unfoldable pub marked_in : (words : ℕ) → List ℕ → (bits table index count : ℕ) → List ℕ → List ℕ
marked_in w t n x d c r = turns (mark_turn t n x d c) r w

unfoldable pub tables_over : (memory tables : List ℕ) → (bits table index : ℕ) → List ℕ → List ℕ
tables_over m t n x d u = turns (table_turn m t n x d) u (length m)

abbrev pub tables_under : (memory tables : List ℕ) → (bits table index : ℕ) → List ℕ
tables_under m t n x d = tables_over m t n x d (replicate (length m) 0)

unfoldable pub marks_from : List ℕ → (bits page count below : ℕ) → (tables : List ℕ) → (table : ℕ) → List ℕ → List ℕ
marks_from m n q c zero t x r = marked_in (length m) t n x (index_of n zero q) c r
marks_from m n q c (suc k) t x r =
    marks_from m n q c k (tables_under m t n x (index_of n (suc k) q)) (leads_to m n (x + index_of n (suc k) q)) (marked_in (length m) t n x (index_of n (suc k) q) 0 r)

unfoldable pub gap_at : TranslationEntry → (page count : ℕ) → Gap
gap_at e q c = cond (eqb (q / 2 ^ (index_bits e * e.levels)) 0) (record { page = q; count = c }) (record { page = 0; count = 0 })

abbrev pub msi_page4k : ℕ
msi_page4k = 0xFFFF0

abbrev pub msi_pages4k : ℕ
msi_pages4k = 16

abbrev pub msi_page64k : ℕ
msi_page64k = 0xFFFF

abbrev pub msi_pages64k : ℕ
msi_pages64k = 1

unfoldable pub gap_of : TranslationEntry → (half : ℕ) → Gap
gap_of e h =
    cond (eqb h 0)
    (cond (eqb e.page 1) (gap_at e msi_page4k msi_pages4k) (cond (eqb e.page 5) (gap_at e msi_page64k msi_pages64k) (record { page = 0; count = 0 })))
    (record { page = 0; count = 0 })

unfoldable pub marks_by : List ℕ → TranslationEntry → (half : ℕ) → List ℕ → List ℕ
marks_by m e h r =
    cond (paged e)
    (marks_from m (index_bits e) (gap_of e h).page (gap_of e h).count (e.levels - 1) (replicate (length m) 0) (e.base / 8) r)
    r
