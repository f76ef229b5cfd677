-- 02, [8]: the translation cache, a lent table: its slots, and what is done to them. Everything here is over any contents.
--     slot_count, slot_words, cache_words  256 slots of four words: PE + 1 (0: the slot is empty), half, page number, last-level word
--     slot_factor         37, which keeps the slots of neighbouring PEs apart
--     slot_of p h q        THE RULE: the slot of page q of half h of PE p
--     tag_of c i ..        the four words of slot i: tag, half, page, word
--     holds c i p h q     slot i holds this page
--     put c i p h q x     slot i then holds it, with the word x
--     Test                what names a slot: its first three words, tag, half and page
--     dropped d c i       slot i is full, and test d names it
--     sweep d c           each full slot that d names gets four zeros; every other word stays
-- Assumes nothing.
use Rattle.std.specs.Prelude.{Bool, cond, not, ◌&&◌, List, ℕ, ◌+◌, ◌*◌, ◌/◌, ◌%◌, eqb, set}
use Rattle.kinds.specs.Words.{at, map_at}
use Rattle.kinds.specs.declared.number.PageNumber.{PageNumber}
use Rattle.kinds.specs.declared.number.PeNumber.{PeNumber}

abbrev pub slot_count : ℕ
slot_count = 256

abbrev pub slot_words : ℕ
slot_words = 4

abbrev pub cache_words : ℕ
cache_words = 1024

abbrev pub slot_factor : ℕ
slot_factor = 37

unfoldable pub slot_of : PeNumber → (half : ℕ) → PageNumber → ℕ
slot_of p h q = (q.0 + slot_factor * (2 * p.0 + h)) % slot_count

abbrev pub tag_of : List ℕ → (slot : ℕ) → ℕ
tag_of c i = at c (i * slot_words)

abbrev pub half_of : List ℕ → (slot : ℕ) → ℕ
half_of c i = at c (i * slot_words + 1)

abbrev pub page_of_slot : List ℕ → (slot : ℕ) → ℕ
page_of_slot c i = at c (i * slot_words + 2)

abbrev pub word_of : List ℕ → (slot : ℕ) → ℕ
word_of c i = at c (i * slot_words + 3)

unfoldable pub holds : List ℕ → (slot : ℕ) → PeNumber → (half : ℕ) → PageNumber → Bool
holds c i p h q = eqb (tag_of c i) (p.0 + 1) && eqb (half_of c i) h && eqb (page_of_slot c i) q.0

unfoldable pub put : List ℕ → (slot : ℕ) → PeNumber → (half : ℕ) → PageNumber → (word : ℕ) → List ℕ
put c i p h q x =
    set (set (set (set c (i * slot_words) (p.0 + 1)) (i * slot_words + 1) h) (i * slot_words + 2) q.0) (i * slot_words + 3) x

abbrev pub Test : Type 0
Test = (tag half page : ℕ) → Bool

unfoldable pub dropped : Test → List ℕ → (slot : ℕ) → Bool
dropped d c i = not (eqb (tag_of c i) 0) && d (tag_of c i) (half_of c i) (page_of_slot c i)

unfoldable pub sweep : Test → List ℕ → List ℕ
sweep d c = map_at (λ i x. cond (dropped d c (i / slot_words)) 0 x) 0 c
