-- 01, 'DMA', paragraph 'Walk': the walk of a page table, by page.
--     place k n b q       the number of the memory word that page q has in the table at b, whose index has n bits, with k levels below it
--     next_base w         bits 63..12 of an upper word: the base of the next table
--     leads n w           an upper word that leads on: not both valid bits zero, and the next base aligned
--     turn k n j w r      what the word at place j, of content w, comes to with k levels below, r being the walk of the level below
--     walk_from m l n b q  the walk of l levels from the table at b
--     walk m e q          the walk of page q by entry e
--     Walked              what was found, with the address of the word that the walk stopped at, and the places of the words read, in order; a
--                         word outside memory is not among those read
--     allows d w          the last word allows direction d: bit 0 is read-valid, bit 1 write-valid
--     landed s d o x      what was found gives offset o: the word's bits from the page size up joined with the page offset, or 8, or 15, with the
--                         address of the word that forbids or is not there
--     Translation         a system address or a fault, and the places of the words read: their number is the count in the answer
--     translated m e d o  THE TRANSLATION of offset o by entry e: by the walk, or what the entry alone says. It knows no PE
--     walked_page m e q   the walk of page q by any entry: one whose table cannot be walked at all reads nothing
--     by_pages m e d o    what is left of the translation where the page table is walked: by that walk
--     reads_by e m o      the places of the memory words that it reads; reads f m p a: those of PE p for address a
-- Assumes nothing.
use Rattle.kinds.specs.declared.lookup.WalkError.TheVariants.{Forbidden, Outside}
use Rattle.kinds.specs.Lookup.{Found, Translated, frame, fault, forbidden, outside}
use Rattle.std.specs.Prelude.{Bool, cond, not, ◌&&◌, List, [], ◌∷◌, ℕ, zero, suc, ◌+◌, ◌*◌, ◌/◌, ◌%◌, ◌^◌, ltb, eqb, length, Ok, Err}
use Rattle.kinds.specs.Number.{page_number, byte_address, word_bytes, word_address, no_word}
use Rattle.kinds.specs.Words.{at}
use Rattle.kinds.specs.declared.answer.Reason.TheVariants.{TableWord, OutsideMemory}
use Rattle.kinds.specs.declared.number.ByteAddress.{ByteAddress}
use Rattle.kinds.specs.declared.number.PageNumber.{PageNumber}
use Rattle.kinds.specs.declared.number.PageSize.{PageSize}
use Rattle.kinds.specs.declared.number.PeNumber.{PeNumber}
use Rattle.kinds.specs.declared.record.TranslationEntry.{TranslationEntry}
use Rattle.kinds.specs.declared.request.Direction.{Direction}
use Rattle.kinds.specs.declared.request.Direction.TheVariants.{Read, Write}
use Rattle.profile.specs.Tables.{Tables}
use Rattle.profile.specs.Entry.{half, offset, entry, page_size, page_of, index_bits, aligned, walkable, walks, unwalked}

pub record Walked : Type 0 where
  pub found : Found
  pub reads : List ℕ

abbrev pub place : (below bits : ℕ) → ByteAddress → PageNumber → ℕ
place k n b q = b.0 / word_bytes + q.0 / 2 ^ (n * k) % 2 ^ n

abbrev pub next_base : ℕ → ByteAddress
next_base w = record { 0 = w / 4096 * 4096 }

unfoldable pub leads : (bits w : ℕ) → Bool
leads n w = not (eqb (w % 4) 0) && aligned n (next_base w)

unfoldable pub turn : (below bits place word : ℕ) → Walked → Walked
turn zero n j w r = record { found = frame (word_address j) w; reads = j ∷ [] }
turn (suc k) n j w r =
    cond (leads n w) (record { found = r.found; reads = j ∷ r.reads }) (record { found = forbidden (word_address j); reads = j ∷ [] })

unfoldable pub walk_from : List ℕ → (levels bits : ℕ) → ByteAddress → PageNumber → Walked
walk_from m zero n b q = record { found = forbidden no_word; reads = [] }
walk_from m (suc k) n b q =
    cond (ltb (place k n b q) (length m))
    (turn k n (place k n b q) (at m (place k n b q)) (walk_from m k n (next_base (at m (place k n b q))) q))
    (record { found = outside (word_address (place k n b q)); reads = [] })

abbrev pub walk : List ℕ → TranslationEntry → PageNumber → Walked
walk m e q = walk_from m e.levels (index_bits e) (record { 0 = e.base }) q

unfoldable pub allows : Direction → ℕ → Bool
allows Read w = eqb (w % 2) 1
allows Write w = eqb (w / 2 % 2) 1

unfoldable pub landed : PageSize → Direction → (offset : ByteAddress) → Found → Translated
landed s d o (Ok x) = cond (allows d x.content) (Ok (byte_address s (page_number s (record { 0 = x.content })) o)) (fault TableWord x.word)
landed s d o (Err (Forbidden a)) = fault TableWord a
landed s d o (Err (Outside a)) = fault OutsideMemory a

pub record Translation : Type 0 where
  pub result : Translated
  pub reads : List ℕ

abbrev pub walked_page : List ℕ → TranslationEntry → PageNumber → Walked
walked_page m e q = cond (walkable e) (walk m e q) (record { found = forbidden no_word; reads = [] })

unfoldable pub by_pages : List ℕ → TranslationEntry → Direction → (offset : ByteAddress) → Translation
by_pages m e d o =
    record { result = landed (page_size e) d o (walked_page m e (page_of e o)).found; reads = (walked_page m e (page_of e o)).reads }

unfoldable pub translated : List ℕ → TranslationEntry → Direction → (offset : ByteAddress) → Translation
translated m e d o =
    cond (walks e o)
    (record { result = landed (page_size e) d o (walk m e (page_of e o)).found; reads = (walk m e (page_of e o)).reads })
    (record { result = unwalked e o; reads = [] })

unfoldable pub reads_by : TranslationEntry → List ℕ → (offset : ByteAddress) → List ℕ
reads_by e m o = cond (walks e o) (walk m e (page_of e o)).reads []

abbrev pub reads : Tables → List ℕ → PeNumber → ByteAddress → List ℕ
reads f m p a = reads_by (entry f p (half a)) m (offset a)
