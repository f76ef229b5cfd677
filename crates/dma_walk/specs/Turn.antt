-- One turn of the walk, and the walk with its words counted, as the code goes.
--     Level               what one level comes to: the base of the next table, or the end of the walk with the number of words that the level read;
--                         ends f n: an end with f found, after n words
--     next k n j w        what the word at place j, of content w, comes to with k levels below
--     stepped m k n b q   what the level with k levels below comes to, its table being at b
--     counted w           a walk with the number of words that it read
--     taken x r           the walk that level x starts, r being that of the level below
--     Shaped e            what the loop asks of an entry: its table code, its levels and the bits of its indexes are small, and its base is aligned
--     fault_of x          the fault of a walk that has no last table word
--     summed t            a translation with the number of words that it read
-- Assumes nothing.
use Rattle.kinds.specs.Lookup.{Found, frame, forbidden, outside}
use Rattle.std.specs.Prelude.{◌≡◌, true, cond, List, ℕ, zero, suc, ◌*◌, ◌≤◌, ltb, length, Result, Ok, Err}
use Rattle.kinds.specs.Number.{word_address}
use Rattle.kinds.specs.Words.{at}
use Rattle.kinds.specs.declared.answer.Reason.TheVariants.{TableWord, OutsideMemory}
use Rattle.kinds.specs.declared.lookup.Fault.{Fault}
use Rattle.kinds.specs.declared.lookup.WalkError.{WalkError}
use Rattle.kinds.specs.declared.lookup.WalkError.TheVariants.{Forbidden, Outside}
use Rattle.kinds.specs.declared.number.ByteAddress.{ByteAddress}
use Rattle.kinds.specs.declared.number.PageNumber.{PageNumber}
use Rattle.kinds.specs.declared.record.TranslationEntry.{TranslationEntry}
use Rattle.profile.specs.Entry.{index_bits, aligned, offset_bits, most_table_code, most_levels}
use Rattle.profile.specs.Walk.{place, next_base, leads}
use Rattle.profile.specs.Walk as definition
use Rattle.dma_walk.specs.declared.translate.Translation.{Translation}
use Rattle.dma_walk.specs.declared.walk.Walked.{Walked}

pub record Shaped (e : TranslationEntry) : Type 0 where
  pub table : e.table ≤ most_table_code
  pub levels : e.levels ≤ most_levels
  pub indexes : index_bits e * e.levels ≤ offset_bits
  pub base : aligned (index_bits e) (record { 0 = e.base }) ≡ true

abbrev pub Level : Type 0
Level = Result ByteAddress Walked

abbrev pub ends : Found → (words : ℕ) → Level
ends f n = Err (record { found = f; words = n })

unfoldable pub next : (below bits place content : ℕ) → Level
next zero n j w = ends (frame (word_address j) w) 1
next (suc k) n j w = cond (leads n w) (Ok (next_base w)) (ends (forbidden (word_address j)) 1)

unfoldable pub stepped : List ℕ → (below bits : ℕ) → ByteAddress → PageNumber → Level
stepped m k n b q =
    cond (ltb (place k n b q) (length m)) (next k n (place k n b q) (at m (place k n b q)))
    (ends (outside (word_address (place k n b q))) 0)

abbrev pub counted : definition.Walked → Walked
counted w = record { found = w.found; words = length w.reads }

abbrev pub taken : Level → Walked → Walked
taken (Ok b) r = record { found = r.found; words = suc r.words }
taken (Err w) r = w

abbrev pub fault_of : WalkError → Fault
fault_of (Forbidden a) = record { reason = TableWord; word = a }
fault_of (Outside a) = record { reason = OutsideMemory; word = a }

abbrev pub summed : definition.Translation → Translation
summed t = record { result = t.result; words = length t.reads }
