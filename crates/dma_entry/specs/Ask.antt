-- What an entry says of an offset before memory is read, as the code goes: each is a part of a definition of `profile`.
--     Asked               the way of an offset, or the reason for which it is refused
--     asked_bypass e o    an entry whose page code is 0
--     asked_pages e o     an entry with another page code
--     asked e o           any entry
--     is_walk x           x is a walk of the page table
--     ended x o           what offset o comes to by x, with no word of memory asked for; a walk is none of these
-- Assumes nothing.
use Rattle.kinds.specs.Lookup.{Translated, fault}
use Rattle.std.specs.Prelude.{Bool, true, false, cond, Result, Ok, Err, ◌^◌, ltb}
use Rattle.kinds.specs.Number.{no_word}
use Rattle.kinds.specs.declared.answer.Reason.{Reason}
use Rattle.kinds.specs.declared.answer.Reason.TheVariants.{BadEntry, OutsideWindow}
use Rattle.kinds.specs.declared.number.ByteAddress.{ByteAddress}
use Rattle.kinds.specs.declared.record.TranslationEntry.{TranslationEntry}
use Rattle.profile.specs.Entry.{page_size, span, table_good, bypass, bypass_good, in_bypass, pages_good}
use Rattle.dma_entry.specs.declared.ask.Way.{Way}
use Rattle.dma_entry.specs.declared.ask.Way.TheVariants.{Walk, Bypass}

abbrev pub Asked : Type 0
Asked = Result Way Reason

abbrev pub asked_bypass : TranslationEntry → (offset : ByteAddress) → Asked
asked_bypass e o = cond (bypass_good e) (cond (in_bypass e o) (Ok Bypass) (Err OutsideWindow)) (Err BadEntry)

abbrev pub asked_pages : TranslationEntry → (offset : ByteAddress) → Asked
asked_pages e o = cond (pages_good e) (cond (ltb o.0 (2 ^ span e)) (Ok (Walk (page_size e))) (Err OutsideWindow)) (Err BadEntry)

abbrev pub asked : TranslationEntry → (offset : ByteAddress) → Asked
asked e o = cond (table_good e) (cond (bypass e) (asked_bypass e o) (asked_pages e o)) (Err BadEntry)

abbrev pub is_walk : Asked → Bool
is_walk (Ok (Walk s)) = true
is_walk (Ok Bypass) = false
is_walk (Err r) = false

abbrev pub ended : Asked → (offset : ByteAddress) → Translated
ended (Ok (Walk s)) o = fault BadEntry no_word
ended (Ok Bypass) o = Ok o
ended (Err r) o = fault r no_word
