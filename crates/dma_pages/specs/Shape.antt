-- The shape of a page table, as the code goes: it is a part of a definition of `profile`.
--     shape_of e           the page size and span of a good entry with pages, whose table code is at most 31
-- Assumes nothing.
use Rattle.std.specs.Prelude.{cond, Option, Some, None, leb}
use Rattle.kinds.specs.declared.record.TranslationEntry.{TranslationEntry}
use Rattle.profile.specs.Entry.{page_size, span, pages_good, most_table_code}
use Rattle.dma_pages.specs.declared.page_tables.Shape.{Shape}

abbrev pub shape_of : TranslationEntry → Option Shape
shape_of e = cond (leb e.table most_table_code) (cond (pages_good e) (Some (record { size = page_size e; span = span e })) None) None
