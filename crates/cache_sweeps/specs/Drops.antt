-- What a sweep empties, as the code goes: each is a test of `cache`.
--     of_entries n e      the tables with N = n and these translation entries: no test of a slot reads another
--     of_pe, of_page      the tests of an invalidate by PE and by page, on the first three words of a slot
--     any_slot            what an invalidate of all names; its_slots p: of PE p
--     page_slot e p a     of PE p by address a: the page of the record that bit 59 picks, where that has pages
-- Assumes nothing.
use Rattle.std.specs.Prelude.{Bool, true, ◌&&◌, List, [], ℕ, ◌+◌, eqb}
use Rattle.kinds.specs.declared.number.ByteAddress.{ByteAddress}
use Rattle.kinds.specs.declared.number.PeNumber.{PeNumber}
use Rattle.profile.specs.Entry.{half, offset, entry_in, page_of, paged}
use Rattle.profile.specs.Tables.{Tables}
use Rattle.cache.specs.Slots.{Test}

abbrev pub of_entries : (pes : ℕ) → (entries : List ℕ) → Tables
of_entries n e = record {
  sizes = record { pes = n; interrupts = 0; requesters = 0 };
  installed = 0;
  requesters = [];
  entries = e;
  peers = [];
  windows = [];
  segments = [];
}

abbrev pub of_pe : (pe tag : ℕ) → Bool
of_pe p t = eqb t (p + 1)

unfoldable pub of_page : (pe half page : ℕ) → Test
of_page p i g t h q = eqb t (p + 1) && eqb h i && eqb q g

abbrev pub any_slot : Test
any_slot t h q = true

abbrev pub its_slots : (pe : ℕ) → Test
its_slots p t h q = of_pe p t

unfoldable pub page_slot : (entries : List ℕ) → PeNumber → ByteAddress → Test
page_slot e p a t h q =
    paged (entry_in e p (half a)) && of_page p.0 (half a) (page_of (entry_in e p (half a)) (offset a)).0 t h q
