-- The premises of demand 3 are met by bridges that differ in all that the group does not see, so the claim is not empty.
--     closed, view        `bridge w` and `bridge v` meet the premises, whatever the words w and v are, if memory is as long
--     reads-some          the group's walks do read words, by two levels
--     reads-low           they read nothing beyond the group's two tables
--     outside_words       the private words of PEs 0 and 3 and the memory beyond the group's tables; outside-is: in `bridge w` they are those of w;
--                         own_stops, own-stops: the group's stop words, whose upper bits are those of w
--     all_differ          each of all these words differs between the two bridges
--     list-answers, other-answers     what each request of the two lists is answered: one DMA of PE 0 passes to different addresses, by page tables that
--                         differ, and one is 17; its MSI is presented; others freeze, alone and with peers, are released and are refused
--     group-answers       what the group is answered: not only refusals; group-left: what is left to it; outside-left: to PEs 0 and 3
--     heard-first, heard-second   what `as_if_alone` keeps of two lists with fatal messages and fence clears
--     witness             THE CLAIM at these two bridges and lists; fence-witness: at two lists with fatal messages and fence clears, of which the first
--                         comes from PE 3 in the one and from PE 0 in the other
-- Assumes nothing.
use Rattle.std.specs.Prelude.{◌≡◌, Bool, true, false, cond, not, ◌&&◌, leb, eqb, length, replicate, drop}
use Rattle.std.proofs.Math.Path.{refl, sym}
use Rattle.std.proofs.Common.{◌∙◌, arith, get_or-set_other, leb-true, eqb-true}
use mathlib.Core.List.Memᴰ
use mathlib.Core.List.{List, [], ◌∷◌, ◌++◌, map, Memᴰ}
use Prim.Native.Nat.{ℕ, zero, suc, ◌+◌, ◌-◌, ◌*◌, ◌<◌}
use Rattle.std.proofs.Math.ListN.{get_or-append}
use Rattle.std.proofs.lemmas.List.{get_or-replicate}
use Rattle.std.proofs.lemmas.Bool.{eqb-false}
use Rattle.kinds.specs.Answer.{refuse}
use Rattle.kinds.specs.Number.{no_word}
use Rattle.kinds.proofs.Tests.{by_cases, clash, and_right}
use Rattle.kinds.specs.Words.{at}
use Rattle.kinds.specs.declared.answer.Answer.{Answer}
use Rattle.kinds.specs.declared.answer.Answer.TheVariants.{Pass, Msi, Ones, Refuse, Done}
use Rattle.kinds.specs.declared.answer.Reason.TheVariants.{BadRequest, UnknownRequester, DmaStopped, BadEntry, TableWord, NoWindow, MmioStopped, AboveInstalled, Fenced}
use Rattle.kinds.specs.declared.number.ByteAddress.{ByteAddress}
use Rattle.kinds.specs.declared.number.PageNumber.{PageNumber}
use Rattle.kinds.specs.declared.record.TranslationEntry.{TranslationEntry}
use Rattle.kinds.specs.declared.request.Direction.TheVariants.{Read, Write}
use Rattle.kinds.specs.declared.request.Part.TheVariants as part
use Rattle.kinds.specs.declared.request.Request.TheVariants.{Clear, Fatal, FenceClear}
use Rattle.profile.specs.Tables.{entry_words, interrupt_words, state_words}
use Rattle.profile.specs.Freeze.{stop_word}
use Rattle.profile.specs.Fence.{FatalMessage, Cleared}
use Rattle.profile.specs.Entry.{class_of, half, offset, entry, page_of, table_good, paged, walks}
use Rattle.profile.specs.Walk.{place, leads, walk_from, reads_by, reads}
use Rattle.profile.proofs.WalkLaws.{walk-cases}
use Rattle.profile.specs.Msi.{interrupt}
use Rattle.profile.specs.Agree.{interrupt_pe, Closed, Reads}
use Rattle.isolation.specs.Machine.{replies}
use Rattle.isolation.proofs.Bridges.{Private, group, pe, row, up_from, table_words, tables, live, upper, lower, memory, bridge, words, first, second, dma, load, list, other, fenced, other_fenced, opened_bridges}
use Rattle.isolation.specs.Isolation.{machine, Own, Other, places_in, answers, left, fence}
use Rattle.isolation.proofs.Isolation.{isolation}
use Rattle.isolation.proofs.Corollaries.{Answered, heard}
use Rattle.isolation.specs.View.{Bridge, Public, Written, View}

-- ---- the group

member : {P : Type 0} (p : ℕ) → group (pe p) ≡ true → (p ≡ 1 → P) → (p ≡ 2 → P) → P
unfolding group
member zero u f g = clash u refl
member (suc zero) u f g = f refl
member (suc (suc zero)) u f g = g refl
member (suc (suc (suc p))) u f g =
    let n = suc (suc (suc p)) in absurd (let z = leb-true n 2 (and_right (leb 1 n) (leb n 2) u) in omega arith)

outside : {P : Type 0} (p : ℕ) → p < 4 → group (pe p) ≡ false → (p ≡ 0 → P) → (p ≡ 3 → P) → P
unfolding group
outside zero h u f g = f refl
outside (suc zero) h u f g = clash refl u
outside (suc (suc zero)) h u f g = clash refl u
outside (suc (suc (suc zero))) h u f g = g refl
outside (suc (suc (suc (suc p)))) h u f g = absurd (omega arith)

pub closed : (w : Private) → Closed group (tables w)
unfolding tables
closed w = record {
  unlisted = λ p k h b o u.
      outside p.0 h o
      (λ e. member k.0 u (λ i. rw (e, i)) (λ i. rw (e, i)))
      (λ e. member k.0 u (λ i. rw (e, i)) (λ i. rw (e, i)));
}

-- ---- what the group's walks read

length_upper : length upper ≡ table_words
unfolding upper
length_upper = refl

length_tables : length (upper ++ lower) ≡ 2 * table_words
unfolding upper lower
length_tables = refl

-- a word of the two tables, and of the upper one
table-word : (w : Private) (k : ℕ) → k < 2 * table_words → at (memory w) k ≡ at (upper ++ lower) k
unfolding memory
table-word w k h = get_or-append (upper ++ lower) w.memory 0 k (rw length_tables h)

upper_is : (k : ℕ) → k < table_words → at upper k ≡ cond (eqb k 2) 0x1001 0
unfolding upper
upper_is k h =
    by_cases (eqb k 2)
    (λ o. rw (eqb-true k 2 o))
    (λ o. rw o (get_or-set_other (replicate table_words 0) 2 k 0x1001 0 (eqb-false k 2 o) ∙ get_or-replicate table_words k 0 0 h))

upper-word : (w : Private) (k : ℕ) → k < table_words → at (memory w) k ≡ cond (eqb k 2) 0x1001 0
upper-word w k h = table-word w k (omega arith) ∙ get_or-append upper lower 0 k (rw length_upper h) ∙ upper_is k h

-- PE 2 reads words of its two tables
walk-low : (w : Private) (q : PageNumber) (k : ℕ) → Memᴰ k (walk_from (memory w) 2 9 (record { 0 = 0 }) q).reads → k < 2 * table_words
walk-low w q k h =
    walk-cases (memory w) 1 9 (record { 0 = 0 }) q k h
    (λ e. omega arith)
    (λ o z. let j = place 1 9 (record { 0 = 0 }) q in
    let u = upper-word w j (omega arith) in
    by_cases (eqb j 2)
    (λ t. let e : at (memory w) j ≡ 0x1001 = rw t at u in
    walk-cases (memory w) 0 9 (record { 0 = 0x1000 }) q k (rw e at z) (λ i. omega arith) (λ b y. clash b refl))
    (λ t. let e : at (memory w) j ≡ 0 = rw t at u in
    let c : leads 9 0 ≡ true = rw e at o in clash c (unfold leads in refl)))

-- the entries of the group: none, PE 1's bypass and PE 2's page table
abbrev none : TranslationEntry
none = record { base = 0; levels = 0; table = 0; page = 0 }

abbrev bypassed : TranslationEntry
bypassed = record { base = 1; levels = 512; table = 1; page = 0 }

abbrev tabled : TranslationEntry
tabled = record { base = 0; levels = 2; table = 1; page = 1 }

unwalked-reads : (e : TranslationEntry) (m : List ℕ) (o : ByteAddress) (k : ℕ) → walks e o ≡ false → Memᴰ k (reads_by e m o) → k < 2 * table_words
unfolding reads_by
unwalked-reads e m o k t h = absurd (Memᴰ.not-nil (rw t at h))

tabled-reads : (w : Private) (o : ByteAddress) (k : ℕ) → Memᴰ k (reads_by tabled (memory w) o) → k < 2 * table_words
unfolding reads_by
tabled-reads w o k h = by_cases (walks tabled o) (λ t. walk-low w (page_of tabled o) k (rw t at h)) (λ t. absurd (Memᴰ.not-nil (rw t at h)))

entry-reads : (w : Private) (p h : ℕ) (o : ByteAddress) (k : ℕ) → group (pe p) ≡ true → h < 2
    → Memᴰ k (reads_by (entry (tables w) (pe p) h) (memory w) o) → k < 2 * table_words
unfolding up_from tables walks paged table_good
entry-reads w p zero o k u b h =
    member p u (λ e. unwalked-reads bypassed (memory w) o k refl (rw e at h)) (λ e. tabled-reads w o k (rw e at h))
entry-reads w p (suc zero) o k u b h =
    member p u (λ e. unwalked-reads none (memory w) o k refl (rw e at h)) (λ e. unwalked-reads none (memory w) o k refl (rw e at h))
entry-reads w p (suc (suc n)) o k u b h = absurd (omega arith)

reads-low : (w : Private) (k : ℕ) → Reads group (tables w) (memory w) k → k < 2 * table_words
reads-low w k r = entry-reads w r.pe.0 (half r.address) (offset r.address) k r.member (omega arith) r.word

-- ---- the premises

module _ (w v : Private) (e : length w.memory ≡ length v.memory) where
  interrupt-pes : (i : ℕ) → i < 4 → (interrupt (live w) i).pe ≡ (interrupt (live v) i).pe
  unfolding up_from live
  interrupt-pes zero h = refl
  interrupt-pes (suc zero) h = refl
  interrupt-pes (suc (suc zero)) h = refl
  interrupt-pes (suc (suc (suc zero))) h = refl
  interrupt-pes (suc (suc (suc (suc i)))) h = absurd (omega arith)

  interrupt-records : (i : ℕ) → i < 4 → group (interrupt_pe (live w) i) ≡ true → interrupt (live w) i ≡ interrupt (live v) i
  unfolding up_from live group
  interrupt-records zero h u = clash u refl
  interrupt-records (suc zero) h u = refl
  interrupt-records (suc (suc zero)) h u = refl
  interrupt-records (suc (suc (suc zero))) h u = clash u refl
  interrupt-records (suc (suc (suc (suc i)))) h u = absurd (omega arith)

  group-entries : (p h : ℕ) → group (pe p) ≡ true → h < 2 → entry (tables w) (pe p) h ≡ entry (tables v) (pe p) h
  unfolding up_from tables
  group-entries p zero u b = member p u (λ e. rw e) (λ e. rw e)
  group-entries p (suc zero) u b = member p u (λ e. rw e) (λ e. rw e)
  group-entries p (suc (suc n)) u b = absurd (omega arith)

  group-words : Written group 4 (live w) (live v)
  unfolding up_from live
  group-words = record {
    stop_bits_lem = λ p u. member p.0 u (λ e. rw e (omega arith)) (λ e. rw e (omega arith));
    reason = λ p u. member p.0 u (λ e. rw e) (λ e. rw e);
    value = λ p u. member p.0 u (λ e. rw e) (λ e. rw e);
    failed = λ p u. member p.0 u (λ e. rw e) (λ e. rw e);
    interrupts = interrupt-records;
  }

  public : Public (bridge w) (bridge v)
  unfolding up_from tables live memory upper lower
  public = record {
    sizes = refl;
    installed = refl;
    all-lengths = rw e;
    requesters = refl;
    peers = refl;
    windows = refl;
    segments = refl;
    fence = refl;
    interrupt-pe = interrupt-pes;
  }

  pub view : View group (bridge w) (bridge v)
  unfolding tables
  view = record {
    public = public;
    written = group-words;
    entries = λ p u h b. group-entries p.0 h u b;
    table-words = λ k r. table-word w k (reads-low w k r) ∙ sym (table-word v k (reads-low w k r));
  }

-- ---- the group's walks do read words

two-levels : (x : ℕ) → reads (tables (words x)) (memory (words x)) (pe 2) (record { 0 = 0x403010 }) ≡ 2 ∷ (table_words + 3) ∷ []
unfolding opened_bridges
two-levels x = refl

pub reads-some : (x : ℕ) → Reads group (tables (words x)) (memory (words x)) (table_words + 3)
unfolding group class_of
reads-some x = record {
  pe = pe 2;
  member = refl;
  below = unfold tables in omega arith;
  address = record { 0 = 0x403010 };
  dma = refl;
  word = rw (two-levels x) (Memᴰ.tail (Memᴰ.head refl));
}

-- ---- what is outside: all private words of PEs 0 and 3, and the memory beyond the group's tables

unfoldable pub outside_words : Private → List ℕ
outside_words w =
    map w.entries (up_from 0 entry_words ++ up_from (3 * entry_words) entry_words)
    ++ map w.state (up_from 0 state_words ++ up_from (3 * state_words) state_words)
    ++ map w.interrupts (up_from 1 (interrupt_words - 1) ++ up_from (3 * interrupt_words + 1) (interrupt_words - 1))
    ++ w.memory

-- the words of a bridge, in the same form
abbrev pub words_of : Bridge → Private
words_of a = record {
  entries = at a.tables.entries;
  state = at a.live.state;
  interrupts = at a.live.interrupts;
  memory = drop (2 * table_words) a.memory;
}

pub outside-is : (w : Private) → outside_words (words_of (bridge w)) ≡ outside_words w
unfolding opened_bridges outside_words
outside-is w = refl

unfoldable pub own_stops : Bridge → List ℕ
own_stops a = map (at a.live.state) (stop_word (pe 1) ∷ stop_word (pe 2) ∷ [])

pub own-stops : (w : Private) → own_stops (bridge w) ≡ map (λ k. w.state k * 4) (stop_word (pe 1) ∷ stop_word (pe 2) ∷ [])
unfolding up_from live own_stops
own-stops w = refl

-- two lists of one length that differ at every place
unfoldable pub apart : (l k : List ℕ) → Bool
apart [] [] = true
apart [] (y ∷ k) = false
apart (x ∷ l) [] = false
apart (x ∷ l) (y ∷ k) = not (eqb x y) && apart l k

pub all_differ : apart (own_stops first ++ outside_words (words_of first)) (own_stops second ++ outside_words (words_of second)) ≡ true
unfolding opened_bridges own_stops outside_words apart
all_differ = refl

-- ---- two lists

same-places : places_in group first list ≡ places_in group second other
unfolding opened_bridges
same-places = refl

unfoldable pub pass : (address pe words : ℕ) → Answer
pass a p n = Pass (record { 0 = a }) (pe p) n

list-answers : replies (machine group first.tables first.memory) first.live list ≡
    Done ∷ pass 0x9010 2 2 ∷ refuse DmaStopped ∷ Done ∷ pass 0x1110ABC 0 1 ∷ pass 0x1000000 1 0 ∷ Msi 0 1 1 ∷ Msi 1 5 6 ∷ refuse AboveInstalled
    ∷ refuse UnknownRequester ∷ refuse BadRequest ∷ refuse BadEntry ∷ Refuse TableWord 1 (record { 0 = 0x20 }) ∷ Ones MmioStopped 0xFFFFFFFF ∷ Done ∷ Done ∷ refuse NoWindow ∷ []
unfolding opened_bridges pass
list-answers = refl

other-answers : replies (machine group second.tables second.memory) second.live other ≡
    pass 0x9010 2 2 ∷ pass 0x1000000 1 0 ∷ refuse DmaStopped ∷ Done ∷ pass 0x2223ABC 0 2 ∷ Refuse AboveInstalled 2 no_word ∷ Msi 1 5 6 ∷ refuse AboveInstalled
    ∷ refuse BadRequest ∷ Done ∷ refuse BadRequest ∷ Refuse TableWord 1 (record { 0 = 0x20 }) ∷ Ones MmioStopped 0xFFFFFFFF ∷ Done ∷ Done ∷ Done ∷ Done ∷ []
unfolding opened_bridges pass
other-answers = refl

-- what the group is answered, in both
group-answers : answers group first list ≡
    pass 0x9010 2 2 ∷ pass 0x1000000 1 0 ∷ Msi 1 5 6 ∷ refuse AboveInstalled ∷ refuse BadRequest ∷ Refuse TableWord 1 (record { 0 = 0x20 }) ∷ Ones MmioStopped 0xFFFFFFFF ∷ Done ∷ Done ∷ []
unfolding opened_bridges pass
group-answers = refl

-- and what is left to it: the words of PEs 1 and 2 in the state, and their interrupts
group-left : map (at (left first list).state) (up_from (stop_word (pe 1)) (2 * state_words))
    ++ map (at (left first list).interrupts) (up_from interrupt_words (2 * interrupt_words)) ≡
    row 7 17 0x180000000 0 ++ row 6 8 0x800000 0x20 ++ (1 ∷ 5 ∷ 6 ∷ 2 ∷ 2 ∷ 7 ∷ 8 ∷ 0 ∷ [])
unfolding opened_bridges
group-left = refl

-- and to PEs 0 and 3: PE 3 has sent an error message, and PE 0 was frozen as its peer
outside-left : map (at (left first list).state) (up_from 0 state_words ++ up_from (3 * state_words) state_words) ≡ row 3 13 3 0 ++ row 3 12 3 0
unfolding opened_bridges
outside-left = refl

pub witness : Answered group first second list other
unfolding tables
witness = isolation.isolated group first second (closed (words 1)) (view (words 1) (words 2) (unfold words in refl)) list other same-places

-- ---- two lists with an outsider's fatal message and a fence clear at the same places

fenced-places : places_in group first fenced ≡
    Own (dma 2 Write 0x403010 0) ∷ Other FatalMessage ∷ Own (dma 2 Write 0x403010 0) ∷ Own (load 0x100300010 4) ∷ Own (Clear 2 part.Dma) ∷ Other Cleared
    ∷ Own (dma 2 Write 0x403010 0) ∷ Own (Fatal 1) ∷ Own (dma 1 Read 0x1000000 0) ∷ Other Cleared ∷ []
unfolding opened_bridges
fenced-places = refl

same-fenced : places_in group first fenced ≡ places_in group second other_fenced
unfolding opened_bridges
same-fenced = refl

-- as if alone: the neighbours' error messages, loads and DMAs are left out, and their fatal messages that are 3
heard-first : heard group first fenced ≡
    dma 2 Write 0x403010 0 ∷ Fatal 3 ∷ dma 2 Write 0x403010 0 ∷ load 0x100300010 4 ∷ Clear 2 part.Dma ∷ FenceClear ∷ dma 2 Write 0x403010 0 ∷ Fatal 1
    ∷ dma 1 Read 0x1000000 0 ∷ FenceClear ∷ []
unfolding opened_bridges
heard-first = refl

heard-second : heard group second other_fenced ≡
    dma 2 Write 0x403010 0 ∷ Fatal 0 ∷ dma 2 Write 0x403010 0 ∷ load 0x100300010 4 ∷ Clear 2 part.Dma ∷ FenceClear ∷ dma 2 Write 0x403010 0 ∷ Fatal 1
    ∷ dma 1 Read 0x1000000 0 ∷ FenceClear ∷ []
unfolding opened_bridges
heard-second = refl

-- every answer of both: while the bridge is fenced firmware works, a message of a stopped PE is obeyed, and after the clear all else is as it was
fenced-answers : replies (machine group first.tables first.memory) first.live fenced ≡
    pass 0x9010 2 2 ∷ Done ∷ refuse Fenced ∷ refuse Fenced ∷ Ones Fenced 0xFFFFFFFF ∷ Done ∷ Done ∷ Done ∷ pass 0x9010 2 2 ∷ Done ∷ refuse Fenced ∷ Done ∷ []
unfolding opened_bridges pass
fenced-answers = refl

other_fenced-answers : replies (machine group second.tables second.memory) second.live other_fenced ≡
    refuse UnknownRequester ∷ pass 0x9010 2 2 ∷ Done ∷ refuse Fenced ∷ Ones Fenced 0xFFFFFFFF ∷ Ones Fenced 0xFFFFFFFF ∷ Done ∷ Done ∷ pass 0x9010 2 2
    ∷ refuse UnknownRequester ∷ Done ∷ refuse Fenced ∷ refuse Fenced ∷ Done ∷ []
unfolding opened_bridges pass
other_fenced-answers = refl

-- the fence word is as it was: its other bits stayed
fence-left : fence first fenced ≡ 6
unfolding opened_bridges
fence-left = refl

pub fence-witness : Answered group first second fenced other_fenced
unfolding tables
fence-witness = isolation.isolated group first second (closed (words 1)) (view (words 1) (words 2) (unfold words in refl)) fenced other_fenced same-fenced
