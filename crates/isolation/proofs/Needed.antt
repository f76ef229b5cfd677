-- Every premise of demand 3 is needed: without any one of them the claim fails.
--     Premise, Holds      the premises of `Isolation`, split into all that can differ by itself: `premises` has each from those of the claim, `enough`
--                         the claim from all. The lengths of requesters, peers, windows and segments are not among them: these tables are public
--                         themselves, so none of them differs in its length alone
--     code                a number for each premise, to tell them apart
--     Counterexample x    two bridges and two lists, not without requests of the group, that meet every premise but x, and for which the claim fails
--     needed              THE STATEMENT: there is one for each premise
--     bridge d            the bridge of the examples: d has for each premise the number that is added to what the premise speaks of. There are two PEs.
--                         PE 1 has requester 1, a page table of one level, interrupt 0 and all segments but the first, and lists PE 0
--     changed x n         n for x, 0 for each other premise; unchanged: 0 for each
--     met                 a premise holds of `bridge unchanged` and `bridge d` where d has 0 for it
--     told, differs       from an example to its counterexample
--     Misplaced           how the fatal messages and fence clears of others can differ between two lists whose own requests are the same
--     misplaced           THE STATEMENT on them: for each there is a counterexample with the same own requests, so the premise on the lists asks for no more
--                         than it has to
--     refused-free        a fatal message that is refused as 3 is free
-- Assumes nothing.
use Rattle.std.specs.Prelude.{◌≡◌, Bool, true, false, cond, List, [], ◌∷◌, ◌++◌, ℕ, zero, suc, ◌+◌, ◌-◌, ◌*◌, ◌/◌, ◌%◌, ◌<◌, ltb, eqb, length, replicate}
use Rattle.std.proofs.Math.Path.{refl, sym, ap}
use Rattle.std.proofs.Common.{◌∙◌, arith, eq-eqb, ne_eqb}
use Rattle.kinds.specs.Answer.{numbered}
use Rattle.kinds.proofs.Tests.{clash}
use Rattle.kinds.specs.Words.{at, bit_of}
use Rattle.kinds.specs.declared.answer.Answer.{Answer}
use Rattle.kinds.specs.declared.number.PeNumber.{PeNumber}
use Rattle.kinds.specs.declared.record.Interrupt.{Interrupt}
use Rattle.kinds.specs.declared.record.Lengths.{Lengths}
use Rattle.kinds.specs.declared.record.Sizes.{Sizes}
use Rattle.kinds.specs.declared.request.Direction.TheVariants.{Read, Write}
use Rattle.kinds.specs.declared.request.Request.{Request}
use Rattle.kinds.specs.declared.request.Request.TheVariants.{Error, Fatal, FenceClear}
use Rattle.profile.specs.Tables.{entry_words, peer_words, window_words, segment_count}
use Rattle.profile.specs.Freeze.{stop_word, reason_word, value_word, failed_word}
use Rattle.profile.specs.Fence.{fence_word}
use Rattle.profile.specs.Entry.{entry}
use Rattle.profile.specs.Msi.{interrupt}
use Rattle.profile.proofs.Opened.{opened}
use Rattle.profile.specs.Agree.{interrupt_pe, Closed, Reads}
use Rattle.isolation.specs.View.{Bridge, Public, Written, View}
use Rattle.isolation.specs.Isolation.{places_in, answers, left, own}
use Rattle.isolation.proofs.Isolation.{isolation}
use Rattle.isolation.proofs.Corollaries.{Answered}
use Rattle.isolation.proofs.Bridges.{pe, row, dma, load}

pub data Premise : Type 0 where
  NotListed SamePlaces SameN SameM SameR SameInstalled SameFence : Premise
  SameEntriesLength SameMemoryLength SameInterruptsLength SameStateLength : Premise
  SameRequesters SamePeers SameWindows SameSegments SameInterruptPe : Premise
  SameServer SamePriority SameBits SameMmio SameDma SameReason SameValue SameFailedWord : Premise
  SameFirstEntry SameSecondEntry SameTableWord : Premise

abbrev sizes : (n m r : ℕ) → Sizes
sizes n m r = record { pes = n; interrupts = m; requesters = r }

module _ (G : PeNumber → Bool) (a b : Bridge) (l k : List Request) where
  -- f is equal for each member, and for each interrupt of a member
  abbrev pub OfMembers : {T : Type 0} → (Bridge → PeNumber → T) → Type 0
  OfMembers f = (p : PeNumber) → G p ≡ true → f a p ≡ f b p

  abbrev pub OfInterrupts : (Interrupt → ℕ) → Type 0
  OfInterrupts f =
      (i : ℕ) → i < a.tables.sizes.interrupts → G (interrupt_pe a.live i) ≡ true → f (interrupt a.live i) ≡ f (interrupt b.live i)

  abbrev pub Holds : Premise → Type 0
  Holds NotListed = Closed G a.tables
  Holds SamePlaces = places_in G a l ≡ places_in G b k
  Holds SameN = a.tables.sizes.pes ≡ b.tables.sizes.pes
  Holds SameM = a.tables.sizes.interrupts ≡ b.tables.sizes.interrupts
  Holds SameR = a.tables.sizes.requesters ≡ b.tables.sizes.requesters
  Holds SameInstalled = a.tables.installed ≡ b.tables.installed
  Holds SameFence = at a.live.state (fence_word a.tables.sizes.pes) ≡ at b.live.state (fence_word a.tables.sizes.pes)
  Holds SameEntriesLength = length a.tables.entries ≡ length b.tables.entries
  Holds SameMemoryLength = length a.memory ≡ length b.memory
  Holds SameInterruptsLength = length a.live.interrupts ≡ length b.live.interrupts
  Holds SameStateLength = length a.live.state ≡ length b.live.state
  Holds SameRequesters = a.tables.requesters ≡ b.tables.requesters
  Holds SamePeers = a.tables.peers ≡ b.tables.peers
  Holds SameWindows = a.tables.windows ≡ b.tables.windows
  Holds SameSegments = a.tables.segments ≡ b.tables.segments
  Holds SameInterruptPe = (i : ℕ) → i < a.tables.sizes.interrupts → (interrupt a.live i).pe ≡ (interrupt b.live i).pe
  Holds SameServer = OfInterrupts (λ e. e.server)
  Holds SamePriority = OfInterrupts (λ e. e.priority)
  Holds SameBits = OfInterrupts (λ e. e.bits)
  Holds SameMmio = OfMembers (λ x p. at x.live.state (stop_word p) % 2)
  Holds SameDma = OfMembers (λ x p. at x.live.state (stop_word p) / 2 % 2)
  Holds SameReason = OfMembers (λ x p. at x.live.state (reason_word p))
  Holds SameValue = OfMembers (λ x p. at x.live.state (value_word p))
  Holds SameFailedWord = OfMembers (λ x p. at x.live.state (failed_word p))
  Holds SameFirstEntry = OfMembers (λ x p. entry x.tables p 0)
  Holds SameSecondEntry = OfMembers (λ x p. entry x.tables p 1)
  Holds SameTableWord = (n : ℕ) → Reads G a.tables a.memory n → at a.memory n ≡ at b.memory n

  pub premises : Closed G a.tables → View G a b → places_in G a l ≡ places_in G b k → (x : Premise) → Holds x
  premises c v o NotListed = c
  premises c v o SamePlaces = o
  premises c v o SameN = ap (λ (z : Sizes). z.pes) v.public.sizes
  premises c v o SameM = ap (λ (z : Sizes). z.interrupts) v.public.sizes
  premises c v o SameR = ap (λ (z : Sizes). z.requesters) v.public.sizes
  premises c v o SameInstalled = v.public.installed
  premises c v o SameFence = v.public.fence
  premises c v o SameEntriesLength = ap (λ (n : Lengths). n.entries) v.public.all-lengths
  premises c v o SameMemoryLength = ap (λ (n : Lengths). n.memory) v.public.all-lengths
  premises c v o SameInterruptsLength = ap (λ (n : Lengths). n.interrupts) v.public.all-lengths
  premises c v o SameStateLength = ap (λ (n : Lengths). n.state) v.public.all-lengths
  premises c v o SameRequesters = v.public.requesters
  premises c v o SamePeers = v.public.peers
  premises c v o SameWindows = v.public.windows
  premises c v o SameSegments = v.public.segments
  premises c v o SameInterruptPe = v.public.interrupt-pe
  premises c v o SameServer = λ i h g. ap (λ (e : Interrupt). e.server) (v.written.interrupts i h g)
  premises c v o SamePriority = λ i h g. ap (λ (e : Interrupt). e.priority) (v.written.interrupts i h g)
  premises c v o SameBits = λ i h g. ap (λ (e : Interrupt). e.bits) (v.written.interrupts i h g)
  premises c v o SameMmio = λ p g. let z = v.written.stop_bits_lem p g in omega arith
  premises c v o SameDma = λ p g. let z = v.written.stop_bits_lem p g in omega arith
  premises c v o SameReason = v.written.reason
  premises c v o SameValue = v.written.value
  premises c v o SameFailedWord = v.written.failed
  premises c v o SameFirstEntry = λ p g. v.entries p g 0 (omega arith)
  premises c v o SameSecondEntry = λ p g. v.entries p g 1 (omega arith)
  premises c v o SameTableWord = v.table-words

  module _ (h : (x : Premise) → Holds x) where
    public : Public a b
    public = record {
      sizes =
          let z : a.tables.sizes ≡ sizes a.tables.sizes.pes a.tables.sizes.interrupts a.tables.sizes.requesters = refl in
          rw (z, h SameN, h SameM, h SameR);
      installed = h SameInstalled;
      all-lengths = rw (
        h SameRequesters,
        h SameEntriesLength,
        h SameMemoryLength,
        h SamePeers,
        h SameInterruptsLength,
        h SameWindows,
        h SameSegments,
        h SameStateLength,
      );
      requesters = h SameRequesters;
      peers = h SamePeers;
      windows = h SameWindows;
      segments = h SameSegments;
      fence = h SameFence;
      interrupt-pe = h SameInterruptPe;
    }

    written : Written G a.tables.sizes.interrupts a.live b.live
    written = record {
      stop_bits_lem = λ p g. let m = h SameMmio p g in let d = h SameDma p g in omega arith;
      reason = h SameReason;
      value = h SameValue;
      failed = h SameFailedWord;
      interrupts = λ i n g. rw (h SameInterruptPe i n, h SameServer i n g, h SamePriority i n g, h SameBits i n g);
    }

    entries : (p : PeNumber) → G p ≡ true → (n : ℕ) → n < 2 → entry a.tables p n ≡ entry b.tables p n
    entries p g zero n = h SameFirstEntry p g
    entries p g (suc zero) n = h SameSecondEntry p g
    entries p g (suc (suc j)) n = absurd (omega arith)

    pub enough : Answered G a b l k
    enough =
        let v : View G a b = record { public = public; written = written; entries = entries; table-words = h SameTableWord } in
        isolation.isolated G a b (h NotListed) v l k (h SamePlaces)

-- ---- a counterexample

abbrev pub code : Premise → ℕ
code NotListed = 0
code SamePlaces = 1
code SameN = 2
code SameM = 3
code SameR = 4
code SameEntriesLength = 5
code SameMemoryLength = 6
code SameInterruptsLength = 7
code SameStateLength = 8
code SameRequesters = 9
code SamePeers = 10
code SameWindows = 11
code SameSegments = 12
code SameInterruptPe = 13
code SameServer = 14
code SamePriority = 15
code SameBits = 16
code SameMmio = 17
code SameDma = 18
code SameReason = 19
code SameValue = 20
code SameFailedWord = 21
code SameFirstEntry = 22
code SameSecondEntry = 23
code SameTableWord = 24
code SameInstalled = 25
code SameFence = 26

pub record Counterexample (x : Premise) : Type 0 where
  pub group : PeNumber → Bool
  pub first : Bridge
  pub second : Bridge
  pub list : List Request
  pub other : List Request
  -- the group has requests
  pub asked : ltb 0 (length (own group first list)) ≡ true
  pub others : (y : Premise) → ¬ (code y ≡ code x) → Holds group first second list other y
  pub fails : ¬ Answered group first second list other

-- ---- the bridge of the examples

unfoldable bridge : (Premise → ℕ) → Bridge
bridge d = record {
  tables = record {
    sizes = sizes (2 + d SameN) (1 + d SameM) (2 + d SameR);
    installed = 0x12345FFF + d SameInstalled;
    requesters = d SameRequesters ∷ 1 ∷ [];
    entries =
        replicate entry_words 0
        ++ (0 ∷ 1 ∷ 1 ∷ (1 + d SameFirstEntry) ∷ 0 ∷ 1 ∷ d SameSecondEntry ∷ 0 ∷ replicate (d SameEntriesLength) 0);
    peers = d SamePeers ∷ 0 ∷ 0 ∷ 0 ∷ 1 ∷ 0 ∷ 0 ∷ 0 ∷ [];
    windows = 0x100000000 ∷ 0x10000000 ∷ (0x80000000 + d SameWindows) ∷ replicate (window_words - 3) 0;
    segments = d SameSegments ∷ replicate (segment_count - 1) 1;
  };
  memory = 0 ∷ 0 ∷ 0 ∷ (0x12345003 + d SameTableWord) ∷ replicate (d SameMemoryLength) 0;
  live = record {
    state = row 0 0 0 0 ++ (row (d SameMmio % 2 + 2 * d SameDma) (d SameReason) (d SameValue) (d SameFailedWord) ++ (d SameFence ∷ replicate (d SameStateLength) 0));
    interrupts = (1 + d SameInterruptPe) ∷ (5 + d SameServer) ∷ (6 + d SamePriority) ∷ d SameBits ∷ replicate (d SameInterruptsLength) 0;
  };
}

abbrev unchanged : Premise → ℕ
unchanged y = 0

abbrev changed : Premise → (n : ℕ) → Premise → ℕ
changed x n y = cond (eqb (code y) (code x)) n 0

-- PEs 0 and 1, each a member or not, and no other
abbrev picked : (zero one : Bool) → ℕ → Bool
picked a b zero = a
picked a b (suc zero) = b
picked a b (suc (suc n)) = false

abbrev group : (zero one : Bool) → PeNumber → Bool
group a b p = picked a b p.0

members : (a b : Bool) (P : PeNumber → Type 0) → P (pe 0) → P (pe 1) → (p : PeNumber) → group a b p ≡ true → P p
members a b P x y p = go p.0
  where
    go : (n : ℕ) → picked a b n ≡ true → P (pe n)
    go zero u = x
    go (suc zero) u = y
    go (suc (suc n)) u = clash u refl

outsider : (a : Bool) (n : ℕ) → n < 2 → picked a true n ≡ false → n ≡ 0
outsider a zero h o = refl
outsider a (suc zero) h o = clash refl o
outsider a (suc (suc n)) h o = absurd (omega arith)

-- PE 0 lists nobody
closed : (a : Bool) → Closed (group a true) (bridge unchanged).tables
unfolding bridge
closed a = record {
  unlisted = λ p k h b o u. rw (outsider a p.0 h o) (members a true (λ k. bit_of (replicate peer_words 0) k.0 ≡ false) refl refl k u);
}

-- the one interrupt
only : (P : ℕ → Type 0) → P 0 → (i : ℕ) → i < 1 → P i
only P x zero h = x
only P x (suc i) h = absurd (omega arith)

-- no word changes where zeros follow the last one
zeros : (k n : ℕ) → at (replicate k 0) n ≡ 0
zeros zero n = refl
zeros (suc k) zero = refl
zeros (suc k) (suc n) = zeros k n

padded : (l : List ℕ) (k n : ℕ) → at (l ++ replicate k 0) n ≡ at l n
padded [] k n = zeros k n
padded (x ∷ l) k zero = refl
padded (x ∷ l) k (suc n) = padded l k n

module _ (a b : Bool) (d : Premise → ℕ) (l k : List Request) (c : d NotListed ≡ 0 → b ≡ true)
    (o : d SamePlaces ≡ 0 → places_in (group a b) (bridge unchanged) l ≡ places_in (group a b) (bridge d) k) where
  met : (y : Premise) → d y ≡ 0 → Holds (group a b) (bridge unchanged) (bridge d) l k y
  unfolding bridge
  met NotListed e = rw (c e) (closed a)
  met SamePlaces e = o e
  met SameN e = rw e
  met SameM e = rw e
  met SameR e = rw e
  met SameInstalled e = rw e
  met SameFence e = rw e
  met SameEntriesLength e = rw e
  met SameMemoryLength e = rw e
  met SameInterruptsLength e = rw e
  met SameStateLength e = rw e
  met SameRequesters e = rw e
  met SamePeers e = rw e
  met SameWindows e = rw e
  met SameSegments e = rw e
  met SameInterruptPe e = only _ (rw e)
  met SameServer e = only _ (λ u. rw e)
  met SamePriority e = only _ (λ u. rw e)
  met SameBits e = only _ (λ u. rw e)
  met SameMmio e = members a b _ refl (omega arith)
  met SameDma e = members a b _ refl (omega arith)
  met SameReason e = members a b _ refl (rw e)
  met SameValue e = members a b _ refl (rw e)
  met SameFailedWord e = members a b _ refl (rw e)
  met SameFirstEntry e = members a b _ refl (rw e)
  met SameSecondEntry e = members a b _ refl (rw e)
  met SameTableWord e = λ n r.
      ap (λ x. at (0 ∷ 0 ∷ 0 ∷ (0x12345003 + x) ∷ []) n) (sym e)
      ∙ sym (padded (0 ∷ 0 ∷ 0 ∷ (0x12345003 + d SameTableWord) ∷ []) (d SameMemoryLength) n)

-- ---- the claim fails

-- the sum of all numbers of a list of answers
total : List Answer → ℕ
total [] = 0
total (x ∷ l) = let n = numbered x in n.name + n.reason + n.value + n.words + n.pe + n.server + n.priority + n.word + total l

-- the same of the group's answers, and of the error record that a list leaves to PE p: by the claim they are equal
shown : (PeNumber → Bool) → Bridge → List Request → (p : ℕ) → ℕ
shown G a l p =
    total (answers G a l) + at (left a l).state (reason_word (pe p)) + at (left a l).state (value_word (pe p)) + at (left a l).state (failed_word (pe p))

shown-same : (G : PeNumber → Bool) (a b : Bridge) (l k : List Request) (p : ℕ) → G (pe p) ≡ true → Answered G a b l k → shown G a l p ≡ shown G b k p
unfolding shown
shown-same G a b l k p g c = rw (c.0, c.1.reason (pe p) g, c.1.value (pe p) g, c.1.failed (pe p) g)

told : {x : Premise} (n : ℕ) (a b : Bool) (p : ℕ) (l k : List Request) → (changed x n NotListed ≡ 0 → b ≡ true)
    → (changed x n SamePlaces ≡ 0 → places_in (group a b) (bridge unchanged) l ≡ places_in (group a b) (bridge (changed x n)) k)
    → ltb 0 (length (own (group a b) (bridge unchanged) l)) ≡ true
    → group a b (pe p) ≡ true → eqb (shown (group a b) (bridge unchanged) l p) (shown (group a b) (bridge (changed x n)) k p) ≡ false
    → Counterexample x
told {x} n a b p l k c o m g e = record {
  group = group a b;
  first = bridge unchanged;
  second = bridge (changed x n);
  list = l;
  other = k;
  asked = m;
  others = λ y h. met a b (changed x n) l k c o y (rw (ne_eqb (code y) (code x) h));
  fails = λ z. clash (eq-eqb _ _ (shown-same (group a b) (bridge unchanged) (bridge (changed x n)) l k p g z)) e;
}

-- one list for both bridges, and PE 1 a member; `a` says whether PE 0 is one
differs : {x : Premise} (n : ℕ) (a : Bool) (l : List Request) → places_in (group a true) (bridge unchanged) l ≡ places_in (group a true) (bridge (changed x n)) l
    → ltb 0 (length (own (group a true) (bridge unchanged) l)) ≡ true
    → eqb (shown (group a true) (bridge unchanged) l 1) (shown (group a true) (bridge (changed x n)) l 1) ≡ false → Counterexample x
differs n a l o m e = told n a true 1 l l (λ z. refl) (λ z. o) m refl e

-- ---- the examples

-- a read through word 3 of PE 1's table, an MSI of interrupt 0, and a load in a segment
abbrev read : (requester : ℕ) → Request
read r = dma r Read 0x3ABC 0

abbrev signal : Request
signal = dma 1 Write 0x1000000000000000 0

abbrev in_segment : ℕ → Request
in_segment n = load (0x100000000 + 0x100000 * n) 4

unfoldable examples : Unit {0}
unfolding opened bridge total shown
examples = tt

pub needed : (x : Premise) → Counterexample x
unfolding examples
-- PE 1 lists PE 0, which is the group, and an error message of PE 1 stops it
needed NotListed = told 1 true false 0 (Error 1 ∷ read 0 ∷ []) (read 0 ∷ []) (λ z. absurd (omega arith)) (λ z. refl) refl refl refl
-- the same requests in another order
needed SamePlaces =
    told 1 false true 1 (Error 1 ∷ read 1 ∷ []) (read 1 ∷ Error 1 ∷ []) (λ z. refl) (λ z. absurd (omega arith)) refl refl refl
-- N, M or R is one more in the second, where a length is then wrong
needed SameN = differs 1 false (read 1 ∷ []) refl refl refl
needed SameM = differs 1 false (read 1 ∷ []) refl refl refl
needed SameR = differs 1 false (read 1 ∷ []) refl refl refl
-- the last byte of PE 1's page is above the installed size in the first, and below it in the second
needed SameInstalled = differs 1 false (dma 1 Read 0x3FFC 0 ∷ []) refl refl refl
-- the second is fenced
needed SameFence = differs 1 false (read 1 ∷ []) refl refl refl
-- one word more in the second, which is reason 1; in memory it is not, but a walk then finds the word that it asks for
needed SameEntriesLength = differs 1 false (read 1 ∷ []) refl refl refl
needed SameMemoryLength = differs 1 false (dma 1 Read 0x4000 0 ∷ []) refl refl refl
needed SameInterruptsLength = differs 1 false (read 1 ∷ []) refl refl refl
needed SameStateLength = differs 1 false (read 1 ∷ []) refl refl refl
-- requester 0 is PE 0, which has no entry, in the first and PE 1 in the second; both are members
needed SameRequesters = differs 1 true (read 0 ∷ []) refl refl refl
-- PE 0 lists PE 1 in the second, and an error message of PE 0 stops it
needed SamePeers = differs 2 false (Error 0 ∷ read 1 ∷ []) refl refl refl
-- another PCI base in the second
needed SameWindows = differs 0x10000000 false (in_segment 1 ∷ []) refl refl refl
-- the first segment is PE 0's in the first and PE 1's in the second; both are members
needed SameSegments = differs 1 true (in_segment 0 ∷ []) refl refl refl
-- the interrupt is nobody's in the second
needed SameInterruptPe = differs 1 false (signal ∷ []) refl refl refl
-- another server, another priority, and P set in the second
needed SameServer = differs 1 false (signal ∷ []) refl refl refl
needed SamePriority = differs 1 false (signal ∷ []) refl refl refl
needed SameBits = differs 2 false (signal ∷ []) refl refl refl
-- PE 1 is MMIO stopped in the second, or DMA stopped
needed SameMmio = differs 1 false (in_segment 1 ∷ []) refl refl refl
needed SameDma = differs 1 false (read 1 ∷ []) refl refl refl
-- the error record is not empty in the second, so an error message does not write it; a read leaves value and table word as they were
needed SameReason = differs 7 false (Error 1 ∷ []) refl refl refl
needed SameValue = differs 7 false (read 1 ∷ []) refl refl refl
needed SameFailedWord = differs 7 false (read 1 ∷ []) refl refl refl
-- PE 1 has pages of 64 KiB in the second; its second entry, disabled in the first, is a bypass in the second
needed SameFirstEntry = differs 4 false (read 1 ∷ []) refl refl refl
needed SameSecondEntry = differs 1 false (dma 1 Read 0x800000000000000 0 ∷ []) refl refl refl
-- another table word in the second
needed SameTableWord = differs 0x1000 false (read 1 ∷ []) refl refl refl

-- ---- the fatal messages and fence clears of others

pub data Misplaced : Type 0 where
  FatalLeftOut ClearLeftOut AnotherOrder AnotherPlace AnotherKind : Misplaced

pub record Unplaced : Type 0 where
  pub example : Counterexample SamePlaces
  pub same-own : own example.group example.first example.list ≡ own example.group example.second example.other

-- two lists on one bridge, PE 1 being the group
unplaced : (l k : List Request) → own (group false true) (bridge unchanged) l ≡ own (group false true) (bridge (changed SamePlaces 1)) k
    → ltb 0 (length (own (group false true) (bridge unchanged) l)) ≡ true
    → eqb (shown (group false true) (bridge unchanged) l 1) (shown (group false true) (bridge (changed SamePlaces 1)) k 1) ≡ false → Unplaced
unfolding told
unplaced l k e m h = record { example = told 1 false true 1 l k (λ z. refl) (λ z. absurd (omega arith)) m refl h; same-own = e }

pub misplaced : Misplaced → Unplaced
unfolding examples told
-- PE 0 sends a fatal message, or firmware clears the fence, in the first list only
misplaced FatalLeftOut = unplaced (Fatal 0 ∷ read 1 ∷ []) (read 1 ∷ []) refl refl refl
misplaced ClearLeftOut = unplaced (Fatal 0 ∷ FenceClear ∷ read 1 ∷ []) (Fatal 0 ∷ read 1 ∷ []) refl refl refl
-- both do so in both lists, in another order; in one before PE 1's request and in the other after it
misplaced AnotherOrder = unplaced (Fatal 0 ∷ FenceClear ∷ read 1 ∷ []) (FenceClear ∷ Fatal 0 ∷ read 1 ∷ []) refl refl refl
misplaced AnotherPlace = unplaced (Fatal 0 ∷ read 1 ∷ []) (read 1 ∷ Fatal 0 ∷ []) refl refl refl
-- one of each kind, at the same place
misplaced AnotherKind = unplaced (Fatal 0 ∷ read 1 ∷ []) (FenceClear ∷ read 1 ∷ []) refl refl refl

refused-free : places_in (group false true) (bridge unchanged) (Fatal 9 ∷ read 1 ∷ []) ≡ places_in (group false true) (bridge unchanged) (read 1 ∷ [])
unfolding examples
refused-free = refl
