-- Bridges, caches and lists for the witness of demand 3 with edits, and what the group can reach on them.
--     third x, outer x     the memory after the group's tables: a third table at 0x2000, which no word leads to at the start, and the table of PEs 0 and 3 at
--                         0x3000. Word 4 of the third one and the other table are by x
--     words x             the private words of a bridge of `Bridges.bridge`: PEs 0 and 3 have one level, for x = 1 with pages of 4 KiB, for x = 2 of 64 KiB
--     first, second       the two bridges: of `words 1` and of `words 2`; held x: a cache full of x, before it is emptied
--     ask a               PE 2 reads at address a
--     list, other         two lists whose operations with a place are the same: list_before, other_before up to the group's edit; list_after, other_after from it on
--     Answered            what the claim says of two bridges, two caches and two lists
--     upper_below b n m   of the first n words of memory m each one that leads on leads to a table that ends at word b or before
--     away b k m          so all words that the group's walks read are below b, and k is not
--     reads_bound         THE BOUND on what the group's walks read, by that test
--     free-word, own-word an edit of word k is free; it is the group's, since PE 2's walk for some address reads the word
--     same_below b m n    memories m and n have the same first b words
--     fresh-words         what an edit brings into reach is equal, if all below a bound is
--     opened-pair         the names that a computation on them opens
-- Assumes nothing.
use Rattle.std.specs.Prelude.{◌≡◌, Bool, true, false, cond, not, ◌&&◌, ◌||◌, leb, eqb, set, replicate}
use Rattle.std.proofs.Math.Path.{refl}
use mathlib.Core.List.Memᴰ
use mathlib.Core.List.{List, [], ◌∷◌, ◌++◌, Memᴰ}
use Prim.Native.Nat.{ℕ, zero, suc, ◌+◌, ◌-◌, ◌*◌, ◌/◌, ◌%◌, ◌<◌, ◌≤◌}
use Rattle.std.proofs.Common.{arith, leb-true, eqb-true}
use Rattle.kinds.specs.Has.{has}
use Rattle.kinds.proofs.Has.{of_has}
use Rattle.kinds.proofs.Tests.{by_cases, clash, and_left, and_right}
use Rattle.kinds.specs.Words.{at}
use Rattle.kinds.specs.declared.number.ByteAddress.{ByteAddress}
use Rattle.kinds.specs.declared.number.PageNumber.{PageNumber}
use Rattle.kinds.specs.declared.number.PeNumber.{PeNumber}
use Rattle.kinds.specs.declared.record.TranslationEntry.{TranslationEntry}
use Rattle.kinds.specs.declared.request.AddressClass.TheVariants.{Dma}
use Rattle.kinds.specs.declared.request.Direction.TheVariants.{Read}
use Rattle.kinds.specs.declared.request.Operation.{Operation}
use Rattle.kinds.specs.declared.request.Operation.TheVariants.{Plain, Edit, Invalidate}
use Rattle.kinds.specs.declared.request.Part.TheVariants as part
use Rattle.kinds.specs.declared.request.Request.TheVariants.{Clear, Fatal, FenceClear}
use Rattle.kinds.specs.declared.request.Scope.TheVariants as scope
use Rattle.profile.specs.Tables.{entry_words, record_words, state_words}
use Rattle.profile.specs.Entry.{class_of, half, offset, entry, page_of, table_good, paged, walks}
use Rattle.profile.specs.Walk.{place, next_base, leads, walk_from, reads_by, reads}
use Rattle.profile.proofs.WalkLaws.{walk-cases}
use Rattle.profile.specs.Agree.{Reads}
use Rattle.isolation.proofs.Bridges.{Private, group, pe, up_from, table_words, tables, bridge, dma, opened_bridges}
use Rattle.isolation.specs.View.{Bridge, Written}
use Rattle.edits.specs.Edits.{Bare, good, bare_after, Fresh}
use Rattle.edits.specs.Reach.{in_reach}
use Rattle.edits.proofs.ReachLaws.{reach_reads, reads_reach}
use Rattle.cache.specs.Slots.{cache_words}
use Rattle.cache.proofs.Opened.{opened-cache}
use Rattle.cache_claims.specs.Demand.{left, fence, answers}

-- ---- the bridges

unfoldable pub third : ℕ → List ℕ
third x = set (set (replicate table_words 0) 3 0x7003) 4 (0x5003 + 0x1000 * x)

unfoldable pub outer : ℕ → List ℕ
outer x = replicate table_words (0x1110000 * x + 3)

unfoldable pub words : ℕ → Private
words x = record {
  entries = λ k. at (0x3000 ∷ 1 ∷ 1 ∷ (4 * x - 3) ∷ replicate record_words x) (k % entry_words);
  state = λ k. cond (eqb (k % state_words) 1) (x - 1) x;
  interrupts = λ k. x;
  memory = third x ++ outer x;
}

abbrev pub first : Bridge
first = bridge (words 1)

abbrev pub second : Bridge
second = bridge (words 2)

unfoldable pub held : ℕ → List ℕ
held x = replicate cache_words x

-- ---- the lists

abbrev pub ask : (address : ℕ) → Operation
ask a = Plain (dma 2 Read a 0)

-- PE 2 misses and then hits; PE 0 takes its slot, 151, so that it misses again. PEs 0 and 3 edit their table and drop what is theirs
unfoldable pub list_before : List Operation
list_before =
    ask 0x403010
    ∷ Edit 1687 0x3330003
    ∷ ask 0x403010
    ∷ Plain (dma 0 Read 0x97010 0)
    ∷ ask 0x403010
    ∷ Invalidate (scope.Pe 0)
    ∷ Plain (Fatal 3)
    ∷ ask 0x403010
    ∷ Plain FenceClear
    ∷ []

-- the group's edit: word 4 of the upper table then leads to the third one. PE 2 goes through it, and its words are the group's from then on
unfoldable pub list_after : List Operation
list_after =
    Edit 4 0x2001
    ∷ ask 0x804010
    ∷ Edit 1027 0x8003
    ∷ Invalidate scope.All
    ∷ ask 0x803010
    ∷ Invalidate (scope.Pe 2)
    ∷ Edit 2048 7
    ∷ ask 0x403010
    ∷ []

-- word 4 of the third table is made what it is in the first bridge. PE 0 has to be released before its DMA passes; all is dropped where the first list hits
unfoldable pub other_before : List Operation
other_before =
    ask 0x403010
    ∷ Invalidate scope.All
    ∷ ask 0x403010
    ∷ Plain (Clear 0 part.Dma)
    ∷ ask 0x403010
    ∷ Plain (dma 0 Read 0x970010 0)
    ∷ Edit 1028 0x6003
    ∷ Plain (Fatal 0)
    ∷ ask 0x403010
    ∷ Plain FenceClear
    ∷ []

unfoldable pub other_after : List Operation
other_after =
    Edit 4 0x2001
    ∷ Edit 1536 0
    ∷ Invalidate (scope.Pe 3)
    ∷ ask 0x804010
    ∷ Edit 1027 0x8003
    ∷ ask 0x803010
    ∷ Invalidate (scope.Pe 2)
    ∷ ask 0x403010
    ∷ Plain (dma 0 Read 0x970010 0)
    ∷ []

abbrev pub list : List Operation
list = list_before ++ list_after

abbrev pub other : List Operation
other = other_before ++ other_after

abbrev pub Answered : (PeNumber → Bool) → (a b : Bridge) → (c d : List ℕ) → (l k : List Operation) → Type 0
Answered G a b c d l k =
    (answers G a c l ≡ answers G b d k) × Written G a.tables.sizes.interrupts (left a c l).bare.live (left b d k).bare.live
    × (fence a c l ≡ fence b d k)

-- ---- what the group's walks read

unfoldable pub leads_below : (bound word : ℕ) → Bool
leads_below b x = not (leads 9 x) || leb ((next_base x).0 / 8 + table_words) b

unfoldable pub upper_below : (bound count : ℕ) → List ℕ → Bool
upper_below b zero m = true
upper_below b (suc n) [] = true
upper_below b (suc n) (x ∷ m) = leads_below b x && upper_below b n m

word-leads : (b n : ℕ) (m : List ℕ) (k : ℕ) → upper_below b n m ≡ true → k < n → leads_below b (at m k) ≡ true
unfolding upper_below
word-leads b zero m k u h = absurd (omega arith)
word-leads b (suc n) [] k u h = unfold leads_below leads in refl
word-leads b (suc n) (x ∷ m) zero u h = and_left (leads_below b x) (upper_below b n m) u
word-leads b (suc n) (x ∷ m) (suc k) u h = word-leads b n m k (and_right (leads_below b x) (upper_below b n m) u) (omega arith)

leads-end : (b x : ℕ) → leads_below b x ≡ true → leads 9 x ≡ true → (next_base x).0 / 8 + table_words ≤ b
unfolding leads_below
leads-end b x u o = leb-true ((next_base x).0 / 8 + table_words) b (rw o at u)

module _ (m : List ℕ) (b : ℕ) where
  last_bound : (a : ByteAddress) (q : PageNumber) (k : ℕ) → a.0 / 8 + table_words ≤ b → Memᴰ k (walk_from m 1 9 a q).reads → k < b
  last_bound a q k u h = walk-cases m 0 9 a q k h (λ e. omega arith) (λ c y. clash c refl)

  module _ (up : upper_below b table_words m ≡ true) (low : table_words ≤ b) where
    walk_bound : (q : PageNumber) (k : ℕ) → Memᴰ k (walk_from m 2 9 (record { 0 = 0 }) q).reads → k < b
    walk_bound q k h =
        let j = place 1 9 (record { 0 = 0 }) q in
        walk-cases m 1 9 (record { 0 = 0 }) q k h
        (λ e. omega arith)
        (λ o z. last_bound (next_base (at m j)) q k (leads-end b (at m j) (word-leads b table_words m j up (omega arith)) o) z)

    unwalked_bound : (e : TranslationEntry) (o : ByteAddress) (k : ℕ) → walks e o ≡ false → Memᴰ k (reads_by e m o) → k < b
    unfolding reads_by
    unwalked_bound e o k u h = absurd (Memᴰ.not-nil (rw u at h))

    tabled_bound : (o : ByteAddress) (k : ℕ) → Memᴰ k (reads_by (record { base = 0; levels = 2; table = 1; page = 1 }) m o) → k < b
    unfolding reads_by
    tabled_bound o k h =
        let e : TranslationEntry = record { base = 0; levels = 2; table = 1; page = 1 } in
        by_cases (walks e o) (λ t. walk_bound (page_of e o) k (rw t at h)) (λ t. absurd (Memᴰ.not-nil (rw t at h)))

    entry_bound : (w : Private) (p h : ℕ) (o : ByteAddress) (k : ℕ) → p < 4 → group (pe p) ≡ true → h < 2
        → Memᴰ k (reads_by (entry (tables w) (pe p) h) m o) → k < b
    unfolding group up_from tables walks paged table_good
    entry_bound w zero h o k i u j r = clash u refl
    entry_bound w (suc zero) zero o k i u j r = unwalked_bound (record { base = 1; levels = 512; table = 1; page = 0 }) o k refl r
    entry_bound w (suc (suc zero)) zero o k i u j r = tabled_bound o k r
    entry_bound w (suc zero) (suc zero) o k i u j r = unwalked_bound (record { base = 0; levels = 0; table = 0; page = 0 }) o k refl r
    entry_bound w (suc (suc zero)) (suc zero) o k i u j r = unwalked_bound (record { base = 0; levels = 0; table = 0; page = 0 }) o k refl r
    entry_bound w (suc zero) (suc (suc h)) o k i u j r = absurd (omega arith)
    entry_bound w (suc (suc zero)) (suc (suc h)) o k i u j r = absurd (omega arith)
    entry_bound w (suc (suc (suc zero))) h o k i u j r = clash u refl
    entry_bound w (suc (suc (suc (suc p)))) h o k i u j r = absurd (omega arith)

    pub reads_bound : (w : Private) (k : ℕ) → Reads group (tables w) m k → k < b
    reads_bound w k r =
        entry_bound w r.pe.0 (half r.address) (offset r.address) k (let l = r.below in unfold tables in l) r.member (omega arith) r.word

-- ---- whose an edit is

unfoldable pub away : (bound word : ℕ) → List ℕ → Bool
away b k m = leb table_words b && leb b k && upper_below b table_words m

pub free-word : (w : Private) (m : List ℕ) (b k : ℕ) → away b k m ≡ true → in_reach group (tables w) m k ≡ false
unfolding away
free-word w m b k u =
    let low = leb-true table_words b (and_left (leb table_words b) (leb b k) (and_left (leb table_words b && leb b k) (upper_below b table_words m) u)) in
    let high = leb-true b k (and_right (leb table_words b) (leb b k) (and_left (leb table_words b && leb b k) (upper_below b table_words m) u)) in
    by_cases (in_reach group (tables w) m k)
    (λ o. absurd (let z = reads_bound m b (and_right (leb table_words b && leb b k) (upper_below b table_words m) u) low w k (reach_reads m k o) in omega arith))
    (λ o. o)

-- by PE 2's walk for address a
pub own-word : (w : Private) (m : List ℕ) (k a : ℕ) → class_of (record { 0 = a }) ≡ Dma → has k (reads (tables w) m (pe 2) (record { 0 = a })) ≡ true
    → in_reach group (tables w) m k ≡ true
own-word w m k a d h =
    reads_reach (record {
      pe = pe 2;
      member = unfold group in refl;
      below = unfold tables in omega arith;
      address = record { 0 = a };
      dma = d;
      word = of_has k (reads (tables w) m (pe 2) (record { 0 = a })) h;
    })

unfoldable pub same_below : (bound : ℕ) → (m n : List ℕ) → Bool
same_below zero m n = true
same_below (suc b) [] n = false
same_below (suc b) (x ∷ m) [] = false
same_below (suc b) (x ∷ m) (y ∷ n) = eqb x y && same_below b m n

same_word : (b : ℕ) (m n : List ℕ) (k : ℕ) → same_below b m n ≡ true → k < b → at m k ≡ at n k
unfolding same_below
same_word zero m n k e h = absurd (omega arith)
same_word (suc b) [] n k e h = clash e refl
same_word (suc b) (x ∷ m) [] k e h = clash e refl
same_word (suc b) (x ∷ m) (y ∷ n) zero e h = eqb-true x y (and_left (eqb x y) (same_below b m n) e)
same_word (suc b) (x ∷ m) (y ∷ n) (suc k) e h = same_word b m n k (and_right (eqb x y) (same_below b m n) e) (omega arith)

-- memory after an edit is written, or as it was
edit-below : (w : Private) (s : Bare) (k v b : ℕ) → upper_below b table_words (set s.memory k v) ≡ true → upper_below b table_words s.memory ≡ true
    → upper_below b table_words (bare_after (tables w) s (Edit k v)).memory ≡ true
edit-below w s k v b u u' = by_cases (good (tables w) s) (λ o. rw o u) (λ o. rw o u')

pub fresh-words : (w : Private) (s t : Bare) (k v b : ℕ) → table_words ≤ b → upper_below b table_words (set s.memory k v) ≡ true
    → upper_below b table_words s.memory ≡ true → same_below b s.memory t.memory ≡ true → Fresh group (tables w) s t (Edit k v)
fresh-words w s t k v b low u u' e j r n =
    same_word b s.memory t.memory j e (reads_bound (bare_after (tables w) s (Edit k v)).memory b (edit-below w s k v b u u') low w j r)

unfoldable pub opened-pair : Unit {0}
unfolding opened_bridges opened-cache third outer words held list_before list_after other_before other_after leads_below upper_below away same_below
opened-pair = tt
