-- What a walk depends on: its entry, the words at the places that it reads, the length of memory, and nothing else.
--     walk_zero, walk_suc no level, and one level of the walk with the levels below not unfolded
--     goes_on k n w       word w leads on, and there is a level below
--     first_read          the place of a level's word is among those read
--     later-read          so is every place that the level below reads, where the word leads on
--     walk-cases          a place that is read is this level's, or one that the level below reads where the word leads on
--     turn-reads          what a word comes to depends on the level below only where the word leads on
--     walk_from-reads     THE FOOTPRINT: two memories of one length, with the same words at the places that the walk reads in the first, give the
--                         same walk, so the same places
--     walk-reads, reads-reads, translated-reads   the same of the walk by an entry for an offset, of the places read for it, of its translation
--     paged-walkable      a good entry with pages has a table that can be walked; pages-is: where it is walked, that is the translation
--     landed-cases, unwalked-cases    what a walk gives, and what an entry says without one: an address, or a fault of 8 or 15, and of 6 or 7
--     walk-counted        A WALK TO A LAST WORD READS AS MANY WORDS AS THERE ARE LEVELS; pass-counted: so a translation by pages to an address does;
--                         unwalked-counted: and one without a walk reads none
-- Assumes nothing.
use Rattle.kinds.specs.declared.lookup.WalkError.TheVariants.{Forbidden, Outside}
use Rattle.kinds.specs.Lookup.{Found, Translated, frame, fault, forbidden, outside}
use Rattle.std.specs.Prelude.{◌≡◌, refl, Bool, true, false, cond, not, ◌&&◌, ℕ, zero, suc, ◌*◌, ◌^◌, ◌≤◌, leb, ltb, length, Ok, Err}
use Rattle.std.proofs.Common.{ap, mul_comm, arith, le-leb, leb-true}
use mathlib.Core.List.{List, [], ◌∷◌, Memᴰ}
use Rattle.kinds.specs.Number.{word_address, no_word}
use Rattle.kinds.proofs.Tests.{by_cases, cond_cases, clash, and_left, and_right, all_true}
use Rattle.kinds.specs.Words.{at}
use Rattle.kinds.specs.declared.answer.Reason.TheVariants.{BadEntry, OutsideWindow, TableWord, OutsideMemory}
use Rattle.kinds.specs.declared.number.ByteAddress.{ByteAddress}
use Rattle.kinds.specs.declared.number.PageNumber.{PageNumber}
use Rattle.kinds.specs.declared.number.PageSize.{PageSize}
use Rattle.kinds.specs.declared.record.TranslationEntry.{TranslationEntry}
use Rattle.kinds.specs.declared.request.Direction.{Direction}
use Rattle.profile.specs.Entry.{page_size, page_of, index_bits, span, offset_bits, table_good, bypass, bypass_good, in_bypass, page_tests, pages_good, paged, walkable, walks, unwalked, most_table_code}
use Rattle.profile.specs.Walk.{Walked, place, next_base, leads, turn, walk_from, walk, allows, landed, by_pages, translated, reads_by}

pub walk_zero : (m : List ℕ) (n : ℕ) (b : ByteAddress) (q : PageNumber) → walk_from m zero n b q ≡ record { found = forbidden no_word; reads = [] }
unfolding walk_from
walk_zero m n b q = refl

pub walk_suc : (m : List ℕ) (k n : ℕ) (b : ByteAddress) (q : PageNumber) → walk_from m (suc k) n b q
    ≡ cond (ltb (place k n b q) (length m))
    (turn k n (place k n b q) (at m (place k n b q)) (walk_from m k n (next_base (at m (place k n b q))) q))
    (record { found = outside (word_address (place k n b q)); reads = [] })
unfolding walk_from
walk_suc m k n b q = refl

abbrev pub goes_on : (below bits word : ℕ) → Bool
goes_on zero n w = false
goes_on (suc k) n w = leads n w

pub first_read : (k n j w : ℕ) (r : Walked) → Memᴰ j (turn k n j w r).reads
unfolding turn
first_read zero n j w r = mathlib.Core.List.Memᴰ.head refl
first_read (suc k) n j w r = by_cases (leads n w) (λ o. rw o (mathlib.Core.List.Memᴰ.head refl)) (λ o. rw o (mathlib.Core.List.Memᴰ.head refl))

pub later-read : (k n j w : ℕ) (r : Walked) → goes_on k n w ≡ true → (i : ℕ) → Memᴰ i r.reads → Memᴰ i (turn k n j w r).reads
unfolding turn
later-read zero n j w r o i h = clash o refl
later-read (suc k) n j w r o i h = rw o (mathlib.Core.List.Memᴰ.tail h)

pub turn-reads : (k n j w : ℕ) (r q : Walked) → (goes_on k n w ≡ true → r ≡ q) → turn k n j w r ≡ turn k n j w q
unfolding turn
turn-reads zero n j w r q h = refl
turn-reads (suc k) n j w r q h = by_cases (leads n w) (λ o. rw (h o)) (λ o. rw o)

-- one place, or another
mem_cases : {P : Type 0} {i j : ℕ} {l : List ℕ} → Memᴰ i (j ∷ l) → (i ≡ j → P) → (Memᴰ i l → P) → P
mem_cases (mathlib.Core.List.Memᴰ.head e) f g = f e
mem_cases (mathlib.Core.List.Memᴰ.tail h) f g = g h

turn-cases : {P : Type 0} (k n j w : ℕ) (r : Walked) (i : ℕ) → Memᴰ i (turn k n j w r).reads
    → (i ≡ j → P) → (goes_on k n w ≡ true → Memᴰ i r.reads → P) → P
unfolding turn
turn-cases zero n j w r i h f g = mem_cases h f (λ z. absurd (mathlib.Core.List.Memᴰ.not-nil z))
turn-cases (suc k) n j w r i h f g =
    by_cases (leads n w)
    (λ o. mem_cases (rw o at h) f (λ z. g o z))
    (λ o. mem_cases (rw o at h) f (λ z. absurd (mathlib.Core.List.Memᴰ.not-nil z)))

pub walk-cases : {P : Type 0} (m : List ℕ) (k n : ℕ) (b : ByteAddress) (q : PageNumber) (i : ℕ) → Memᴰ i (walk_from m (suc k) n b q).reads
    → (i ≡ place k n b q → P)
    → (goes_on k n (at m (place k n b q)) ≡ true → Memᴰ i (walk_from m k n (next_base (at m (place k n b q))) q).reads → P)
    → P
walk-cases m k n b q i h f g =
    let j = place k n b q in
    let below = walk_from m k n (next_base (at m j)) q in
    let z : Memᴰ i (cond (ltb j (length m)) (turn k n j (at m j) below) (record { found = outside (word_address j); reads = [] })).reads = rw (walk_suc m k n b q) at h in
    by_cases (ltb j (length m))
    (λ o. turn-cases k n j (at m j) below i (rw o at z) f g)
    (λ o. absurd (mathlib.Core.List.Memᴰ.not-nil (rw o at z)))

module _ (m m' : List ℕ) (same_length : length m ≡ length m') where
  pub walk_from-reads : (l n : ℕ) (b : ByteAddress) (q : PageNumber)
      → ((k : ℕ) → Memᴰ k (walk_from m l n b q).reads → at m k ≡ at m' k)
      → walk_from m l n b q ≡ walk_from m' l n b q
  walk_from-reads zero n b q h = rw (walk_zero m n b q, walk_zero m' n b q)
  walk_from-reads (suc k) n b q h =
      let j = place k n b q in
      let below = walk_from m k n (next_base (at m j)) q in
      rw (walk_suc m k n b q, walk_suc m' k n b q, ← same_length)
      (by_cases (ltb j (length m))
      (λ o. let w : at m j ≡ at m' j = h j (rw (walk_suc m k n b q, o) (first_read k n j (at m j) below)) in
      rw (o, ← w)
      (turn-reads k n j (at m j) below (walk_from m' k n (next_base (at m j)) q)
      (λ p. walk_from-reads k n (next_base (at m j)) q
      (λ i z. h i (rw (walk_suc m k n b q, o) (later-read k n j (at m j) below p i z))))))
      (λ o. rw o))

  module _ (e : TranslationEntry) (o : ByteAddress) (same-words : (k : ℕ) → Memᴰ k (reads_by e m o) → at m k ≡ at m' k) where
    pub walk-reads : walks e o ≡ true → walk m e (page_of e o) ≡ walk m' e (page_of e o)
    walk-reads t = walk_from-reads e.levels (index_bits e) (record { 0 = e.base }) (page_of e o) (λ k h. same-words k (unfold reads_by in rw t h))

    pub reads-reads : reads_by e m o ≡ reads_by e m' o
    unfolding reads_by
    reads-reads = by_cases (walks e o) (λ t. rw (t, walk-reads t)) (λ t. rw t)

    pub translated-reads : (d : Direction) → translated m e d o ≡ translated m' e d o
    unfolding translated
    translated-reads d = by_cases (walks e o) (λ t. rw (t, walk-reads t)) (λ t. rw t)

-- ---- the count of a pass

-- a fault of a walk is not a last word
forbidden_frame : {P : Type 0} {i j : ByteAddress} {x : ℕ} → forbidden i ≡ frame j x → P
forbidden_frame e = absurd (let z : ◌≡◌ {A = ℕ} 0 1 = cc in omega arith)

outside_frame : {P : Type 0} {i j : ByteAddress} {x : ℕ} → outside i ≡ frame j x → P
outside_frame e = absurd (let z : ◌≡◌ {A = ℕ} 0 1 = cc in omega arith)

turn-counted : (k n j w : ℕ) (i : ByteAddress) (x : ℕ) (r : Walked) → (r.found ≡ frame i x → length r.reads ≡ k) → (turn k n j w r).found ≡ frame i x
    → length (turn k n j w r).reads ≡ suc k
unfolding turn
turn-counted zero n j w i x r h e = refl
turn-counted (suc k) n j w i x r h e =
    by_cases (leads n w) (λ o. rw o (ap suc (h (rw o at e)))) (λ o. forbidden_frame (rw o at e))

pub walk-counted : (m : List ℕ) (l n : ℕ) (b : ByteAddress) (q : PageNumber) (i : ByteAddress) (x : ℕ) → (walk_from m l n b q).found ≡ frame i x
    → length (walk_from m l n b q).reads ≡ l
walk-counted m zero n b q i x e = rw (walk_zero m n b q)
walk-counted m (suc k) n b q i x e =
    let j = place k n b q in
    let below = walk_from m k n (next_base (at m j)) q in
    let y : (cond (ltb j (length m)) (turn k n j (at m j) below) (record { found = outside (word_address j); reads = [] })).found ≡ frame i x =
    rw (walk_suc m k n b q) at e in
    rw (walk_suc m k n b q)
    (by_cases (ltb j (length m))
    (λ o. rw o (turn-counted k n j (at m j) i x below (walk-counted m k n (next_base (at m j)) q i x) (rw o at y)))
    (λ o. outside_frame (rw o at y)))

-- only a last word lands at an address
pub landed-cases : (P : Translated → Type 0) → ((a : ByteAddress) → P (Ok a)) → ((w : ByteAddress) → P (fault TableWord w)) → ((w : ByteAddress) → P (fault OutsideMemory w))
    → (s : PageSize) (d : Direction) (o : ByteAddress) (f : Found) → P (landed s d o f)
unfolding landed
landed-cases P to forbids missing s d o (Ok x) = cond_cases P (allows d x.content) (to _) (forbids x.word)
landed-cases P to forbids missing s d o (Err (Forbidden j)) = forbids j
landed-cases P to forbids missing s d o (Err (Outside j)) = missing j

pub unwalked-cases : (P : Translated → Type 0) → ((a : ByteAddress) → P (Ok a)) → P (fault BadEntry no_word) → P (fault OutsideWindow no_word)
    → (e : TranslationEntry) (o : ByteAddress) → P (unwalked e o)
unfolding unwalked
unwalked-cases P to bad outside e o =
    cond_cases P (table_good e)
    (cond_cases P (bypass e) (cond_cases P (bypass_good e) (cond_cases P (in_bypass e o) (to o) outside) bad) (cond_cases P (pages_good e) outside bad))
    bad

landed_frame : {P : Type 0} (s : PageSize) (d : Direction) (o : ByteAddress) (f : Found) (t : ByteAddress) → landed s d o f ≡ Ok t
    → ((j : ByteAddress) (x : ℕ) → f ≡ frame j x → P) → P
unfolding landed
landed_frame s d o (Ok x) t e g = g x.word x.content refl
landed_frame s d o (Err (Forbidden j)) t e g = absurd (let z : ◌≡◌ {A = ℕ} 0 1 = cc in omega arith)
landed_frame s d o (Err (Outside j)) t e g = absurd (let z : ◌≡◌ {A = ℕ} 0 1 = cc in omega arith)

module _ (m : List ℕ) (e : TranslationEntry) (d : Direction) (o : ByteAddress) where
  pub pass-counted : walks e o ≡ true → (t : ByteAddress) → (translated m e d o).result ≡ Ok t → length (translated m e d o).reads ≡ e.levels
  unfolding translated
  pass-counted w t h =
      rw w
      (landed_frame (page_size e) d o (walk m e (page_of e o)).found t (rw w at h)
      (λ j x f. walk-counted m e.levels (index_bits e) (record { 0 = e.base }) (page_of e o) j x f))

  pub unwalked-counted : walks e o ≡ false → translated m e d o ≡ record { result = unwalked e o; reads = [] }
  unfolding translated
  unwalked-counted w = rw w

-- ---- a table that is walked can be walked

span_bits : (e : TranslationEntry) → span e ≤ offset_bits → index_bits e * e.levels ≤ offset_bits
unfolding span
span_bits e h = omega (arith, mul_comm (index_bits e) e.levels)

pub paged-walkable : (e : TranslationEntry) → paged e ≡ true → walkable e ≡ true
unfolding paged walkable table_good pages_good
paged-walkable e t =
    let good = and_right (table_good e && not (bypass e)) (pages_good e) t in
    let table = and_left (table_good e) (not (bypass e)) (and_left (table_good e && not (bypass e)) (pages_good e) t) in
    rw (and_right (leb 1 e.table) (leb e.table most_table_code) table, all_true (page_tests e) 2 good, all_true (page_tests e) 3 good)
    (rw (le-leb (index_bits e * e.levels) offset_bits (span_bits e (leb-true (span e) offset_bits (all_true (page_tests e) 4 good)))))

module _ (m : List ℕ) (e : TranslationEntry) (o : ByteAddress) (w : walks e o ≡ true) where
  walks-walkable : walkable e ≡ true
  unfolding walks
  walks-walkable = paged-walkable e (and_left (paged e) (ltb o.0 (2 ^ span e)) w)

  pub pages-is : (d : Direction) → by_pages m e d o ≡ translated m e d o
  unfolding by_pages translated
  pages-is d = rw (w, walks-walkable)
