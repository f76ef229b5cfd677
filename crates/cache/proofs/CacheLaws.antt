-- The bridge with a cache answers as the bridge without one, once the cache is right.
--     Right f m ..        the words of a full slot are right: they name an entry with a page table, and the walk of that page finds the word now
--     Sound f m c         THE INVARIANT: the cache has its length, and each full slot is right
--     looked-same         a hit is answered as the walk would be, its count too; hit_word: its word is the one that the walk finds
--     sweep_sound         any sweep keeps the invariant, over any memory in which the walks of the pages that stay are the same
--     edit_sound          so an edit that drops what goes through its word does
--     filled_sound        and a fill; emptied_sound: a cache of the right length that is emptied is sound, whatever it held
--     Fine f x            the invariant, of a bridge with its cache
--     runs                THE SIMULATION: the bridge with a cache runs as the one without
--     Known f x, checked-known    a walk is of a PE below N, by the entry of it that the address picks, which has a page table
-- Assumes nothing.
use Rattle.kinds.specs.declared.lookup.WalkError.TheVariants.{Forbidden, Outside}
use Rattle.kinds.specs.Lookup.{Found, frame}
use Rattle.std.specs.Prelude.{◌≡◌, Bool, true, false, ◌&&◌, List, ℕ, ◌+◌, ◌*◌, ◌-◌, ◌<◌, ◌^◌, ltb, eqb, length, set, Ok, Err}
use Rattle.std.proofs.Math.Path.{refl, subst}
use Rattle.std.proofs.Common.{sym, ap, ◌∙◌, length-set}
use native.Mathlib.Omega.{arith}
use Rattle.std.proofs.Math.Seq.{set_out}
use borrow.Author.Tests.{eqb-true, eqb-false, ne_eqb, lt-ltb, ltb-false}
use Rattle.kinds.specs.declared.outcome.Check.{Check}
use Rattle.kinds.specs.declared.outcome.Check.TheVariants.{Kept, Ready, Walk, Fences}
use Rattle.kinds.specs.Has.{has}
use Rattle.kinds.proofs.Has.{has_of}
use Rattle.kinds.specs.Number.{no_word}
use Rattle.kinds.proofs.Tests.{by_cases, clash, and_left, and_right}
use Rattle.kinds.proofs.WordsLaws.{at_set}
use Rattle.kinds.specs.declared.number.ByteAddress.{ByteAddress}
use Rattle.kinds.specs.declared.number.PageNumber.{PageNumber}
use Rattle.kinds.specs.declared.number.PageSize.{PageSize}
use Rattle.kinds.specs.declared.number.PeNumber.{PeNumber}
use Rattle.kinds.specs.declared.outcome.Outcome.{Outcome}
use Rattle.kinds.specs.declared.record.TranslationEntry.{TranslationEntry}
use Rattle.kinds.specs.declared.request.Direction.{Direction}
use Rattle.kinds.specs.declared.request.DmaRequest.{DmaRequest}
use Rattle.kinds.specs.declared.request.Operation.{Operation}
use Rattle.kinds.specs.declared.request.Operation.TheVariants.{Plain, Edit, Invalidate}
use Rattle.kinds.specs.declared.request.Request.{Request}
use Rattle.kinds.specs.declared.request.Scope.TheVariants as scope
use Rattle.profile.specs.Tables.{Tables, Live}
use Rattle.profile.specs.Owner.{owner}
use Rattle.profile.proofs.OwnerLaws.{Below, owner-below}
use Rattle.profile.specs.Entry.{half, offset, entry, page_size, index_bits, span, paged, walks}
use Rattle.profile.specs.Walk.{walk, walked_page, allows, landed, by_pages}
use Rattle.profile.proofs.WalkLaws.{walk_from-reads, walk-counted, paged-walkable}
use Rattle.profile.proofs.RequestLaws.{Walkable, checked-walks, Placed, checked-owner}
use Rattle.profile.specs.Step.{last_test, outcome_of, reached, finish, act_by, checked_on}
use Rattle.isolation.specs.Machine.{Runs}
use Rattle.edits.specs.Edits.{good, nameable, checked_by, leaves_by, bare_answer, bare_after, bare_machine}
use Rattle.cache.specs.Slots.{cache_words, slot_count, tag_of, half_of, page_of_slot, word_of, holds, put, Test, dropped, sweep}
use Rattle.cache.proofs.SlotsLaws.{put-away, length_put, put_tag, put-half, put-page, put_word, held_tag, held-half, held-page, slot-low, length_sweep, gone, kept, swept}
use Rattle.cache.specs.Cache.{page_for, slot_for, word_for, is_hit, found_by, looked, is_pass, content, filled, tagged, tabled, through, names, Cached, fit, finish_of, cache_by, cached_answer, cached_after, cached_machine}

pub record Right (f : Tables) (m : List ℕ) (tag half page word : ℕ) : Type 0 where
  pub table : tabled f tag half ≡ true
  pub at_place : ByteAddress
  pub found : (walk m (entry f (tagged tag) half) (record { 0 = page })).found ≡ frame at_place word

pub record Sound (f : Tables) (m c : List ℕ) : Type 0 where
  pub long : length c ≡ cache_words
  pub right : (j : ℕ) → (tag_of c j ≡ 0 → ⊥) → Right f m (tag_of c j) (half_of c j) (page_of_slot c j) (word_of c j)

-- ---- what is known of a walk

abbrev pub Known : Tables → Check → Type 0
Known f (Kept a) = Unit {0}
Known f (Ready p o) = Unit {0}
Known f (Walk p e q) = (p.0 < f.sizes.pes) × (e ≡ entry f p (half q.address)) × (paged e ≡ true)
Known f (Fences b) = Unit {0}

walks-paged : (e : TranslationEntry) (o : ByteAddress) → walks e o ≡ true → paged e ≡ true
unfolding walks
walks-paged e o w = and_left (paged e) (ltb o.0 (2 ^ span e)) w

pub checked-known : (f : Tables) (n : ℕ) (s : Live) (q : Request) (x : Check) → checked_on f n s q ≡ x → Known f x
checked-known f n s q (Kept a) h = tt
checked-known f n s q (Ready p o) h = tt
checked-known f n s q (Walk p e d) h =
    let o : owner f s q ≡ Ok p = subst (Placed (owner f s q)) h (checked-owner f.sizes f.installed f.requesters f.entries f.windows f.segments s _ q) in
    let low : Below f.sizes.pes (Ok p) = subst (Below f.sizes.pes) o (owner-below f s q) in
    let k : Walkable f p (Walk p e d) = subst (Walkable f p) h (checked-walks f n s q p o) in
    (low, k.1, rw k.1 (walks-paged (entry f p (half d.address)) (offset d.address) k.3))
checked-known f n s q (Fences b) h = tt

-- ---- a hit is answered as the walk would be

-- a word that allows the direction lands the same wherever it stands
landed-place : (s : PageSize) (d : Direction) (o a b : ByteAddress) (w : ℕ) → allows d w ≡ true → landed s d o (frame a w) ≡ landed s d o (frame b w)
unfolding landed
landed-place s d o a b w u = rw u

module _ (f : Tables) (m c : List ℕ) (s : Sound f m c) where
  right-found : (i : ℕ) (p : PeNumber) (h : ℕ) (q : PageNumber) → tag_of c i ≡ p.0 + 1 → half_of c i ≡ h → page_of_slot c i ≡ q.0
      → Right f m (tag_of c i) (half_of c i) (page_of_slot c i) (word_of c i) → (a : ByteAddress) × ((walk m (entry f p h) q).found ≡ frame a (word_of c i))
  right-found i p h q t u v r =
      let z : tag_of c i - 1 ≡ p.0 = omega arith in (r.at_place, rw (z, u, v) at r.found)

  -- the word of a slot that holds a page is found by its walk
  held_found : (i : ℕ) (p : PeNumber) (h : ℕ) (q : PageNumber) → holds c i p h q ≡ true
      → (a : ByteAddress) × ((walk m (entry f p h) q).found ≡ frame a (word_of c i))
  held_found i p h q o =
      let t = held_tag c i p h q o in
      right-found i p h q t (held-half c i p h q o) (held-page c i p h q o) (s.right i (λ z. let y : p.0 + 1 ≡ 0 = sym t ∙ z in absurd (omega arith)))

  module _ (i : ℕ) (p : PeNumber) (e : TranslationEntry) (q : DmaRequest) (known : Known f (Walk p e q)) where
    -- the walk, where the slot has its page
    hit_found : is_hit c p e q ≡ true → (a : ByteAddress) × ((walk m e (page_for e q)).found ≡ frame a (word_for c p e q))
    unfolding is_hit
    hit_found o =
        let h = half q.address in
        subst (λ (x : TranslationEntry). (a : ByteAddress) × ((walk m x (page_for e q)).found ≡ frame a (word_for c p e q))) (sym known.1)
        (held_found (slot_for p e q) p h (page_for e q) (and_left (holds c (slot_for p e q) p h (page_for e q)) (allows q.direction (word_for c p e q)) o))

    hit_allows : is_hit c p e q ≡ true → allows q.direction (word_for c p e q) ≡ true
    unfolding is_hit
    hit_allows o = and_right (holds c (slot_for p e q) p (half q.address) (page_for e q)) (allows q.direction (word_for c p e q)) o

    hit_same : is_hit c p e q ≡ true → found_by i p e q (frame no_word (word_for c p e q)) e.levels ≡ finish i m (Walk p e q)
    unfolding found_by finish by_pages
    hit_same o =
        let w = hit_found o in
        let u = offset q.address in
        rw (
          paged-walkable e known.2,
          w.1,
          walk-counted m e.levels (index_bits e) (record { 0 = e.base }) (page_for e q) w.0 (word_for c p e q) w.1,
          landed-place (page_size e) q.direction u no_word w.0 (word_for c p e q) (hit_allows o),
        )

  -- the word of a hit is the one that the walk finds
  pub hit_word : (p : PeNumber) (e : TranslationEntry) (q : DmaRequest) → Known f (Walk p e q) → is_hit c p e q ≡ true
      → word_for c p e q ≡ content (walked_page m e (page_for e q)).found
  hit_word p e q k o =
      let w = hit_found 0 p e q k o in
      let u : (walked_page m e (page_for e q)).found ≡ (walk m e (page_for e q)).found = rw (paged-walkable e k.2) in
      sym (ap content (u ∙ w.1))

  pub looked-same : (i : ℕ) (x : Check) → Known f x → finish i m (looked i c x) ≡ finish i m x
  unfolding looked
  looked-same i (Kept a) k = refl
  looked-same i (Ready p o) k = refl
  looked-same i (Walk p e q) k = by_cases (is_hit c p e q) (λ o. rw o (unfold finish in hit_same i p e q k o)) (λ o. rw o)
  looked-same i (Fences b) k = refl

-- ---- what keeps the invariant

pub sweep_sound : (f : Tables) (m n c : List ℕ) → Sound f m c → (d : Test)
    → ((j : ℕ) → (tag_of c j ≡ 0 → ⊥) → dropped d c j ≡ false → Right f m (tag_of c j) (half_of c j) (page_of_slot c j) (word_of c j)
    → Right f n (tag_of c j) (half_of c j) (page_of_slot c j) (word_of c j))
    → Sound f n (sweep d c)
sweep_sound f m n c s d h = record {
  long = length_sweep d c ∙ s.long;
  right = λ j full.
      by_cases (dropped d c j)
      (λ o. absurd (full (gone d c j o (j * 4) (omega arith))))
      (λ o. let k0 : tag_of (sweep d c) j ≡ tag_of c j = kept d c j o (j * 4) (omega arith) in
      let k1 : half_of (sweep d c) j ≡ half_of c j = kept d c j o (j * 4 + 1) (omega arith) in
      let k2 : page_of_slot (sweep d c) j ≡ page_of_slot c j = kept d c j o (j * 4 + 2) (omega arith) in
      let k3 : word_of (sweep d c) j ≡ word_of c j = kept d c j o (j * 4 + 3) (omega arith) in
      let z : tag_of c j ≡ 0 → ⊥ = λ u. full (k0 ∙ u) in
      rw (k0, k1, k2, k3) (h j z o (s.right j z)));
}

-- a slot that an edit does not drop is walked as before
edit-right : (f : Tables) (m : List ℕ) (k v tag half page word : ℕ) → through f m k tag half page ≡ false → Right f m tag half page word
    → Right f (set m k v) tag half page word
unfolding through
edit-right f m k v tag half page word o r =
    let x = entry f (tagged tag) half in
    let y : has k (walk m x (record { 0 = page })).reads ≡ false = rw r.table at o in
    let same = walk_from-reads m (set m k v) (sym (length-set m k v)) x.levels (index_bits x) (record { 0 = x.base }) (record { 0 = page })
    (λ i h. rw (at_set, ne_eqb i k (λ q. clash (has_of (rw q at h)) y))) in
    record { table = r.table; at_place = r.at_place; found = rw (← same) r.found }

not_dropped : (d : Test) (c : List ℕ) (j : ℕ) → (tag_of c j ≡ 0 → ⊥) → dropped d c j ≡ false → d (tag_of c j) (half_of c j) (page_of_slot c j) ≡ false
unfolding dropped
not_dropped d c j full o = rw (ne_eqb (tag_of c j) 0 full) at o

pub edit_sound : (f : Tables) (m c : List ℕ) → Sound f m c → (k v : ℕ) → Sound f (set m k v) (sweep (through f m k) c)
edit_sound f m c s k v =
    sweep_sound f m (set m k v) c s (through f m k)
    (λ j full o r. edit-right f m k v (tag_of c j) (half_of c j) (page_of_slot c j) (word_of c j) (not_dropped (through f m k) c j full o) r)

put_sound : (f : Tables) (m c : List ℕ) → Sound f m c → (i : ℕ) (p : PeNumber) (h : ℕ) (q : PageNumber) (x : ℕ) → i < slot_count
    → Right f m (p.0 + 1) h q.0 x → Sound f m (put c i p h q x)
put_sound f m c s i p h q x b r =
    let room : i * 4 + 3 < length c = rw s.long (omega arith) in
    record {
      long = length_put c i p h q x ∙ s.long;
      right = λ j full.
          by_cases (eqb j i)
          (λ o. rw (eqb-true j i o) (rw (put_tag c i p h q x room, put-half c i p h q x room, put-page c i p h q x room, put_word c i p h q x room) r))
          (λ o. let w = eqb-false j i o in
          let k0 : tag_of (put c i p h q x) j ≡ tag_of c j = put-away c i p h q x (j * 4) (λ z. w (omega arith)) in
          let k1 : half_of (put c i p h q x) j ≡ half_of c j = put-away c i p h q x (j * 4 + 1) (λ z. w (omega arith)) in
          let k2 : page_of_slot (put c i p h q x) j ≡ page_of_slot c j = put-away c i p h q x (j * 4 + 2) (λ z. w (omega arith)) in
          let k3 : word_of (put c i p h q x) j ≡ word_of c j = put-away c i p h q x (j * 4 + 3) (λ z. w (omega arith)) in
          rw (k0, k1, k2, k3) (s.right j (λ u. full (k0 ∙ u))));
    }

-- a walk that passes found a last word
pass_frame : (i : ℕ) (p : PeNumber) (q : DmaRequest) (s : PageSize) (x : Found) (n : ℕ)
    → is_pass (reached i p q (landed s q.direction (offset q.address) x) n).answer ≡ true → (a : ByteAddress) × (x ≡ frame a (content x))
unfolding landed
pass_frame i p q s (Ok x) n o = (x.word, refl)
pass_frame i p q s (Err (Forbidden a)) n o = clash o (unfold last_test outcome_of in refl)
pass_frame i p q s (Err (Outside a)) n o = clash o (unfold last_test outcome_of in refl)

module _ (f : Tables) (m c : List ℕ) (s : Sound f m c) (i : ℕ) (p : PeNumber) (e : TranslationEntry) (q : DmaRequest) (known : Known f (Walk p e q)) where
  passed_frame : is_pass (finish i m (Walk p e q)).answer ≡ true → (a : ByteAddress) × ((walked_page m e (page_for e q)).found ≡ frame a (content (walked_page m e (page_for e q)).found))
  unfolding finish by_pages
  passed_frame o = pass_frame i p q (page_size e) (walked_page m e (page_for e q)).found _ o

  known-tabled : tabled f (p.0 + 1) (half q.address) ≡ true
  unfolding tabled
  known-tabled =
      let z : p.0 + 1 - 1 ≡ p.0 = omega arith in
      rw (z, lt-ltb p.0 f.sizes.pes known.0, lt-ltb (half q.address) 2 (omega arith), ← known.1) known.2

  walked : (walked_page m e (page_for e q)).found ≡ (walk m e (page_for e q)).found
  walked = rw (paged-walkable e known.2)

  walk-right : is_pass (finish i m (Walk p e q)).answer ≡ true
      → Right f m (p.0 + 1) (half q.address) (page_for e q).0 (content (walked_page m e (page_for e q)).found)
  walk-right o =
      let w = passed_frame o in
      record {
        table = known-tabled;
        at_place = w.0;
        found = let z : p.0 + 1 - 1 ≡ p.0 = omega arith in
            rw z (subst (λ (x : TranslationEntry). (walk m x (page_for e q)).found ≡ frame w.0 (content (walked_page m e (page_for e q)).found)) known.1 (sym walked ∙ w.1));
      }

  pub walk_sound : Sound f m (filled i m c (Walk p e q))
  unfolding filled
  walk_sound =
      let h = half q.address in
      by_cases (is_pass (finish i m (Walk p e q)).answer)
      (λ o. rw o (put_sound f m c s (slot_for p e q) p h (page_for e q) (content (walked_page m e (page_for e q)).found) (slot-low p h (page_for e q)) (walk-right o)))
      (λ o. rw o s)

pub filled_sound : (f : Tables) (m c : List ℕ) → Sound f m c → (i : ℕ) (x : Check) → Known f x → Sound f m (filled i m c (looked i c x))
unfolding looked
filled_sound f m c s i (Kept a) k = unfold filled in s
filled_sound f m c s i (Ready p o) k = unfold filled in s
filled_sound f m c s i (Walk p e q) k = by_cases (is_hit c p e q) (λ o. rw o (unfold filled in s)) (λ o. rw o (walk_sound f m c s i p e q k))
filled_sound f m c s i (Fences b) k = unfold filled in s

pub emptied_sound : (f : Tables) (m c : List ℕ) → length c ≡ cache_words → Sound f m (sweep (names f scope.All) c)
unfolding names
emptied_sound f m c e = record {
  long = length_sweep (names f scope.All) c ∙ e;
  right = λ j full. clash refl (not_dropped (names f scope.All) (sweep (names f scope.All) c) j full (swept (names f scope.All) c j));
}

-- ---- the bridge with a cache runs as the bridge without one

abbrev pub Fine : Tables → Cached → Type 0
Fine f x = Sound f x.bare.memory x.cache

module _ (f : Tables) (x : Cached) (s : Fine f x) where
  pub fit-good : fit f x ≡ good f x.bare
  fit-good = rw s.long

  known : (q : Request) → Known f (checked_by (good f x.bare) f x.bare.live q)
  known q = checked-known f (length x.bare.memory) x.bare.live q (checked_by (good f x.bare) f x.bare.live q) refl

  finishes : (q : Request) → finish_of f x (checked_by (good f x.bare) f x.bare.live q) ≡ finish f.installed x.bare.memory (checked_by (good f x.bare) f x.bare.live q)
  finishes q = looked-same f x.bare.memory x.cache s f.installed (checked_by (good f x.bare) f x.bare.live q) (known q)

  pub answers-same : (q : Operation) → cached_answer f x q ≡ bare_answer f x.bare q
  answers-same (Plain q) = rw fit-good (ap (λ (o : Outcome). o.answer) (finishes q))
  answers-same (Edit k v) = rw fit-good
  answers-same (Invalidate n) = rw fit-good

  leaves-same : (q : Operation) → leaves_by (fit f x) (finish_of f x) f x.bare q ≡ bare_after f x.bare q
  leaves-same (Plain q) =
      rw fit-good
      (ap (λ (o : Outcome). record { memory = x.bare.memory; live = act_by f (owner f x.bare.live q) o.effect x.bare.live }) (finishes q))
  leaves-same (Edit k v) = rw fit-good
  leaves-same (Invalidate n) = refl

  stays_fine : (q : Operation) → Fine f (cached_after f x q)
  unfolding cache_by
  stays_fine (Plain q) =
      rw fit-good (filled_sound f x.bare.memory x.cache s f.installed (checked_by (good f x.bare) f x.bare.live q) (known q))
  stays_fine (Edit k v) =
      by_cases (fit f x)
      (λ o. rw o (by_cases (ltb k (length x.bare.memory))
      (λ p. rw p (edit_sound f x.bare.memory x.cache s k v))
      (λ p. rw (p, set_out x.bare.memory k v (ltb-false k (length x.bare.memory) p)) s)))
      (λ o. rw o s)
  stays_fine (Invalidate n) =
      by_cases (fit f x && nameable f.sizes.pes n)
      (λ p. rw p (sweep_sound f x.bare.memory x.bare.memory x.cache s (names f n) (λ j full o r. r)))
      (λ p. rw p s)

pub runs : (G : PeNumber → Bool) (f : Tables) → Runs (cached_machine G f) (bare_machine G f) (λ x. x.bare) (Fine f)
runs G f = record {
  answers = λ x i q. answers-same f x i q;
  owns = λ x i q. refl;
  moves = λ x i q. leaves-same f x i q;
  stays = λ x i q. stays_fine f x i q;
}
