-- What a slot holds, from what each operation leaves.
--     contents            THE THEOREM
--     used_found          where the cache is sound, the word that is used is the one that the walk finds
-- Assumes nothing.
use Rattle.std.specs.Prelude.{◌≡◌, Bool, cond, ◌&&◌, List, [], ◌∷◌, ℕ, ◌+◌, ◌*◌, ◌<◌, ltb, eqb}
use Rattle.std.proofs.Math.Path.{refl}
use Rattle.std.proofs.Common.{sym, ap, ◌∙◌, arith, eqb-true}
use Rattle.std.proofs.Math.Bool.{true, false}
use Rattle.std.proofs.Math.Option.{Option, none, some}
use Rattle.std.proofs.Math.ListN.{length}
use Rattle.std.proofs.lemmas.Bool.{eqb-false}
use Rattle.kinds.specs.Answer.{refuse, is_done}
use Rattle.kinds.specs.declared.outcome.Check.{Check}
use Rattle.kinds.specs.declared.outcome.Check.TheVariants.{Kept, Ready, Walk, Fences}
use Rattle.kinds.proofs.Tests.{by_cases, and_left, option_cases}
use Rattle.kinds.specs.declared.answer.Reason.TheVariants.{TableLength}
use Rattle.kinds.specs.declared.number.PageNumber.{PageNumber}
use Rattle.kinds.specs.declared.number.PeNumber.{PeNumber}
use Rattle.kinds.specs.declared.record.TranslationEntry.{TranslationEntry}
use Rattle.kinds.specs.declared.request.DmaRequest.{DmaRequest}
use Rattle.kinds.specs.declared.request.Operation.{Operation}
use Rattle.kinds.specs.declared.request.Operation.TheVariants.{Plain, Edit, Invalidate}
use Rattle.kinds.specs.declared.request.Request.{Request}
use Rattle.kinds.specs.declared.request.Scope.{Scope}
use Rattle.profile.specs.Entry.{half}
use Rattle.profile.specs.Step.{finish, checked}
use Rattle.profile.specs.Tables.{Tables}
use Rattle.profile.specs.Walk.{walked_page, allows}
use Rattle.isolation.specs.Machine.{end}
use Rattle.edits.specs.Edits.{good, nameable, checked_by, edit_answer, invalidate_answer}
use Rattle.cache.specs.Slots.{cache_words, slot_words, tag_of, half_of, page_of_slot, word_of, holds, put, Test, dropped, sweep}
use Rattle.cache.proofs.SlotsLaws.{put-away, put_tag, put-half, put-page, put_word, put_same, slot-low, gone, kept, swept}
use Rattle.cache.proofs.CacheLaws.{Sound, Known, hit_word}
use Rattle.cache.specs.Cache.{page_for, slot_for, word_for, is_hit, looked, cached_finish, is_pass, content, filled, through, names, Cached, fit, finish_of, cache_by, cached_answer, cached_after}
use Rattle.cache.specs.Contents.{slot_at, word_used, passes, fill_at, zeros, slot_event, slot_events, latest, Contents}

-- ---- what a request leaves

hit_holds : (c : List ℕ) (p : PeNumber) (e : TranslationEntry) (q : DmaRequest) → is_hit c p e q ≡ true → holds c (slot_for p e q) p (half q.address) (page_for e q) ≡ true
unfolding is_hit
hit_holds c p e q o = and_left (holds c (slot_for p e q) p (half q.address) (page_for e q)) (allows q.direction (word_for c p e q)) o

module _ (i : ℕ) (m c : List ℕ) (p : PeNumber) (e : TranslationEntry) (q : DmaRequest) where
  filled-pass : length c ≡ cache_words → is_pass (cached_finish i m c (Walk p e q)).answer ≡ true
      → filled i m c (looked i c (Walk p e q)) ≡ put c (slot_for p e q) p (half q.address) (page_for e q) (word_used m c p e q)
  unfolding looked filled
  filled-pass long o =
      let room : slot_for p e q * slot_words + 3 < length c = let l = slot-low p (half q.address) (page_for e q) in rw long (omega arith) in
      by_cases (is_hit c p e q)
      (λ h. rw h (sym (put_same c (slot_for p e q) p (half q.address) (page_for e q) (hit_holds c p e q h) room)))
      (λ h. let y : is_pass (finish i m (Walk p e q)).answer ≡ true = rw h at o in rw (h, y))

  filled-other : is_pass (cached_finish i m c (Walk p e q)).answer ≡ false → filled i m c (looked i c (Walk p e q)) ≡ c
  unfolding looked filled
  filled-other o =
      by_cases (is_hit c p e q)
      (λ h. rw h)
      (λ h. let y : is_pass (finish i m (Walk p e q)).answer ≡ false = rw h at o in rw (h, y))

-- no page table is asked for where reason 1 holds
walk-fit : (f : Tables) (x : Cached) (q : Request) (p : PeNumber) (e : TranslationEntry) (d : DmaRequest) → checked_by (fit f x) f x.bare.live q ≡ Walk p e d
    → length x.cache ≡ cache_words
unfolding checked
walk-fit f x q p e d h =
    by_cases (fit f x)
    (λ o. eqb-true (length x.cache) cache_words (and_left (eqb (length x.cache) cache_words) (good f x.bare) o))
    (λ o. absurd (let y : Kept (refuse TableLength) ≡ Walk p e d = rw o at h in let z : ◌≡◌ {A = ℕ} 0 1 = cc in omega arith))

module _ (f : Tables) (x : Cached) (q : Request) where
  -- the pass of a walk is that of its answer
  answer-passes : (p : PeNumber) (e : TranslationEntry) (d : DmaRequest) → checked_by (fit f x) f x.bare.live q ≡ Walk p e d
      → is_pass (cached_answer f x (Plain q)) ≡ passes f x p e d
  answer-passes p e d h = ap (λ (y : Check). is_pass (finish_of f x y).answer) h

  request-pass : (p : PeNumber) (e : TranslationEntry) (d : DmaRequest) → checked_by (fit f x) f x.bare.live q ≡ Walk p e d
      → is_pass (cached_answer f x (Plain q)) ≡ true
      → (cached_after f x (Plain q)).cache ≡ put x.cache (slot_for p e d) p (half d.address) (page_for e d) (word_used x.bare.memory x.cache p e d)
  unfolding cache_by
  request-pass p e d h o =
      rw h (filled-pass f.installed x.bare.memory x.cache p e d (walk-fit f x q p e d h) (sym (answer-passes p e d h) ∙ o))

  request-other : (y : Check) → checked_by (fit f x) f x.bare.live q ≡ y
      → ((p : PeNumber) (e : TranslationEntry) (d : DmaRequest) → y ≡ Walk p e d → is_pass (finish_of f x y).answer ≡ false)
      → (cached_after f x (Plain q)).cache ≡ x.cache
  unfolding cache_by looked filled
  request-other (Kept a) h n = rw h
  request-other (Ready p o) h n = rw h
  request-other (Walk p e d) h n = rw h (unfold looked filled in filled-other f.installed x.bare.memory x.cache p e d (n p e d refl))
  request-other (Fences b) h n = rw h

-- ---- what an edit and an invalidate leave

done-edit : (ok : Bool) (k n : ℕ) → (ok && ltb k n) ≡ is_done (edit_answer ok k n)
done-edit true k n = by_cases (ltb k n) (λ o. rw o) (λ o. rw o)
done-edit false k n = refl

done-invalidate : (ok b : Bool) → (ok && b) ≡ is_done (invalidate_answer ok b)
done-invalidate true true = refl
done-invalidate true false = refl
done-invalidate false b = refl

module _ (f : Tables) (x : Cached) where
  edit-leaves : (k v : ℕ) → (cached_after f x (Edit k v)).cache ≡ cond (is_done (cached_answer f x (Edit k v))) (sweep (through f x.bare.memory k) x.cache) x.cache
  unfolding cache_by
  edit-leaves k v = rw (done-edit (fit f x) k (length x.bare.memory))

  invalidate-leaves : (s : Scope) → (cached_after f x (Invalidate s)).cache ≡ cond (is_done (cached_answer f x (Invalidate s))) (sweep (names f s) x.cache) x.cache
  unfolding cache_by
  invalidate-leaves s = rw (done-invalidate (fit f x) (nameable f.sizes.pes s))

-- ---- one slot

abbrev or_kept : Option (List ℕ) → List ℕ → List ℕ
or_kept none w = w
or_kept (some v) w = v

-- a slot after a fill
put-slot : (c : List ℕ) (i : ℕ) (p : PeNumber) (h : ℕ) (q : PageNumber) (w j : ℕ) → i * slot_words + 3 < length c
    → slot_at (put c i p h q w) j ≡ or_kept (cond (eqb i j) (some ((p.0 + 1) ∷ h ∷ q.0 ∷ w ∷ [])) none) (slot_at c j)
put-slot c i p h q w j b =
    by_cases (eqb i j)
    (λ o. rw (o, ← eqb-true i j o, put_tag c i p h q w b, put-half c i p h q w b, put-page c i p h q w b, put_word c i p h q w b))
    (λ o. let n = eqb-false i j o in
    let a0 : tag_of (put c i p h q w) j ≡ tag_of c j = put-away c i p h q w (j * 4) (λ z. n (omega arith)) in
    let a1 : half_of (put c i p h q w) j ≡ half_of c j = put-away c i p h q w (j * 4 + 1) (λ z. n (omega arith)) in
    let a2 : page_of_slot (put c i p h q w) j ≡ page_of_slot c j = put-away c i p h q w (j * 4 + 2) (λ z. n (omega arith)) in
    let a3 : word_of (put c i p h q w) j ≡ word_of c j = put-away c i p h q w (j * 4 + 3) (λ z. n (omega arith)) in
    rw (o, a0, a1, a2, a3))

-- a slot after a sweep, where b says that there is one
sweep-slot : (b : Bool) (d : Test) (c : List ℕ) (j : ℕ) → slot_at (cond b (sweep d c) c) j ≡ or_kept (cond (b && dropped d c j) (some zeros) none) (slot_at c j)
sweep-slot false d c j = refl
sweep-slot true d c j =
    by_cases (dropped d c j)
    (λ o. rw (o, gone d c j o (j * 4) (omega arith), gone d c j o (j * 4 + 1) (omega arith), gone d c j o (j * 4 + 2) (omega arith), gone d c j o (j * 4 + 3) (omega arith)))
    (λ o. rw (o, kept d c j o (j * 4) (omega arith), kept d c j o (j * 4 + 1) (omega arith), kept d c j o (j * 4 + 2) (omega arith), kept d c j o (j * 4 + 3) (omega arith)))

module _ (f : Tables) (x : Cached) (j : ℕ) where
  request-slot : (q : Request) (y : Check) → checked_by (fit f x) f x.bare.live q ≡ y → slot_at (cached_after f x (Plain q)).cache j ≡ or_kept (fill_at f x j y) (slot_at x.cache j)
  request-slot q (Kept a) h = ap (λ (c : List ℕ). slot_at c j) (request-other f x q (Kept a) h (λ p e d z. absurd (let y : ◌≡◌ {A = ℕ} 0 1 = cc in omega arith)))
  request-slot q (Ready p o) h =
      ap (λ (c : List ℕ). slot_at c j) (request-other f x q (Ready p o) h (λ p e d z. absurd (let y : ◌≡◌ {A = ℕ} 0 1 = cc in omega arith)))
  request-slot q (Walk p e d) h =
      by_cases (passes f x p e d)
      (λ o. let l = slot-low p (half d.address) (page_for e d) in
      let room : slot_for p e d * slot_words + 3 < length x.cache = rw (walk-fit f x q p e d h) (omega arith) in
      rw (o, request-pass f x q p e d h (answer-passes f x q p e d h ∙ o))
      (put-slot x.cache (slot_for p e d) p (half d.address) (page_for e d) (word_used x.bare.memory x.cache p e d) j room))
      (λ o. rw o (ap (λ (c : List ℕ). slot_at c j) (request-other f x q (Walk p e d) h (λ p' e' d' z. o))))
  request-slot q (Fences b) h = ap (λ (c : List ℕ). slot_at c j) (request-other f x q (Fences b) h (λ p e d z. absurd (let y : ◌≡◌ {A = ℕ} 0 1 = cc in omega arith)))

  one-slot : (q : Operation) → slot_at (cached_after f x q).cache j ≡ or_kept (slot_event f j x q) (slot_at x.cache j)
  unfolding slot_event
  one-slot (Plain q) = request-slot q (checked_by (fit f x) f x.bare.live q) refl
  one-slot (Edit k v) = rw (edit-leaves f x k v) (sweep-slot (is_done (cached_answer f x (Edit k v))) (through f x.bare.memory k) x.cache j)
  one-slot (Invalidate s) = rw (invalidate-leaves f x s) (sweep-slot (is_done (cached_answer f x (Invalidate s))) (names f s) x.cache j)

all_slots : (f : Tables) (j : ℕ) (x : Cached) (l : List Operation) → slot_at (end (cached_after f) x l).cache j ≡ latest (slot_at x.cache j) (slot_events f x j l)
all_slots f j x [] = refl
all_slots f j x (q ∷ l) =
    all_slots f j (cached_after f x q) l
    ∙ option_cases (slot_event f j x q)
    (λ o. let z = one-slot f x j q in rw (z, o))
    (λ w o. let z = one-slot f x j q in rw (z, o))

-- ---- the word

-- where the cache is sound, the word by which a DMA is answered is the one that the walk finds now
pub used_found : (f : Tables) (m c : List ℕ) → Sound f m c → (p : PeNumber) (e : TranslationEntry) (q : DmaRequest) → Known f (Walk p e q)
    → word_used m c p e q ≡ content (walked_page m e (page_for e q)).found
used_found f m c s p e q k =
    by_cases (is_hit c p e q)
    (λ o. rw o (hit_word f m c s p e q k o))
    (λ o. rw o)

pub contents : Contents
contents = record {
  pass = λ f x q p e d h o. request-pass f x q p e d h o;
  other = λ f x q n. request-other f x q (checked_by (fit f x) f x.bare.live q) refl n;
  edit = λ f x k v. edit-leaves f x k v;
  invalidate = λ f x s. invalidate-leaves f x s;
  nothing_named = λ f x s d j. rw (invalidate-leaves f x s, d) (swept (names f s) x.cache j);
  slots = λ f x l j. all_slots f j x l;
}
