-- 02, [8]: the bridge with a translation cache, over any contents of it. It is the step of the bridge with another finish.
--     slot_for, page_for, word_for  the slot, the page and the word in that slot, for a DMA of PE p by entry e
--     is_hit c p e q      a hit whose word permits the DMA: the slot that the rule chooses holds the page, and its word allows the direction
--     found_by i p e q x n what a DMA comes to by what was found (x) and the count n, without memory; i is the installed size
--     looked i c x        WITH A CACHE ALL CHECKS END HERE: in the place of a walk that is a hit stands its outcome, told from the slot's word with the count of
--                         the record's levels. No memory is read
--     cached_finish i m c x   what is left: as without a cache, where the checks and the cache leave a walk
--     content x           the word that a walk found
--     filled i m c x      the cache after that: where a walk passes, the slot of its page holds PE, half, page and word; else it stays
--     tagged t            the PE of tag t; tabled f t h: tag and half name an entry with a page table
--     through f m k       what an edit of word k drops: the walk of the slot's page reads it, in memory as it is before the edit
--     names f x           what an invalidate of scope x names: all, a PE, or the page around an address, by the record that bit 59 picks
--     Cached              the bridge with its cache; fit f x: not reason 1, the length of the cache included
--     cache_by ok f x q   the cache after operation q; ok: reason 1 does not hold
--     cached_answer, cached_after  what an operation is answered, and what it leaves
--     cached_machine G f  the machine of these
-- Assumes nothing.
use Rattle.kinds.specs.declared.lookup.WalkError.TheVariants.{Forbidden, Outside}
use Rattle.kinds.specs.Lookup.{Found, frame}
use Rattle.std.specs.Prelude.{Bool, true, false, cond, ◌&&◌, List, ℕ, ◌+◌, ◌-◌, ltb, eqb, length, Ok, Err}
use Rattle.kinds.specs.declared.outcome.Check.{Check}
use Rattle.kinds.specs.declared.outcome.Check.TheVariants.{Kept, Ready, Walk, Fences}
use Rattle.kinds.specs.Has.{has}
use Rattle.kinds.specs.Number.{no_word}
use Rattle.kinds.specs.declared.answer.Answer.{Answer}
use Rattle.kinds.specs.declared.answer.Answer.TheVariants.{Pass, Msi, Held, Ones, Drop, Refuse, Done}
use Rattle.kinds.specs.declared.number.PageNumber.{PageNumber}
use Rattle.kinds.specs.declared.number.PeNumber.{PeNumber}
use Rattle.kinds.specs.declared.outcome.Outcome.{Outcome}
use Rattle.kinds.specs.declared.record.TranslationEntry.{TranslationEntry}
use Rattle.kinds.specs.declared.request.DmaRequest.{DmaRequest}
use Rattle.kinds.specs.declared.request.Operation.{Operation}
use Rattle.kinds.specs.declared.request.Operation.TheVariants.{Plain, Edit, Invalidate}
use Rattle.kinds.specs.declared.request.Scope.{Scope}
use Rattle.kinds.specs.declared.request.Scope.TheVariants as scope
use Rattle.profile.specs.Tables.{Tables}
use Rattle.profile.specs.Entry.{half, offset, entry, page_size, page_of, paged}
use Rattle.profile.specs.Walk.{walk, walked_page, allows, landed}
use Rattle.profile.specs.Step.{reached, finish}
use Rattle.isolation.specs.Machine.{Machine}
use Rattle.edits.specs.Edits.{Bare, good, nameable, checked_by, answer_by, leaves_by, owns}
use Rattle.cache.specs.Slots.{cache_words, slot_of, word_of, holds, put, Test, sweep}

-- ---- a DMA whose page table is asked for: of PE p, by entry e

abbrev pub page_for : TranslationEntry → DmaRequest → PageNumber
page_for e q = page_of e (offset q.address)

abbrev pub slot_for : PeNumber → TranslationEntry → DmaRequest → ℕ
slot_for p e q = slot_of p (half q.address) (page_for e q)

abbrev pub word_for : (cache : List ℕ) → PeNumber → TranslationEntry → DmaRequest → ℕ
word_for c p e q = word_of c (slot_for p e q)

unfoldable pub is_hit : (cache : List ℕ) → PeNumber → TranslationEntry → DmaRequest → Bool
is_hit c p e q = holds c (slot_for p e q) p (half q.address) (page_for e q) && allows q.direction (word_for c p e q)

unfoldable pub found_by : (installed : ℕ) → PeNumber → TranslationEntry → DmaRequest → Found → (words : ℕ) → Outcome
found_by i p e q x n = reached i p q (landed (page_size e) q.direction (offset q.address) x) n

unfoldable pub looked : (installed : ℕ) → (cache : List ℕ) → Check → Check
looked i c (Kept a) = Kept a
looked i c (Ready p o) = Ready p o
looked i c (Walk p e q) = cond (is_hit c p e q) (Ready p (found_by i p e q (frame no_word (word_for c p e q)) e.levels)) (Walk p e q)
looked i c (Fences b) = Fences b

abbrev pub cached_finish : (installed : ℕ) → (memory cache : List ℕ) → Check → Outcome
cached_finish i m c x = finish i m (looked i c x)

-- ---- fill

abbrev pub is_pass : Answer → Bool
is_pass (Pass a p n) = true
is_pass (Msi i s p) = false
is_pass (Held i) = false
is_pass (Ones r v) = false
is_pass (Drop r) = false
is_pass (Refuse r n w) = false
is_pass Done = false

-- no pass is by a walk that found none
abbrev pub content : Found → ℕ
content (Ok x) = x.content
content (Err (Forbidden a)) = 0
content (Err (Outside a)) = 0

unfoldable pub filled : (installed : ℕ) → (memory cache : List ℕ) → Check → List ℕ
filled i m c (Kept a) = c
filled i m c (Ready p o) = c
filled i m c (Walk p e q) =
    cond (is_pass (finish i m (Walk p e q)).answer)
    (put c (slot_for p e q) p (half q.address) (page_for e q) (content (walked_page m e (page_for e q)).found)) c
filled i m c (Fences b) = c

-- ---- what is dropped

abbrev pub tagged : (tag : ℕ) → PeNumber
tagged t = record { 0 = t - 1 }

unfoldable pub tabled : Tables → (tag half : ℕ) → Bool
tabled f t h = ltb (t - 1) f.sizes.pes && ltb h 2 && paged (entry f (tagged t) h)

unfoldable pub through : Tables → (memory : List ℕ) → (word : ℕ) → Test
through f m k t h q = tabled f t h && has k (walk m (entry f (tagged t) h) (record { 0 = q })).reads

unfoldable pub names : Tables → Scope → Test
names f scope.All t h q = true
names f (scope.Pe p) t h q = eqb t (p + 1)
names f (scope.Address p a) t h q =
    paged (entry f (record { 0 = p }) (half a))
    && eqb t (p + 1) && eqb h (half a) && eqb q (page_of (entry f (record { 0 = p }) (half a)) (offset a)).0

-- ---- one operation

pub record Cached : Type 0 where
  pub bare : Bare
  pub cache : List ℕ

abbrev pub fit : Tables → Cached → Bool
fit f x = eqb (length x.cache) cache_words && good f x.bare

abbrev pub finish_of : Tables → Cached → Check → Outcome
finish_of f x = cached_finish f.installed x.bare.memory x.cache

unfoldable pub cache_by : (ok : Bool) → Tables → Cached → Operation → List ℕ
cache_by ok f x (Plain q) =
    filled f.installed x.bare.memory x.cache (looked f.installed x.cache (checked_by ok f x.bare.live q))
cache_by ok f x (Edit k v) =
    cond (ok && ltb k (length x.bare.memory)) (sweep (through f x.bare.memory k) x.cache) x.cache
cache_by ok f x (Invalidate s) = cond (ok && nameable f.sizes.pes s) (sweep (names f s) x.cache) x.cache

abbrev pub cached_answer : Tables → Cached → Operation → Answer
cached_answer f x q = answer_by (fit f x) (finish_of f x) f x.bare q

abbrev pub cached_after : Tables → Cached → Operation → Cached
cached_after f x q = record { bare = leaves_by (fit f x) (finish_of f x) f x.bare q; cache = cache_by (fit f x) f x q }

abbrev pub cached_machine : (PeNumber → Bool) → Tables → Machine Cached Operation Answer
cached_machine G f = record { next = cached_after f; answer = cached_answer f; own = λ x q. owns G f x.bare q }
