-- What slots hold, in numbers, on the bridge of the cases.
--     latest_hold         the last of some words, or those before
--     list                on an empty cache: a fill, a hit, an edit that drops, no fill under 8, a fill, an invalidate, a fill of another slot, a fill
--     events_hold         what it does to slots 151, 77 and 150; slots-left: what they hold then
--     pass-witness        THE CLAIM at a miss and at a hit that pass: what the whole cache is then; drop-witness: at an invalidate; slots-witness: at the list
--     after_same          what an edit drops could be asked of memory after it as well
-- Assumes nothing.
use Rattle.std.specs.Prelude.{◌≡◌, refl, Bool, false, List, [], ◌∷◌, map, ℕ, set}
use Rattle.std.proofs.Common.{sym, ap, length-set, ne_eqb}
use Rattle.kinds.specs.Has.{has}
use Rattle.kinds.proofs.Has.{has_of}
use Rattle.kinds.proofs.Tests.{by_cases, clash}
use Rattle.kinds.proofs.WordsLaws.{at_set}
use Rattle.kinds.specs.declared.number.PageNumber.{PageNumber}
use Rattle.kinds.specs.declared.record.TranslationEntry.{TranslationEntry}
use Rattle.kinds.specs.declared.request.Direction.TheVariants.{Read}
use Rattle.kinds.specs.declared.request.DmaRequest.{DmaRequest}
use Rattle.kinds.specs.declared.request.Operation.{Operation}
use Rattle.kinds.specs.declared.request.Operation.TheVariants.{Plain, Edit, Invalidate}
use Rattle.kinds.specs.declared.request.Part.TheVariants as part
use Rattle.kinds.specs.declared.request.Request.TheVariants.{Dma, Clear}
use Rattle.kinds.specs.declared.request.Scope.TheVariants as scope
use Rattle.profile.proofs.Case.{read}
use Rattle.profile.specs.Entry.{index_bits}
use Rattle.profile.specs.Walk.{Walked, walk}
use Rattle.profile.proofs.WalkLaws.{walk_from-reads}
use Rattle.isolation.specs.Machine.{end}
use Rattle.cache.specs.Slots.{dropped}
use Rattle.cache.specs.Cache.{names, cached_after}
use Rattle.cache.specs.Contents.{slot_at, zeros, slot_events, latest}
use Rattle.cache.proofs.ContentsLaws.{contents}
use Rattle.cache.proofs.Opened.{opened-cache}
use Rattle.cache.proofs.CacheCases.{shared, memory, vacant, slot, bridge, page403, full403, mixed}

abbrev pub before : List ℕ
before = 1 ∷ 2 ∷ 3 ∷ 4 ∷ []

-- slot 151 after a fill
abbrev pub after403 : (word : ℕ) → List ℕ
after403 w = 3 ∷ 0 ∷ 0x403 ∷ w ∷ []

pub latest_hold : latest before [] ∷ latest before (after403 7 ∷ []) ∷ latest before (after403 7 ∷ zeros ∷ []) ∷ [] ≡ before ∷ after403 7 ∷ zeros ∷ []
latest_hold = refl

unfoldable pub list : List Operation
list =
    page403
    ∷ page403
    ∷ Edit 515 0x8002
    ∷ page403
    ∷ Plain (Clear 2 part.Dma)
    ∷ Edit 515 0x8003
    ∷ page403
    ∷ Invalidate (scope.Pe 2)
    ∷ Plain (read 1 0x3ABC 4)
    ∷ page403
    ∷ []

pub events_hold : map (λ j. slot_events shared (bridge vacant) j list) (151 ∷ 77 ∷ 150 ∷ []) ≡
    (after403 0x9003 ∷ after403 0x9003 ∷ zeros ∷ after403 0x8003 ∷ zeros ∷ after403 0x8003 ∷ [])
    ∷ ((2 ∷ 0 ∷ 3 ∷ 0x8003 ∷ []) ∷ [])
    ∷ [] ∷ []
unfolding opened-cache memory vacant list
events_hold = refl

pub slots-left : map (slot_at (end (cached_after shared) (bridge vacant) list).cache) (151 ∷ 77 ∷ 150 ∷ []) ≡
    after403 0x8003 ∷ (2 ∷ 0 ∷ 3 ∷ 0x8003 ∷ []) ∷ zeros ∷ []
unfolding opened-cache memory vacant list
slots-left = refl

-- ---- the claim at these

-- PE 2's DMA, and its record
abbrev pub asked : DmaRequest
asked = record { requester = 5; direction = Read; address = record { 0 = 0x403ABC }; length = 4; «data» = 0 }

abbrev pub two_levels : TranslationEntry
two_levels = record { base = 0; levels = 2; table = 1; page = 1 }

pub pass-witness : ((cached_after shared (bridge vacant) page403).cache ≡ full403 vacant)
    × ((cached_after shared (bridge (slot 151 3 0 0x403 0x77003 vacant)) page403).cache ≡ slot 151 3 0 0x403 0x77003 vacant)
unfolding opened-cache memory vacant
pass-witness = (
  contents.pass shared (bridge vacant) (Dma asked) (record { 0 = 2 }) two_levels asked refl refl,
  contents.pass shared (bridge (slot 151 3 0 0x403 0x77003 vacant)) (Dma asked) (record { 0 = 2 }) two_levels asked refl refl,
)

pub drop-witness : (j : ℕ) → dropped (names shared (scope.Pe 2)) (cached_after shared (bridge mixed) (Invalidate (scope.Pe 2))).cache j ≡ false
drop-witness = contents.nothing_named shared (bridge mixed) (scope.Pe 2) (unfold opened-cache memory vacant in refl)

pub slots-witness : (j : ℕ) → slot_at (end (cached_after shared) (bridge vacant) list).cache j ≡ latest (slot_at vacant j) (slot_events shared (bridge vacant) j list)
slots-witness j = contents.slots shared (bridge vacant) list j

-- ---- a walk reads an edited word before the edit exactly if it does after it: up to that word nothing changed

module _ (m : List ℕ) (k v : ℕ) (e : TranslationEntry) (q : PageNumber) where
  abbrev reads_in : List ℕ → Bool
  reads_in n = has k (walk n e q).reads

  unread_before : reads_in m ≡ false → walk m e q ≡ walk (set m k v) e q
  unread_before o =
      walk_from-reads m (set m k v) (sym (length-set m k v)) e.levels (index_bits e) (record { 0 = e.base }) q
      (λ i h. rw (at_set, ne_eqb i k (λ z. clash (has_of (rw z at h)) o)))

  unread_after : reads_in (set m k v) ≡ false → walk (set m k v) e q ≡ walk m e q
  unread_after o =
      walk_from-reads (set m k v) m (length-set m k v) e.levels (index_bits e) (record { 0 = e.base }) q
      (λ i h. rw (at_set, ne_eqb i k (λ z. clash (has_of (rw z at h)) o)))

  pub after_same : reads_in (set m k v) ≡ reads_in m
  after_same =
      by_cases (reads_in (set m k v))
      (λ o. by_cases (reads_in m) (λ p. rw (o, p)) (λ p. ap (λ (w : Walked). has k w.reads) (sym (unread_before p))))
      (λ o. ap (λ (w : Walked). has k w.reads) (unread_after o))
