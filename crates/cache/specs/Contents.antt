-- 02, [8]: WHAT A SLOT HOLDS, over any contents of the cache.
--     slot_at c j          the four words of slot j
--     word_used m c p e q  the last-level word by which a DMA is answered: the slot's on a hit, else the one that the walk finds
--     passes f x p e q    a DMA whose page table is asked for passes
--     fill_at f x j y     the words that slot j gets by what the checks y of a request leave, if it gets any
--     slot_event f j x q  what operation q does to slot j: the words that it gets. A fill, or four zeros where an edit or an invalidate drops it
--     slot_events f x j l  these of a list of operations, in order, each by the state that it meets; latest w l: the last of l, or w where there is none
--     Contents            THE CLAIM, as a type that a promise can cite
-- Assumes nothing.
use Rattle.std.specs.Prelude.{◌≡◌, Bool, true, false, cond, ◌&&◌, List, [], ◌∷◌, ℕ, ◌+◌, eqb}
use Rattle.std.proofs.Math.Option.{Option, none, some}
use Rattle.kinds.specs.Answer.{is_done}
use Rattle.kinds.specs.declared.outcome.Check.{Check}
use Rattle.kinds.specs.declared.outcome.Check.TheVariants.{Kept, Ready, Walk, Fences}
use Rattle.kinds.specs.declared.answer.Answer.TheVariants.{Done}
use Rattle.kinds.specs.declared.number.PeNumber.{PeNumber}
use Rattle.kinds.specs.declared.record.TranslationEntry.{TranslationEntry}
use Rattle.kinds.specs.declared.request.DmaRequest.{DmaRequest}
use Rattle.kinds.specs.declared.request.Operation.{Operation}
use Rattle.kinds.specs.declared.request.Operation.TheVariants.{Plain, Edit, Invalidate}
use Rattle.kinds.specs.declared.request.Request.{Request}
use Rattle.kinds.specs.declared.request.Scope.{Scope}
use Rattle.profile.specs.Entry.{half}
use Rattle.profile.specs.Tables.{Tables}
use Rattle.profile.specs.Walk.{walked_page}
use Rattle.isolation.specs.Machine.{end}
use Rattle.isolation.specs.Labels.{labels}
use Rattle.edits.specs.Edits.{checked_by}
use Rattle.cache.specs.Slots.{tag_of, half_of, page_of_slot, word_of, put, dropped, sweep}
use Rattle.cache.specs.Cache.{page_for, slot_for, word_for, is_hit, is_pass, content, through, names, Cached, fit, finish_of, cached_answer, cached_after}

abbrev pub slot_at : List ℕ → (slot : ℕ) → List ℕ
slot_at c j = tag_of c j ∷ half_of c j ∷ page_of_slot c j ∷ word_of c j ∷ []

abbrev pub word_used : (memory cache : List ℕ) → PeNumber → TranslationEntry → DmaRequest → ℕ
word_used m c p e q = cond (is_hit c p e q) (word_for c p e q) (content (walked_page m e (page_for e q)).found)

abbrev pub passes : Tables → Cached → PeNumber → TranslationEntry → DmaRequest → Bool
passes f x p e q = is_pass (finish_of f x (Walk p e q)).answer

abbrev pub fill_at : Tables → Cached → (slot : ℕ) → Check → Option (List ℕ)
fill_at f x j (Kept a) = none
fill_at f x j (Ready p o) = none
fill_at f x j (Walk p e q) =
    cond (passes f x p e q && eqb (slot_for p e q) j)
    (some ((p.0 + 1) ∷ half q.address ∷ (page_for e q).0 ∷ word_used x.bare.memory x.cache p e q ∷ [])) none
fill_at f x j (Fences b) = none

abbrev pub zeros : List ℕ
zeros = 0 ∷ 0 ∷ 0 ∷ 0 ∷ []

unfoldable pub slot_event : Tables → (slot : ℕ) → Cached → Operation → Option (List ℕ)
slot_event f j x (Plain q) = fill_at f x j (checked_by (fit f x) f x.bare.live q)
slot_event f j x (Edit k v) = cond (is_done (cached_answer f x (Edit k v)) && dropped (through f x.bare.memory k) x.cache j) (some zeros) none
slot_event f j x (Invalidate s) = cond (is_done (cached_answer f x (Invalidate s)) && dropped (names f s) x.cache j) (some zeros) none

abbrev pub slot_events : Tables → Cached → (slot : ℕ) → List Operation → List (List ℕ)
slot_events f x j l = labels (cached_after f) (slot_event f j) x l

abbrev pub latest : List ℕ → List (List ℕ) → List ℕ
latest w [] = w
latest w (v ∷ l) = latest v l

pub record Contents : Type 0 where
  -- after a DMA passes through a page table the slot of its page holds that PE, half, page and word; that is the one change
  pub pass : (f : Tables) (x : Cached) (q : Request) (p : PeNumber) (e : TranslationEntry) (d : DmaRequest)
      → checked_by (fit f x) f x.bare.live q ≡ Walk p e d → is_pass (cached_answer f x (Plain q)) ≡ true
      → (cached_after f x (Plain q)).cache ≡ put x.cache (slot_for p e d) p (half d.address) (page_for e d) (word_used x.bare.memory x.cache p e d)
  -- every other request leaves every word of the cache
  pub other : (f : Tables) (x : Cached) (q : Request)
      → ((p : PeNumber) (e : TranslationEntry) (d : DmaRequest) → checked_by (fit f x) f x.bare.live q ≡ Walk p e d → is_pass (cached_answer f x (Plain q)) ≡ false)
      → (cached_after f x (Plain q)).cache ≡ x.cache
  -- an edit that is done drops the full slots whose walk reads its word; every other word stays, and all do where it is refused
  pub edit : (f : Tables) (x : Cached) (k v : ℕ)
      → (cached_after f x (Edit k v)).cache ≡ cond (is_done (cached_answer f x (Edit k v))) (sweep (through f x.bare.memory k) x.cache) x.cache
  -- an invalidate that is done drops the full slots that it names; every other word stays, and all do where it is refused
  pub invalidate : (f : Tables) (x : Cached) (s : Scope)
      → (cached_after f x (Invalidate s)).cache ≡ cond (is_done (cached_answer f x (Invalidate s))) (sweep (names f s) x.cache) x.cache
  -- an invalidate leaves nothing that it names, in whichever slot
  pub nothing_named : (f : Tables) (x : Cached) (s : Scope) → cached_answer f x (Invalidate s) ≡ Done → (j : ℕ)
      → dropped (names f s) (cached_after f x (Invalidate s)).cache j ≡ false
  -- over any list of operations a slot holds what the last fill gave it, or zeros where a drop came after that; nothing else changes it
  pub slots : (f : Tables) (x : Cached) (l : List Operation) (j : ℕ)
      → slot_at (end (cached_after f) x l).cache j ≡ latest (slot_at x.cache j) (slot_events f x j l)
