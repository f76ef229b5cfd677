-- 02, [8]: THE CLAIMS about the bridge with a translation cache, over sequences that start by emptying it.
--     bare_of a           bridge a with memory among what is written; lent a c: with cache c, of any contents
--     begun a c           the same after the first operation of a sequence: the invalidate for all
--     left a c l          what a sequence leaves; fence a c l: the fence word then
--     places G a c l      what the operations l of a sequence are compared by, in order: the group's own ones, whole, and the fatal messages and fence clears of
--                         others that are answered done, by their kind. An edit is the group's if some walk of a member can read its word at that moment
--     moments G a c l     each operation that has a place, with the state that it meets
--     AllFresh G f l k    where an edit brings new words into reach, both runs hold equal words there at that moment
--     answers G a c l     what the group's own operations are answered, in order
--     Simulation, CachedIsolation     THE CLAIMS, as types that a promise can cite
-- Assumes nothing.
use Rattle.std.specs.Prelude.{◌≡◌, Bool, false, List, ℕ, length}
use Rattle.kinds.specs.Answer.{refuse}
use Rattle.kinds.specs.Words.{at}
use Rattle.kinds.specs.declared.answer.Answer.{Answer}
use Rattle.kinds.specs.declared.answer.Reason.TheVariants.{TableLength}
use Rattle.kinds.specs.declared.number.PeNumber.{PeNumber}
use Rattle.kinds.specs.declared.request.Operation.{Operation}
use Rattle.kinds.specs.declared.request.Operation.TheVariants.{Invalidate}
use Rattle.kinds.specs.declared.request.Scope.TheVariants as scope
use Rattle.profile.specs.Agree.{Closed}
use Rattle.profile.specs.Fence.{fence_word}
use Rattle.profile.specs.Tables.{Tables}
use Rattle.isolation.specs.Isolation.{Place}
use Rattle.isolation.specs.Labels.{labels, watched}
use Rattle.isolation.specs.Machine.{Met, Pairs, OfMet, met, seen, end, replies}
use Rattle.isolation.specs.View.{Bridge, Written, View}
use Rattle.edits.specs.Edits.{Bare, bare_answer, bare_after, bare_machine, place_on, Fresh}
use Rattle.cache.specs.Slots.{cache_words}
use Rattle.cache.specs.Cache.{Cached, cached_answer, cached_after, cached_machine}

abbrev pub bare_of : Bridge → Bare
bare_of a = record { memory = a.memory; live = a.live }

abbrev pub lent : Bridge → (cache : List ℕ) → Cached
lent a c = record { bare = bare_of a; cache = c }

abbrev pub begun : Bridge → (cache : List ℕ) → Cached
begun a c = cached_after a.tables (lent a c) (Invalidate scope.All)

abbrev pub left : Bridge → (cache : List ℕ) → List Operation → Cached
left a c l = end (cached_after a.tables) (begun a c) l

abbrev pub fence : Bridge → (cache : List ℕ) → List Operation → ℕ
fence a c l = at (left a c l).bare.live.state (fence_word a.tables.sizes.pes)

abbrev pub places : (PeNumber → Bool) → Bridge → (cache : List ℕ) → List Operation → List (Place Operation)
places G a c l = labels (cached_after a.tables) (place_on (cached_machine G a.tables)) (begun a c) l

abbrev pub moments : (PeNumber → Bool) → Bridge → (cache : List ℕ) → List Operation → List (Met Cached Operation)
moments G a c l = met (watched (cached_machine G a.tables) (place_on (cached_machine G a.tables))) (begun a c) l

abbrev pub AllFresh : (PeNumber → Bool) → Tables → (l k : List (Met Cached Operation)) → Type 0
AllFresh G f l k = Pairs (OfMet (λ x y q p. Fresh G f x.bare y.bare q)) l k

abbrev pub answers : (PeNumber → Bool) → Bridge → (cache : List ℕ) → List Operation → List Answer
answers G a c l = seen (cached_machine G a.tables) (begun a c) l

pub record Simulation : Type 0 where
  -- any sequence is answered as the bridge without a cache answers it, the count included, and leaves the same memory, state and interrupts
  pub same : (a : Bridge) (c : List ℕ) → length c ≡ cache_words → (l : List Operation)
      → (replies (cached_machine (λ p. false) a.tables) (begun a c) l ≡ replies (bare_machine (λ p. false) a.tables) (bare_of a) l)
      × ((left a c l).bare ≡ end (bare_after a.tables) (bare_of a) l)
  -- its first operation, which empties the cache, is answered so too
  pub first : (a : Bridge) (c : List ℕ) → length c ≡ cache_words
      → cached_answer a.tables (lent a c) (Invalidate scope.All) ≡ bare_answer a.tables (bare_of a) (Invalidate scope.All)
  -- where the cache has another length every answer is 1, and nothing is written
  pub other_length : (a : Bridge) (c : List ℕ) → (length c ≡ cache_words → ⊥) → (q : Operation)
      → (cached_answer a.tables (lent a c) q ≡ refuse TableLength) × (cached_after a.tables (lent a c) q ≡ lent a c)

pub record CachedIsolation : Type 0 where
  -- a group of PEs, and two bridges with caches of one length, which may hold anything
  pub isolated : (G : PeNumber → Bool) (a b : Bridge) (c d : List ℕ) → length c ≡ length d
      -- no PE outside the group lists a member as a peer
      → Closed G a.tables
      -- the bridges are equal in all that is public, in the group's stop bits, error records, translation entries and interrupt records, and in
      -- every table word that its walks can read at the start. Memory may change
      → View G a b
      -- every two lists in which the group's own operations are the same, in the same order, edits of words that its walks can read at that moment among
      -- them; and the fatal messages and fence clears that are answered done stand at the same places. All else is free: other edits, invalidates and fills
      → (l k : List Operation) → places G a c l ≡ places G b d k
      -- where an edit of the group's brings new words into reach, both runs hold equal words there at that moment
      → AllFresh G a.tables (moments G a c l) (moments G b d k)
      -- each group operation gets the same whole answer in both; the group's stop bits, error records and interrupt records are equal after both, and so
      -- is the fence word
      → (answers G a c l ≡ answers G b d k)
      × Written G a.tables.sizes.interrupts (left a c l).bare.live (left b d k).bare.live
      × (fence a c l ≡ fence b d k)
