-- The checks and their finish over both bridges are the definition's, with a cache and without one.
--     finished_by_lem, filled_by_lem  the outcome and the cache, of every check
--     uncached_fill       without a cache none is filled
--     looked-pe, looked-kept  the PE of a check, and one that is answered, are the same after the cache was looked at
--     looked-placed       a check after the cache was looked at still names the owner
--     kept_fill           a request that is answered by the checks alone fills no slot
--     either-answers, either-leaves  what the checks and their finish come to is what the bridge with a cache, or the one without, answers and leaves
-- Assumes nothing.
use Rattle.kinds.specs.Lookup.{Owner}
use Rattle.std.specs.Prelude.{◌≡◌, Bool, true, false, List, ℕ, length, Option, Some, None}
use Rattle.std.proofs.Math.Path.{refl}
use Rattle.std.proofs.Common.{sym, ap, ◌∙◌}
use Rattle.kinds.specs.declared.outcome.Check.{Check}
use Rattle.kinds.specs.declared.outcome.Outcome.{Outcome}
use Rattle.kinds.specs.declared.outcome.Check.TheVariants.{Kept, Ready, Walk, Fences}
use Rattle.kinds.proofs.Tests.{by_cases, clash}
use Rattle.kinds.specs.declared.answer.Answer.{Answer}
use Rattle.kinds.specs.declared.number.PeNumber.{PeNumber}
use Rattle.kinds.specs.declared.record.TranslationEntry.{TranslationEntry}
use Rattle.kinds.specs.declared.request.DmaRequest.{DmaRequest}
use Rattle.kinds.specs.declared.request.Operation.TheVariants.{Plain}
use Rattle.kinds.specs.declared.request.Request.{Request}
use Rattle.profile.specs.Owner.{owner}
use Rattle.profile.proofs.RequestLaws.{Placed}
use Rattle.profile.specs.Step.{finish, act_by}
use Rattle.profile.specs.Tables.{Tables}
use Rattle.edits.specs.Edits.{good, checked_by}
use Rattle.cache.specs.Cache.{is_hit, looked, filled, Cached, cache_by}
use Rattle.decide.proofs.FinishedLaws.{finished-is}
use Rattle.cache_dma.specs.Quick.{quick_for, in_place}
use Rattle.cache_dma.proofs.QuickLaws.{looked_quick}
use Rattle.cache_words.specs.Either.{either_answer, either_after}
use Rattle.handle.specs.Parts.{pe_of, is_kept}
use Rattle.cache_handle.specs.Lent.{either_sized, either_looked, either_filled, quick_at, finished_by, filled_by}

-- a walk, by what the cache says of it
module _ (b : Bool) (i : ℕ) (m c : List ℕ) (p : PeNumber) (e : TranslationEntry) (q : DmaRequest) where
  hit_finish : (u : Option Outcome) → finished_by i m (Walk p e q) u ≡ finish i m (in_place u p (Walk p e q))
  hit_finish (Some o) = unfold finish in refl
  hit_finish None = refl

  hit_fill : (u : Option Outcome) → filled_by true i m c (Walk p e q) u ≡ filled i m c (in_place u p (Walk p e q))
  hit_fill (Some o) = unfold filled in refl
  hit_fill None = refl

pub finished_by_lem : (b : Bool) (i : ℕ) (m c : List ℕ) (x : Check) → finished_by i m x (quick_at b i c x) ≡ finish i m (either_looked b i c x)
unfolding looked
finished_by_lem true i m c (Kept a) = unfold finish in refl
finished_by_lem true i m c (Ready p o) = unfold finish in refl
finished_by_lem true i m c (Walk p e q) = hit_finish true i m c p e q (quick_for i c p e q) ∙ ap (finish i m) (looked_quick i c p e q)
finished_by_lem true i m c (Fences b) = unfold finish in refl
finished_by_lem false i m c x = finished-is i m x

either-keeps : (b : Bool) (i : ℕ) (m c : List ℕ) (x : Check) → filled i m c x ≡ c → either_filled b i m c x ≡ c
either-keeps true i m c x e = e
either-keeps false i m c x e = refl

pub uncached_fill : (i : ℕ) (m c : List ℕ) (x : Check) → filled_by false i m c x None ≡ c
uncached_fill i m c x = refl

pub filled_by_lem : (b : Bool) (i : ℕ) (m c : List ℕ) (x : Check) → filled_by b i m c x (quick_at b i c x) ≡ either_filled b i m c (either_looked b i c x)
unfolding looked
filled_by_lem true i m c (Kept a) = refl
filled_by_lem true i m c (Ready p o) = refl
filled_by_lem true i m c (Walk p e q) = hit_fill true i m c p e q (quick_for i c p e q) ∙ ap (filled i m c) (looked_quick i c p e q)
filled_by_lem true i m c (Fences b) = refl
filled_by_lem false i m c x = refl

-- the PE of a check, and whether it is answered, are the same after the cache was looked at
in_place_pe : (u : Option Outcome) (p : PeNumber) (e : TranslationEntry) (q : DmaRequest) → pe_of (in_place u p (Walk p e q)) ≡ p
in_place_pe (Some o) p e q = refl
in_place_pe None p e q = refl

pub looked-pe : (b : Bool) (i : ℕ) (c : List ℕ) (x : Check) → pe_of x ≡ pe_of (either_looked b i c x)
unfolding looked
looked-pe true i c (Kept a) = refl
looked-pe true i c (Ready p o) = refl
looked-pe true i c (Walk p e q) = sym (in_place_pe (quick_for i c p e q) p e q) ∙ ap pe_of (looked_quick i c p e q)
looked-pe true i c (Fences b) = refl
looked-pe false i c x = refl

pub looked-kept : (b : Bool) (i : ℕ) (c : List ℕ) (x : Check) → is_kept x ≡ true → either_looked b i c x ≡ x
unfolding looked
looked-kept true i c (Kept a) h = refl
looked-kept true i c (Ready p o) h = clash h refl
looked-kept true i c (Walk p e q) h = clash h refl
looked-kept true i c (Fences b) h = clash h refl
looked-kept false i c x h = refl

with_cache : (i : ℕ) (c : List ℕ) (o : Owner) (x : Check) → Placed o x → Placed o (looked i c x)
unfolding looked
with_cache i c o (Kept a) h = tt
with_cache i c o (Ready p x) h = h
with_cache i c o (Walk p e q) h = by_cases (is_hit c p e q) (λ z. rw z h) (λ z. rw z h)
with_cache i c o (Fences b) h = tt

pub looked-placed : (b : Bool) (i : ℕ) (c : List ℕ) (o : Owner) (x : Check) → Placed o x → Placed o (either_looked b i c x)
looked-placed true i c o x h = with_cache i c o x h
looked-placed false i c o x h = h

kept_full : (i : ℕ) (m c : List ℕ) (x : Check) → is_kept x ≡ true → filled i m c x ≡ c
unfolding filled
kept_full i m c (Kept a) h = refl
kept_full i m c (Ready p o) h = clash h refl
kept_full i m c (Walk p e q) h = clash h refl
kept_full i m c (Fences b) h = clash h refl

pub kept_fill : (b : Bool) (i : ℕ) (m c : List ℕ) (x : Check) → is_kept x ≡ true → either_filled b i m c x ≡ c
kept_fill b i m c x h = either-keeps b i m c x (kept_full i m c x h)

-- a check that is no walk fills no slot
module _ (b : Bool) (i : ℕ) (m c : List ℕ) where
  pub kept_fills : (a : Answer) → either_filled b i m c (Kept a) ≡ c
  unfolding filled
  kept_fills a = either-keeps b i m c (Kept a) refl

  pub ready_fills : (p : PeNumber) (o : Outcome) → either_filled b i m c (Ready p o) ≡ c
  unfolding filled
  ready_fills p o = either-keeps b i m c (Ready p o) refl

  pub fence_fills : (d : Bool) → either_filled b i m c (Fences d) ≡ c
  unfolding filled
  fence_fills d = either-keeps b i m c (Fences d) refl

-- the checks of request q, with a cache or without one
abbrev pub either_checked : (cached : Bool) → Tables → Cached → Request → Check
either_checked b f x q =
    either_looked b f.installed x.cache (checked_by (either_sized b (length x.cache) (good f x.bare)) f x.bare.live q)

pub either-answers : (b : Bool) (f : Tables) (x : Cached) (q : Request) → (finish f.installed x.bare.memory (either_checked b f x q)).answer ≡ either_answer b f x (Plain q)
either-answers true f x q = refl
either-answers false f x q = refl

pub either-leaves : (b : Bool) (f : Tables) (x : Cached) (q : Request)
    → ◌≡◌ {A = Cached} (record {
      bare = record {
        memory = x.bare.memory;
        live = act_by f (owner f x.bare.live q) (finish f.installed x.bare.memory (either_checked b f x q)).effect x.bare.live;
      };
      cache = either_filled b f.installed x.bare.memory x.cache (either_checked b f x q);
    }) (either_after b f x (Plain q))
unfolding cache_by
either-leaves true f x q = refl
either-leaves false f x q = refl
