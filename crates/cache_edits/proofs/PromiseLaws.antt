-- The promises are the step of the definition, of any tables f whose N and entries the code was given; `sized` is not asked for.
--     edit-answer, edit-leaves, edit-cache    what an edit is answered, the memory that it leaves, with the rest as it was, and the cache
--     invalidate-answer, invalidate-cache     what an invalidate is answered, and the cache; it leaves the rest as it was by definition
-- Assumes nothing.
use Rattle.std.specs.Prelude.{◌≡◌, true, List, ℕ, ltb, length}
use Rattle.std.proofs.Math.Path.{ap}
use Rattle.std.proofs.Common.{◌∙◌, sym}
use Rattle.std.proofs.Math.Bool.{cond}
use Rattle.kinds.specs.declared.outcome.Check.{Check}
use Rattle.kinds.specs.declared.answer.Answer.{Answer}
use Rattle.kinds.specs.declared.outcome.Outcome.{Outcome}
use Rattle.kinds.specs.declared.request.Operation.TheVariants.{Edit, Invalidate}
use Rattle.kinds.specs.declared.request.Scope.{Scope}
use Rattle.kinds.specs.declared.request.Scope.TheVariants as scope
use Rattle.profile.specs.Tables.{Tables}
use Rattle.edits.specs.Edits.{Bare, nameable, answer_by, leaves_by}
use Rattle.cache.specs.Cache.{Cached, names, cache_by}
use Rattle.cache.specs.Slots.{Test, sweep}
use Rattle.cache_sweeps.specs.Drops.{of_entries}
use Rattle.cache_sweeps.proofs.DropsLaws.{through_is, all_is, pe_is, page_is}
use Rattle.cache_edits.specs.Promise.{Edited, Invalidated}

module _ (f : Tables) (x : Cached) (k v : ℕ) {r : Answer} {m' c' : List ℕ}
    (did : Edited f.sizes.pes f.entries x.bare.memory x.cache k v r m' c') where
  pub edit-cache : c' ≡ cache_by true f x (Edit k v)
  unfolding cache_by
  edit-cache =
      did.cache
      ∙ ap (λ (d : Test). cond (ltb k (length x.bare.memory)) (sweep d x.cache) x.cache) (through_is f x.bare.memory k)

  module _ (fin : Check → Outcome) where
    pub edit-answer : r ≡ answer_by true fin f x.bare (Edit k v)
    edit-answer = did.answer

    pub edit-leaves : ◌≡◌ {A = Bare} (record { memory = m'; live = x.bare.live }) (leaves_by true fin f x.bare (Edit k v))
    edit-leaves = rw did.memory

-- neither N nor another table is read
names-is : (f : Tables) (s : Scope) → names (of_entries f.sizes.pes f.entries) s ≡ names f s
names-is f scope.All = sym (all_is (of_entries f.sizes.pes f.entries)) ∙ all_is f
names-is f (scope.Pe p) = sym (pe_is (of_entries f.sizes.pes f.entries) p) ∙ pe_is f p
names-is f (scope.Address p a) = sym (page_is (of_entries f.sizes.pes f.entries) p a) ∙ page_is f p a

module _ (f : Tables) (x : Cached) (s : Scope) {r : Answer} {c' : List ℕ}
    (did : Invalidated f.sizes.pes f.entries x.cache s r c') where
  pub invalidate-cache : c' ≡ cache_by true f x (Invalidate s)
  unfolding cache_by
  invalidate-cache =
      did.cache ∙ ap (λ (d : Test). cond (nameable f.sizes.pes s) (sweep d x.cache) x.cache) (names-is f s)

  pub invalidate-answer : (fin : Check → Outcome) → r ≡ answer_by true fin f x.bare (Invalidate s)
  invalidate-answer fin = did.answer
