-- What the functions of `cache_handle` are proved from, a law to a `return`. Assumes nothing.
use mathlib.Core.Path.{◌≡◌, refl, sym, ap, ap₂, ◌∙◌}
use mathlib.Core.Bool.{Bool, true, ◌&&◌}
use mathlib.Core.List.{List}
use Prim.Native.Nat.{ℕ}
use lib.Dec.{eqb}
use lib.ListN.{length}
use borrow.Author.Tests.{eq-eqb, ne_eqb}
use Rattle.kinds.specs.Answer.{numbered, refuse}
use Rattle.std.specs.Prelude.{cond, Option, Some, None, Result, Ok, Err}
use Rattle.decide.proofs.DecideLaws.{some_true, some_is, err_false}
use Rattle.kinds.specs.declared.answer.Reason.{Reason}
use Rattle.kinds.specs.Outcome.{kept, done}
use Rattle.kinds.specs.declared.answer.Answer.TheVariants.{Done}
use Rattle.kinds.specs.declared.number.PeNumber.{PeNumber}
use Rattle.kinds.specs.declared.outcome.Check.TheVariants.{Kept, Ready, Walk, Fences}
use Rattle.kinds.specs.declared.record.TranslationEntry.{TranslationEntry}
use Rattle.kinds.specs.declared.request.DmaRequest.{DmaRequest}
use Rattle.kinds.specs.declared.answer.Answer.{Answer}
use Rattle.kinds.specs.declared.answer.Reason.TheVariants.{TableLength, BadRequest}
use Rattle.kinds.specs.declared.outcome.Check.{Check}
use Rattle.kinds.specs.declared.outcome.Effect.TheVariants.{Fence}
use Rattle.kinds.specs.declared.outcome.Outcome.{Outcome}
use Rattle.kinds.specs.declared.request.Operation.{Operation}
use Rattle.kinds.specs.declared.request.Operation.TheVariants.{Plain, Edit, Invalidate}
use Rattle.kinds.specs.declared.request.Request.{Request}
use Rattle.kinds.specs.declared.request.Request.TheVariants.{Unnamed}
use Rattle.kinds.specs.declared.request.Scope.{Scope}
use Rattle.profile.specs.Owner.{owner}
use Rattle.profile.proofs.RequestLaws.{checked-owner}
use Rattle.kinds.specs.declared.record.Lengths.{Lengths}
use Rattle.profile.specs.Step.{formed, finish, whole, act, act_by, checked}
use Rattle.profile.specs.Tables.{Tables, Live, lengths, sized}
use Rattle.handle.proofs.PlacedLaws.{placed, still}
use Rattle.edits.specs.Edits.{Bare, checked_by}
use Rattle.cache.specs.Slots.{cache_words}
use Rattle.cache.specs.Cache.{looked, filled, Cached, fit, finish_of, cache_by, cached_answer, cached_after}
use Rattle.cache.proofs.ContentsLaws.{contents}
use Rattle.cache_claims.proofs.DemandLaws.{answer-one, stuck, simulation, cached_isolation}
use Rattle.cache_claims.proofs.Release.{cached_released}
use Rattle.cache_dma.specs.Quick.{quick_for}
use Rattle.cache_dma.specs.Quick.{in_place}
use Rattle.cache_dma.proofs.QuickLaws.{looked_quick}
use Rattle.cache_dma.specs.Went.{Went}
use Rattle.handle.specs.Parts.{pe_of}
use Rattle.cache_words.specs.Operations.{maintained}
use Rattle.cache_edits.specs.Promise.{Edited, Invalidated}
use Rattle.cache_edits.proofs.PromiseLaws.{edit-answer, edit-leaves, edit-cache, invalidate-answer, invalidate-cache}
use Rattle.cache_handle.specs.Lent.{held, either_filled}
use Rattle.cache_handle.proofs.LentLaws.{looked-placed, kept_fills, ready_fills, fence_fills, either_checked, either-answers, either-leaves}
use Rattle.cache_handle.specs.Promise.{Served, Operated}

-- `look`
module _ (i : ℕ) (c : List ℕ) {x : Check} {p : PeNumber} {e : TranslationEntry} {q : DmaRequest} (walks : x ≡ Walk p e q) {u : Option Outcome} (says : u ≡ quick_for i c p e q) where
  looked_by : in_place u p (Walk p e q) ≡ looked i c x
  looked_by = rw (walks, says) (looked_quick i c p e q)

  pub a_hit : {o : Outcome} → u ≡ Some o → Ready p o ≡ looked i c x
  a_hit z = ap (λ (v : Option Outcome). in_place v p (Walk p e q)) (sym z) ∙ looked_by

  pub a_miss : u ≡ None → x ≡ looked i c x
  a_miss z = walks ∙ ap (λ (v : Option Outcome). in_place v p (Walk p e q)) (sym z) ∙ looked_by

-- `check_by_lengths`
module _ (f : Tables) (l : Lengths) (s : Live) (c : List ℕ) (q : Request) where
  abbrev x : Check
  x = checked_by (eqb (length c) cache_words && sized f.sizes l) f s q

  pub too_short : (length c ≡ cache_words → ⊥) → {k : Check} → k ≡ Kept (refuse TableLength) → k ≡ looked f.installed c x
  unfolding checked looked
  too_short h e = e ∙ rw (ne_eqb (length c) cache_words h)

  pub checks : length c ≡ cache_words → {k y : Check} → k ≡ checked_by (sized f.sizes l) f s q → y ≡ looked f.installed c k → y ≡ looked f.installed c x
  checks h e g = g ∙ rw (e, eq-eqb (length c) cache_words h)

-- an operation, from its answer and what it leaves
pub operated : (f : Tables) (x : Cached) (q : Operation) {a : Answer} {y : Cached} → a ≡ cached_answer f x q → y ≡ cached_after f x q → Operated f x q a y
operated f x q says goes = record {
  answers = says;
  numbers = ap numbered says;
  leaves = goes;
  contents = contents;
  simulation = simulation;
  isolation = cached_isolation;
  release = cached_released;
}

-- `serve`: k is the check of request q on the state s, after the cache was looked at
module _ (f : Tables) (m c : List ℕ) (s : Live) (q : Request) {k : Check}
    (is : k ≡ looked f.installed c (checked_by (eqb (length c) cache_words && sized f.sizes (lengths f (length m) s)) f s q)) where
  abbrev z : Cached
  z = held m s c

  abbrev y : Check
  y = either_checked true f z q

  at-owner : {o : Outcome} → o ≡ finish f.installed m y
      → act f.sizes.pes f.peers (pe_of y) o.effect s ≡ act_by f (owner f s q) (finish f.installed m y).effect s
  at-owner said =
      rw said (placed f m (owner f s q) y s
      (looked-placed true f.installed c (owner f s q) (checked_by (fit f z) f s q)
      (checked-owner f.sizes f.installed f.requesters f.entries f.windows f.segments s (fit f z) q)))

  pub served : {o : Outcome} {t : Live} {d : List ℕ} → o ≡ finish f.installed m y → t ≡ act f.sizes.pes f.peers (pe_of y) o.effect s
      → d ≡ either_filled true f.installed m c y → Served true f z q o.answer (held m t d)
  served said acts fills = record {
    answers = ap (λ (u : Outcome). u.answer) said ∙ either-answers true f z q;
    leaves = rw (fills, acts ∙ at-owner said) (either-leaves true f z q);
  }

  pub served_kept : {a : Answer} → k ≡ Kept a → Served true f z q a z
  unfolding finish act
  served_kept {a} e = let w : y ≡ Kept a = sym is ∙ e in served {o = kept a} (rw w refl) refl (rw w (sym (kept_fills true f.installed m c a)))

  module _ {o : Outcome} {a : Answer} {t : Live} (answers : a ≡ o.answer) {p : PeNumber} (acts : t ≡ act f.sizes.pes f.peers p o.effect s) where
    pub served_ready : k ≡ Ready p o → Served true f z q a (held m t c)
    unfolding finish
    served_ready e =
        let w : y ≡ Ready p o = sym is ∙ e in
        rw answers (served {o = o} (rw w refl) (rw w acts) (rw w (sym (ready_fills true f.installed m c p o))))

    pub served_walk : {r : TranslationEntry} {d : DmaRequest} {c' : List ℕ} → k ≡ Walk p r d
        → Went o c' (finish f.installed m (Walk p r d)) (filled f.installed m c (Walk p r d)) → Served true f z q a (held m t c')
    served_walk {r} {d} e went =
        let w : y ≡ Walk p r d = sym is ∙ e in rw answers (served {o = o} (rw w went.comes) (rw w acts) (rw w went.leaves))

  pub served_fences : {d : Bool} {a : Answer} {t : Live} → k ≡ Fences d → a ≡ Done → t ≡ whole f.sizes.pes (Fence d) s → Served true f z q a (held m t c)
  unfolding finish act
  served_fences {d} e answers acts =
      let w : y ≡ Fences d = sym is ∙ e in
      rw answers (served {o = done (Fence d)} (rw w refl) acts (rw w (sym (fence_fills true f.installed m c d))))

-- `maintain`: r is N, or reason 1
module _ (f : Tables) (m c : List ℕ) (s : Live) {r : Result ℕ Reason}
    (asks : r ≡ cond (eqb (length c) cache_words && sized f.sizes (lengths f (length m) s)) (Ok f.sizes.pes) (Err TableLength)) where
  pub unfit : (q : Operation) {a : Answer} {x : Reason} → r ≡ Err x → a ≡ refuse x → Operated f (held m s c) q a (held m s c)
  unfit q {x = x} e says =
      let u = err_false f.sizes.pes TableLength x (fit f (held m s c)) (sym asks ∙ e) in
      rw (says, u.1) (operated f (held m s c) q (sym (answer-one f (held m s c) u.0 q)) (sym (stuck f (held m s c) u.0 q)))

  module _ {p : ℕ} (e : r ≡ Ok p) where
    good_fit : fit f (held m s c) ≡ true
    good_fit = some_true f.sizes.pes p TableLength (fit f (held m s c)) (sym asks ∙ e)

    pes_is : p ≡ f.sizes.pes
    pes_is = some_is f.sizes.pes p TableLength (fit f (held m s c)) (sym asks ∙ e)

    module _ {q : Operation} where
      pub edited : {k v : ℕ} {a : Answer} {m' c' : List ℕ} → q ≡ Edit k v → Edited p f.entries m c k v a m' c'
          → Operated f (held m s c) (maintained q) a (held m' s c')
      edited {k} {v} is did =
          let x = held m s c in
          let own = rw pes_is at did in
          rw is (operated f x (Edit k v) (edit-answer f x k v own (finish_of f x) ∙ rw good_fit)
          (ap₂ (λ (s : Bare) (d : List ℕ). record { bare = s; cache = d }) (edit-leaves f x k v own (finish_of f x)) (edit-cache f x k v own) ∙ rw good_fit))

      pub invalidated : {i : Scope} {a : Answer} {c' : List ℕ} → q ≡ Invalidate i → Invalidated p f.entries c i a c'
          → Operated f (held m s c) (maintained q) a (held m s c')
      invalidated {i} is did =
          let x = held m s c in
          let own = rw pes_is at did in
          rw is (operated f x (Invalidate i) (invalidate-answer f x i own (finish_of f x) ∙ rw good_fit)
          (ap (λ (d : List ℕ). record { bare = x.bare; cache = d }) (invalidate-cache f x i own) ∙ rw good_fit))

    pub nothing_named : {q : Operation} {y : Request} {a : Answer} → q ≡ Plain y → a ≡ refuse BadRequest → Operated f (held m s c) (maintained q) a (held m s c)
    unfolding checked formed looked filled finish cache_by
    nothing_named is says =
        let x = held m s c in
        rw (is, says) (operated f x (Plain Unnamed) (rw good_fit)
        (rw good_fit (ap (λ (s : Live). record { bare = record { memory = m; live = s }; cache = c }) (sym (still f (owner f s Unnamed) s)))))

-- `operate`
module _ (f : Tables) (x : Cached) {q : Operation} {a : Answer} {y : Cached} where
  pub plainly : {p : Request} → q ≡ Plain p → Served true f x p a y → Operated f x q a y
  plainly {p} e did = rw e (operated f x (Plain p) did.answers did.leaves)
