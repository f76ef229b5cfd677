-- The claims about the bridge with a translation cache.
--     stuck               where reason 1 holds, the length of the cache included, nothing changes; answer-one: every answer is 1
--     simulation, cached_isolation    THE THEOREMS
-- Assumes nothing.
use Rattle.kinds.specs.Lookup.{Owner}
use Rattle.std.specs.Prelude.{◌≡◌, Bool, true, false, List, ℕ, eqb, length, Ok, Err}
use Rattle.std.proofs.Math.Path.{refl, ap}
use Rattle.std.proofs.Common.{sym, ap₂, subst, subst₂, ◌∙◌, eqb-true, ne_eqb}
use Rattle.std.proofs.Math.Option.{Option, none}
use Rattle.kinds.specs.Answer.{refuse}
use Rattle.kinds.specs.Tests.{given}
use Rattle.kinds.proofs.Tests.{by_cases, clash, and_left}
use Rattle.kinds.specs.Words.{at}
use Rattle.kinds.specs.declared.answer.Answer.{Answer}
use Rattle.kinds.specs.declared.answer.Reason.TheVariants.{TableLength}
use Rattle.kinds.specs.declared.number.PeNumber.{PeNumber}
use Rattle.kinds.specs.declared.outcome.Effect.TheVariants.{Keep}
use Rattle.kinds.specs.declared.record.Sizes.{Sizes}
use Rattle.kinds.specs.declared.request.Operation.{Operation}
use Rattle.kinds.specs.declared.request.Operation.TheVariants.{Plain, Edit, Invalidate}
use Rattle.kinds.specs.declared.request.Scope.TheVariants as scope
use Rattle.profile.specs.Agree.{Closed, Alike}
use Rattle.profile.specs.Fence.{fence_word}
use Rattle.profile.specs.Owner.{owner}
use Rattle.profile.specs.Step.{checked, finish, act, act_by, whole}
use Rattle.profile.specs.Tables.{Tables, Live}
use Rattle.isolation.specs.Labels.{somes, SameLabel, watched}
use Rattle.isolation.proofs.Labels.{label_pairs, seen-watched}
use Rattle.isolation.specs.Machine.{Machine, Laws, Runs, Pairs, OfMet, met, seen, end, replies}
use Rattle.isolation.specs.Unwind.{lifted}
use Rattle.isolation.proofs.Unwind.{unwound, pairs_both, run_same}
use Rattle.isolation.proofs.ViewLaws.{agreed, written}
use Rattle.edits.specs.Edits.{Bare, good, leaves_by, answer_by, bare_answer, bare_after, bare_machine, event, place_on, Fresh, Alive}
use Rattle.edits.proofs.EditsLaws.{bare_place, own-placed, good_agrees, bare-laws}
use Rattle.cache.specs.Slots.{cache_words}
use Rattle.cache.specs.Cache.{looked, filled, Cached, fit, finish_of, cache_by, cached_answer, cached_after, cached_machine}
use Rattle.cache.proofs.CacheLaws.{Fine, emptied_sound, answers-same, runs}
use Rattle.cache_claims.specs.Demand.{lent, begun, left, moments, Simulation, CachedIsolation}

-- ---- where reason 1 holds

kept : (f : Tables) (o : Owner) (s : Live) → act_by f o Keep s ≡ s
unfolding act_by act whole
kept f (Ok p) s = refl
kept f (Err r) s = refl

module _ (f : Tables) (x : Cached) where
  answer_off : (q : Operation) → answer_by false (finish_of f x) f x.bare q ≡ refuse TableLength
  unfolding checked looked finish
  answer_off (Plain q) = refl
  answer_off (Edit k v) = refl
  answer_off (Invalidate s) = refl

  cache_off : (q : Operation) → cache_by false f x q ≡ x.cache
  unfolding cache_by checked looked filled
  cache_off (Plain q) = refl
  cache_off (Edit k v) = refl
  cache_off (Invalidate s) = refl

  bare_off : (q : Operation) → leaves_by false (finish_of f x) f x.bare q ≡ x.bare
  unfolding checked looked finish
  bare_off (Plain q) = ap (λ (s : Live). record { memory = x.bare.memory; live = s }) (kept f (owner f x.bare.live q) x.bare.live)
  bare_off (Edit k v) = refl
  bare_off (Invalidate s) = refl

  module _ (o : fit f x ≡ false) where
    pub answer-one : (q : Operation) → cached_answer f x q ≡ refuse TableLength
    answer-one q = rw o (answer_off q)

    pub stuck : (q : Operation) → cached_after f x q ≡ x
    stuck q = rw o (ap₂ (λ (u : Bare) (c : List ℕ). record { bare = u; cache = c }) (bare_off q) (cache_off q))

-- ---- the machines whose operations are compared by their places

abbrev pub watched_cached : (PeNumber → Bool) → Tables → Machine Cached Operation (Option Answer)
watched_cached G f = watched (cached_machine G f) (place_on (cached_machine G f))

abbrev CachedMatch : (PeNumber → Bool) → (f g : Tables) → Cached → Cached → Operation → Operation → Type 0
CachedMatch G f g x y q p =
    SameLabel (place_on (cached_machine G f)) (place_on (cached_machine G g)) x y q p × Fresh G f x.bare y.bare q

place_same : (G : PeNumber → Bool) (f : Tables) (x : Cached) → Fine f x → (q : Operation) → place_on (cached_machine G f) x q ≡ bare_place G f x.bare q
place_same G f x i q = rw (answers-same f x i q)

watched-runs : (G : PeNumber → Bool) (f : Tables) → Runs (watched_cached G f) (watched (bare_machine G f) (bare_place G f)) (λ x. x.bare) (Fine f)
watched-runs G f =
    let w = runs G f in
    record {
      answers = λ x i q. rw (answers-same f x i q);
      owns = λ x i q. rw (place_same G f x i q);
      moves = λ x i q. w.moves x i q;
      stays = λ x i q. w.stays x i q;
    }

-- ---- both bridges stand still

abbrev Stuck : (PeNumber → Bool) → (f g : Tables) → Cached → Cached → Type 0
Stuck G f g x y = (fit f x ≡ false) × (fit g y ≡ false) × Alive G f x.bare y.bare

-- only own operations have a place
refused-event : (q : Operation) → event (refuse TableLength) q ≡ none
refused-event (Plain q) = refl
refused-event (Edit k v) = refl
refused-event (Invalidate s) = refl

stuck-own : (G : PeNumber → Bool) (f : Tables) (x : Cached) → fit f x ≡ false → (q : Operation) → given (place_on (cached_machine G f) x q) ≡ true
    → (cached_machine G f).own x q ≡ true
stuck-own G f x o q h =
    by_cases ((cached_machine G f).own x q) (λ z. z) (λ z. clash (rw (z, answer-one f x o q, refused-event q) at h) refl)

stuck-laws : (G : PeNumber → Bool) (f g : Tables) → Laws (watched_cached G f) (watched_cached G g) (CachedMatch G f g) (Stuck G f g)
stuck-laws G f g = record {
  skip_left = λ {s = x} {t = y} r q o. subst (λ (z : Cached). Stuck G f g z y) (sym (stuck f x r.0 q)) r;
  skip_right = λ {s = x} {t = y} r q o. subst (λ (z : Cached). Stuck G f g x z) (sym (stuck g y r.1 q)) r;
  step = λ {s = x} {t = y} r q p e o o'. (
    rw (stuck-own G f x r.0 q o, stuck-own G g y r.1 p o', answer-one f x r.0 q, answer-one g y r.1 p),
    subst₂ (λ (u v : Cached). Stuck G f g u v) (sym (stuck f x r.0 q)) (sym (stuck g y r.1 p)) r,
  );
}

-- ---- from the emptying on

fit-long : (f : Tables) (x : Cached) → fit f x ≡ true → length x.cache ≡ cache_words
fit-long f x o = eqb-true (length x.cache) cache_words (and_left (eqb (length x.cache) cache_words) (good f x.bare) o)

begun_fine : (f : Tables) (x : Cached) → fit f x ≡ true → Fine f (cached_after f x (Invalidate scope.All))
unfolding cache_by
begun_fine f x o = rw o (emptied_sound f x.bare.memory x.cache (fit-long f x o))

module _ {G : PeNumber → Bool} {f g : Tables} (c : Closed G f) (w : Alike G f g) where
  fit_agrees : (x y : Cached) → length x.cache ≡ length y.cache → Alive G f x.bare y.bare → fit f x ≡ fit g y
  fit_agrees x y e r = rw (e, good_agrees c w r)

  fine_laws : Laws (watched_cached G f) (watched_cached G g) (CachedMatch G f g) (λ x y. Fine f x × Fine g y × Alive G f x.bare y.bare)
  fine_laws =
      lifted (watched-runs G f) (watched-runs G g) (bare-laws c w)
      (λ x y i j q p e. (sym (place_same G f x i q) ∙ e.0 ∙ place_same G g y j p, e.1))

  from_empty : (x y : Cached) → length x.cache ≡ length y.cache → Alive G f x.bare y.bare → (l k : List Operation)
      → Pairs (OfMet (CachedMatch G f g)) (met (watched_cached G f) (cached_after f x (Invalidate scope.All)) l) (met (watched_cached G g) (cached_after g y (Invalidate scope.All)) k)
      → (seen (watched_cached G f) (cached_after f x (Invalidate scope.All)) l ≡ seen (watched_cached G g) (cached_after g y (Invalidate scope.All)) k)
      × Alive G f (end (cached_after f) (cached_after f x (Invalidate scope.All)) l).bare (end (cached_after g) (cached_after g y (Invalidate scope.All)) k).bare
  from_empty x y e r l k h =
      let x' = cached_after f x (Invalidate scope.All) in
      let y' = cached_after g y (Invalidate scope.All) in
      by_cases (fit f x)
      (λ o. let o' : fit g y ≡ true = rw (← fit_agrees x y e r) o in
      let z = unwound fine_laws x' y' (begun_fine f x o, begun_fine g y o', r) l k h in (z.0, z.1.2))
      (λ o. let o' : fit g y ≡ false = rw (← fit_agrees x y e r) o in
      let z = unwound (stuck-laws G f g) x' y'
      (subst₂ (λ (u v : Cached). Stuck G f g u v) (sym (stuck f x o (Invalidate scope.All))) (sym (stuck g y o' (Invalidate scope.All))) (o, o', r)) l k h in
      (z.0, z.1.2))

pub cached_isolation : CachedIsolation
cached_isolation = record {
  isolated = λ G a b c d e n v l k h i.
      let r = agreed v in
      let m = cached_machine G a.tables in
      let m' = cached_machine G b.tables in
      let pairs = pairs_both (OfMet (SameLabel (place_on m) (place_on m'))) (OfMet (λ x y q p. Fresh G a.tables x.bare y.bare q))
      (moments G a c l) (moments G b d k) (label_pairs m m' (place_on m) (place_on m') (begun a c) (begun b d) l k h) i in
      let z = from_empty n r.tables (lent a c) (lent b d) e (r.live, r.memory) l k pairs in
      let here : fence_word a.tables.sizes.pes ≡ fence_word b.tables.sizes.pes = ap (λ (z : Sizes). fence_word z.pes) v.public.sizes in (
        sym (seen-watched m (place_on m) (own-placed m) (begun a c) l) ∙ ap somes z.0 ∙ seen-watched m' (place_on m') (own-placed m') (begun b d) k,
        written z.1.0,
        z.1.0.fence-word ∙ ap (at (left b d k).bare.live.state) here,
      );
}

-- ---- the simulation, also where a table other than the cache has a wrong length: both bridges then stand still

module _ (f : Tables) (s : Bare) (o : good f s ≡ false) where
  bare-one : (q : Operation) → bare_answer f s q ≡ refuse TableLength
  unfolding checked finish
  bare-one (Plain q) = rw o
  bare-one (Edit k v) = rw o
  bare-one (Invalidate x) = rw o

  bare_stuck : (q : Operation) → bare_after f s q ≡ s
  unfolding checked finish
  bare_stuck (Plain q) = rw o (ap (λ (t : Live). record { memory = s.memory; live = t }) (kept f (owner f s.live q) s.live))
  bare_stuck (Edit k v) = rw o
  bare_stuck (Invalidate x) = refl

abbrev Still : Tables → Cached → Type 0
Still f x = (fit f x ≡ false) × (good f x.bare ≡ false)

still-runs : (G : PeNumber → Bool) (f : Tables) → Runs (cached_machine G f) (bare_machine G f) (λ x. x.bare) (Still f)
still-runs G f = record {
  answers = λ x i q. answer-one f x i.0 q ∙ sym (bare-one f x.bare i.1 q);
  owns = λ x i q. refl;
  moves = λ x i q. ap (λ (y : Cached). y.bare) (stuck f x i.0 q) ∙ sym (bare_stuck f x.bare i.1 q);
  stays = λ x i q. subst (Still f) (sym (stuck f x i.0 q)) i;
}

as_bare : (f : Tables) (x : Cached) → length x.cache ≡ cache_words → (l : List Operation)
    → (replies (cached_machine (λ p. false) f) (cached_after f x (Invalidate scope.All)) l ≡ replies (bare_machine (λ p. false) f) x.bare l)
    × ((end (cached_after f) (cached_after f x (Invalidate scope.All)) l).bare ≡ end (bare_after f) x.bare l)
as_bare f x e l =
    by_cases (good f x.bare)
    (λ o. run_same (runs (λ p. false) f) (cached_after f x (Invalidate scope.All)) (begun_fine f x (rw (e, o))) l)
    (λ o. let z : fit f x ≡ false = rw (e, o) in
    run_same (still-runs (λ p. false) f) (cached_after f x (Invalidate scope.All)) (subst (Still f) (sym (stuck f x z (Invalidate scope.All))) (z, o)) l)

pub simulation : Simulation
simulation = record {
  same = λ a c e l. as_bare a.tables (lent a c) e l;
  first = λ a c e. rw e;
  other_length = λ a c e q.
      let o : fit a.tables (lent a c) ≡ false = rw (ne_eqb (length c) cache_words e) in (answer-one a.tables (lent a c) o q, stuck a.tables (lent a c) o q);
}
