-- Theorems of specs/Release.antt.
--     cached_released     THE THEOREM
-- Assumes nothing.
use Rattle.kinds.specs.Lookup.{Owner}
use Rattle.std.specs.Prelude.{◌≡◌, Bool, true, false, List, [], ◌∷◌, ◌++◌, ℕ, ◌*◌, ◌<◌, ◌≤◌, eqb, length, Ok}
use Rattle.std.proofs.Math.Path.{refl}
use Rattle.std.proofs.Common.{sym, ap, ◌∙◌, eq-eqb}
use Rattle.std.proofs.Math.Option.{none}
use Rattle.kinds.specs.declared.outcome.Check.{Check}
use Rattle.kinds.specs.Tests.{given}
use Rattle.kinds.proofs.Tests.{by_cases, clash, and_right}
use Rattle.kinds.specs.Words.{at}
use Rattle.kinds.specs.declared.number.PeNumber.{PeNumber}
use Rattle.kinds.specs.declared.outcome.Effect.{Effect}
use Rattle.kinds.specs.declared.outcome.Effect.TheVariants.{Keep}
use Rattle.kinds.specs.declared.request.Operation.{Operation}
use Rattle.kinds.specs.declared.request.Operation.TheVariants.{Plain, Edit, Invalidate}
use Rattle.kinds.specs.declared.request.Part.{Part}
use Rattle.kinds.specs.declared.request.Part.TheVariants.{Mmio, Dma, Record}
use Rattle.kinds.specs.declared.request.Request.{Request}
use Rattle.profile.specs.Agree.{belongs, owned, Same}
use Rattle.profile.proofs.AgreeLaws.{alike_refl}
use Rattle.profile.specs.Freeze.{stop_word, reason_word, value_word, failed_word}
use Rattle.profile.specs.Owner.{owner}
use Rattle.profile.proofs.RequestLaws.{sized_agrees, checked_agrees}
use Rattle.profile.specs.Step.{checked, finish, act_by, whole}
use Rattle.profile.specs.Tables.{Tables, Live, state_words, lengths, sized}
use Rattle.isolation.specs.Machine.{end}
use Rattle.history.specs.History.{Step, leaves, steps, freezes, freeze_of, clears, any, since, cleared, stop_of, recorded, record_of, record_at, Zeros, unfrozen}
use Rattle.history.proofs.HistoryLaws.{since_none, none_first, cleared_mmio, only, unfrozen-same, steps-both, end-both, steps_leave}
use Rattle.history.proofs.Release.{steps-released, sized-long, keeps-unfrozen, keeps-uncleared}
use Rattle.edits.specs.Edits.{good, checked_by}
use Rattle.cache.specs.Slots.{cache_words}
use Rattle.cache.specs.Cache.{looked, Cached, fit, finish_of, cached_answer, cached_after}
use Rattle.cache_claims.proofs.DemandLaws.{stuck}
use Rattle.cache_claims.specs.Release.{CachedReleased, both, cached_history, cached_step, thaw}

-- ---- an operation does its step

does : (f : Tables) (x : Cached) (q : Operation) → (cached_after f x q).bare.live ≡ act_by f (cached_step f x q).owner (cached_step f x q).effect x.bare.live
unfolding act_by whole
does f x (Plain q) = refl
does f x (Edit k v) = refl
does f x (Invalidate s) = refl

pub left-leaves : (f : Tables) (x : Cached) (l : List Operation) → (end (cached_after f) x l).bare.live ≡ leaves f (cached_history f x l) x.bare.live
left-leaves f x l = steps_leave (cached_after f) (cached_step f) f (λ y. y.bare.live) (does f) x.bare.live [] x refl l

-- ---- where reason 1 holds nothing is done

fit-long : (f : Tables) (x : Cached) → fit f x ≡ true → f.sizes.pes * state_words ≤ length x.bare.live.state
fit-long f x o =
    sized-long (record { tables = f; memory = x.bare.memory; live = x.bare.live }) (and_right (eqb (length x.cache) cache_words) (good f x.bare) o)

module _ (f : Tables) (x : Cached) (o : fit f x ≡ false) where
  stuck-left : (l : List Operation) → end (cached_after f) x l ≡ x
  stuck-left [] = refl
  stuck-left (q ∷ l) = ap (λ (y : Cached). end (cached_after f) y l) (stuck f x o q) ∙ stuck-left l

  stuck-effect : (q : Operation) → (cached_step f x q).effect ≡ Keep
  unfolding checked looked finish
  stuck-effect (Plain q) = rw o
  stuck-effect (Edit k v) = refl
  stuck-effect (Invalidate s) = refl

  -- t picks no step without an effect
  stuck-any : (t : Step → Bool) → ((i : Owner) → t (record { owner = i; effect = Keep }) ≡ false) → (h : List Step) (l : List Operation)
      → any t (steps (cached_after f) (cached_step f) h x l) ≡ any t h
  stuck-any t idle h [] = refl
  stuck-any t idle h (q ∷ l) =
      let d = cached_step f x q in
      let still : t d ≡ false = ap (λ (e : Effect). t (record { owner = d.owner; effect = e })) (stuck-effect q) ∙ idle d.owner in
      ap (λ (y : Cached). any t (steps (cached_after f) (cached_step f) (d ∷ h) y l)) (stuck f x o q) ∙ stuck-any t idle (d ∷ h) l ∙ rw still

-- ---- a PE after a list

module _ (f : Tables) (x : Cached) (zeros : Zeros x.bare.live) (k : PeNumber) (low : k.0 < f.sizes.pes) where
  none-frozen : fit f x ≡ false → (c : Part) (l : List Operation) → any (freezes f k) (since (clears c k) (cached_history f x l)) ≡ false
  none-frozen o c l =
      since_none (clears c k) (freezes f k) (cached_history f x l) (stuck-any f x o (freezes f k) (λ i. ap given (keeps-unfrozen f k i)) [] l)

  left-stop : (l : List Operation) → at (end (cached_after f) x l).bare.live.state (stop_word k) ≡ stop_of f k (cached_history f x l)
  left-stop l =
      by_cases (fit f x)
      (λ o. rw (left-leaves f x l) (steps-released.stop f x.bare.live zeros (fit-long f x o) (cached_history f x l) k low))
      (λ o. rw (stuck-left f x o l, none-frozen o Mmio l, none-frozen o Dma l) (zeros (stop_word k)))

  left_record : (l : List Operation) → record_at (end (cached_after f) x l).bare.live.state k ≡ record_of f k (cached_history f x l)
  left_record l =
      by_cases (fit f x)
      (λ o. rw (left-leaves f x l) (steps-released.error_record f x.bare.live zeros (fit-long f x o) (cached_history f x l) k low))
      (λ o. rw (stuck-left f x o l, none_first (freeze_of f k) (since (clears Record k) (cached_history f x l)) (none-frozen o Record l))
      (rw (zeros (reason_word k), zeros (value_word k), zeros (failed_word k))))

  module _ (l r : List Operation) (c : cleared f k (cached_history f (end (cached_after f) x l) r) ≡ true) where
    y : Cached
    y = end (cached_after f) x l

    both-leaves : (both f x l r).bare.live ≡ leaves f (cached_history f (end (cached_after f) x l) r ++ cached_history f x l) x.bare.live
    both-leaves =
        ap (λ (z : Cached). z.bare.live) (sym (end-both (cached_after f) x l r)) ∙ left-leaves f x (l ++ r)
        ∙ ap (λ (h : List Step). leaves f h x.bare.live) (steps-both (cached_after f) (cached_step f) [] x l r)

    -- there was a clear, so that reason 1 does not hold
    unclear : fit f x ≡ false → any (clears Mmio k) (cached_history f (end (cached_after f) x l) r) ≡ false
    unclear o =
        ap (λ (z : Cached). any (clears Mmio k) (cached_history f z r)) (stuck-left f x o l) ∙ stuck-any f x o (clears Mmio k) (keeps-uncleared Mmio k) [] r

    released-words : (at (both f x l r).bare.live.state (stop_word k) ≡ 0) × (record_at (both f x l r).bare.live.state k ≡ recorded none)
    released-words =
        by_cases (fit f x)
        (λ o. rw both-leaves (steps-released.release f x.bare.live zeros (fit-long f x o) (cached_history f x l) (cached_history f (end (cached_after f) x l) r) k low c))
        (λ o. clash (cleared_mmio f k [] (cached_history f (end (cached_after f) x l) r) c) (unclear o))

-- ---- the next request

-- the checks of an own request, by whether reason 1 holds on both
checked-same : (f : Tables) (n : ℕ) (k : PeNumber) (s t : Live) → Same (only k) f.sizes s t → (b : Bool) (q : Request) → belongs (only k) f s q ≡ true
    → (b ≡ true → sized f.sizes (lengths f n s) ≡ true) → checked_by b f s q ≡ checked_by b f t q
unfolding checked
checked-same f n k s t r false q o g = refl
checked-same f n k s t r true q o g =
    let w = alike_refl f in
    let z : sized f.sizes (lengths f n t) ≡ true = sym (sized_agrees w r n) ∙ g refl in
    unfold checked in rw (g refl, z) at (checked_agrees w r n q o)

thaw-answer : (f : Tables) (x : Cached) (k : PeNumber) → Same (only k) f.sizes x.bare.live (unfrozen f.sizes.pes x.bare.live)
    → (q : Request) → owner f x.bare.live q ≡ Ok k → cached_answer f x (Plain q) ≡ cached_answer f (thaw f x) (Plain q)
thaw-answer f x k r q o =
    let n = length x.bare.memory in
    let s = x.bare.live in
    let t = unfrozen f.sizes.pes s in
    let mine : belongs (only k) f s q ≡ true = ap (owned (only k)) o ∙ eq-eqb k.0 k.0 refl in
    let same : fit f x ≡ fit f (thaw f x) = rw (sized_agrees (alike_refl f) r n) in
    rw (← same) (ap (λ (c : Check). (finish_of f x c).answer) (checked-same f n k s t r (fit f x) q mine (λ b. and_right (eqb (length x.cache) cache_words) (good f x.bare) b)))

pub cached_released : CachedReleased
cached_released = record {
  stop = λ f x z l k low. left-stop f x z k low l;
  error_record = λ f x z l k low. left_record f x z k low l;
  release = λ f x z l r k low c q o.
      let w = released-words f x z k low l r c in
      thaw-answer f (both f x l r) k (unfrozen-same f (both f x l r).bare.live k low w.0 w.1) q o;
}
