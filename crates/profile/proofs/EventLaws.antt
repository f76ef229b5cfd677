-- Laws of the two kinds of request that change the fence.
--     fence_of x          what the effect x does to the fence, as an event
--     obeyed-is           THE LAW: a request changes the fence exactly where it is obeyed, and as its kind says
--     free-calm           one that is not obeyed has no effect on the fence; fence-kept: whatever it does, every bit of the fence word stays
--     obeyed-does         and one that is obeyed does that and nothing else, whoever sent it: no PE is frozen
--     after-lengths       no request changes the length of a table
--     obeyed-keeps        no request changes whether another one is obeyed
-- Assumes nothing.
use Rattle.kinds.specs.Lookup.{Owner}
use Rattle.std.specs.Prelude.{◌≡◌, Bool, cond, List, ℕ, length, Ok, Err}
use Rattle.std.proofs.Math.Path.{refl}
use Rattle.std.proofs.Common.{sym, ap, ap₂, ◌∙◌}
use Rattle.std.proofs.Math.Bool.{true, false}
use Rattle.std.proofs.Math.Option.{Option, none, some}
use Rattle.kinds.specs.Answer.{refuse, is_done}
use Rattle.kinds.specs.declared.outcome.Check.TheVariants.{Kept}
use Rattle.kinds.specs.Outcome.{refused, done}
use Rattle.kinds.proofs.Tests.{by_cases, clash, option_cases, none-some}
use Rattle.kinds.specs.Words.{at}
use Rattle.kinds.specs.declared.answer.Reason.TheVariants.{TableLength}
use Rattle.kinds.specs.declared.number.PeNumber.{PeNumber}
use Rattle.kinds.specs.declared.outcome.Effect.{Effect}
use Rattle.kinds.specs.declared.outcome.Effect.TheVariants.{Keep, Freeze, Release, Interrupt, Fence}
use Rattle.kinds.specs.declared.outcome.Outcome.{Outcome}
use Rattle.kinds.specs.declared.request.Request.{Request}
use Rattle.kinds.specs.declared.request.Request.TheVariants.{Dma, Load, Store, Error, Clear, End, Priority, Fatal, FenceClear, Unnamed}
use Rattle.profile.specs.Tables.{Tables, Live, lengths, sized}
use Rattle.profile.specs.Fence.{fence_word, fenced, stops, barred, shut, Event, FatalMessage, Cleared, kind, fence_bit}
use Rattle.profile.specs.Step.{formed, unowned, ask, asked, checked, finish, whole, act, act_by, decided, answered, after}
use Rattle.profile.specs.Owner.{owner}
use Rattle.profile.specs.Agree.{owned, obeyed, Closed, Same}
use Rattle.profile.proofs.ActLaws.{calm, SameLengths, act_by-lengths}
use Rattle.profile.proofs.OwnerLaws.{owner-keeps}
use Rattle.profile.proofs.RequestLaws.{after_unseen}
use Rattle.profile.proofs.AnswersLaws.{decided-calm}

abbrev pub fence_of : Effect → Option Event
fence_of Keep = none
fence_of (Freeze e b) = none
fence_of (Release c) = none
fence_of (Interrupt i n b) = none
fence_of (Fence true) = some FatalMessage
fence_of (Fence false) = some Cleared

-- ---- what such a request comes to

-- by reason 1 and by its owner
abbrev event_by : Event → (ok : Bool) → Owner → Outcome
event_by e false o = refused TableLength
event_by FatalMessage true (Ok p) = done (Fence true)
event_by FatalMessage true (Err x) = refused x
event_by Cleared true o = done (Fence false)

module _ (f : Tables) (m : List ℕ) (s : Live) where
  -- request q by the fence word w and its owner o
  abbrev decided_with : (w : ℕ) → (ok : Bool) → Request → Owner → Outcome
  decided_with w ok q o =
      finish f.installed m
      (cond ok (cond (barred w q) (Kept (shut q)) (asked f.sizes f.installed f.requesters f.entries f.windows f.segments s q o)) (Kept (refuse TableLength)))

  fatal_with : (w r : ℕ) (ok : Bool) (o : Owner) → decided_with w ok (Fatal r) o ≡ event_by FatalMessage ok o
  unfolding stops asked ask unowned finish
  fatal_with w r false o = refl
  fatal_with w r true (Ok p) = by_cases (fenced w) (λ b. rw b) (λ b. rw b)
  fatal_with w r true (Err x) = by_cases (fenced w) (λ b. rw b) (λ b. rw b)

  clear_with : (w : ℕ) (ok : Bool) (o : Owner) → decided_with w ok FenceClear o ≡ event_by Cleared ok o
  unfolding stops asked ask unowned finish
  clear_with w false o = refl
  clear_with w true (Ok p) = by_cases (fenced w) (λ b. rw b) (λ b. rw b)
  clear_with w true (Err x) = by_cases (fenced w) (λ b. rw b) (λ b. rw b)

  decided-event : (q : Request) (e : Event) → kind q ≡ some e → decided f m s q ≡ event_by e (sized f.sizes (lengths f (length m) s)) (owner f s q)
  unfolding checked formed
  decided-event (Dma q) e h = none-some h
  decided-event (Load a w) e h = none-some h
  decided-event (Store a w) e h = none-some h
  decided-event (Error r) e h = none-some h
  decided-event (Clear p c) e h = none-some h
  decided-event (End i) e h = none-some h
  decided-event (Priority i n) e h = none-some h
  decided-event (Fatal r) e h = let z : FatalMessage ≡ e = cc in rw (← z) (fatal_with (at s.state (fence_word f.sizes.pes)) r (sized f.sizes (lengths f (length m) s)) (owner f s (Fatal r)))
  decided-event FenceClear e h = let z : Cleared ≡ e = cc in rw (← z) (clear_with (at s.state (fence_word f.sizes.pes)) (sized f.sizes (lengths f (length m) s)) (owner f s FenceClear))
  decided-event Unnamed e h = none-some h

-- ---- where it is obeyed

calm-none : (x : Effect) → calm x ≡ true → fence_of x ≡ none
calm-none Keep h = refl
calm-none (Freeze e b) h = refl
calm-none (Release c) h = refl
calm-none (Interrupt i n b) h = refl
calm-none (Fence b) h = clash h refl

none-calm : (x : Effect) → fence_of x ≡ none → calm x ≡ true
none-calm Keep h = refl
none-calm (Freeze e b) h = refl
none-calm (Release c) h = refl
none-calm (Interrupt i n b) h = refl
none-calm (Fence true) h = none-some (sym h)
none-calm (Fence false) h = none-some (sym h)

some-fence : (x : Effect) (e : Event) → fence_of x ≡ some e → x ≡ Fence (fence_bit e)
some-fence Keep e h = none-some h
some-fence (Freeze r b) e h = none-some h
some-fence (Release c) e h = none-some h
some-fence (Interrupt i n b) e h = none-some h
some-fence (Fence true) e h = let z : FatalMessage ≡ e = cc in rw (← z)
some-fence (Fence false) e h = let z : Cleared ≡ e = cc in rw (← z)

-- done and the fence's effect come together
by_event : (e : Event) (ok : Bool) (o : Owner) → cond (is_done (event_by e ok o).answer) (some e) none ≡ fence_of (event_by e ok o).effect
by_event e false o = refl
by_event FatalMessage true (Ok p) = refl
by_event FatalMessage true (Err x) = refl
by_event Cleared true o = refl

same_none : (b : Bool) → ◌≡◌ {A = Option Event} (cond b none none) none
same_none true = refl
same_none false = refl

module _ (f : Tables) (m : List ℕ) (s : Live) (q : Request) where
  pub obeyed-is : obeyed f m s q ≡ fence_of (decided f m s q).effect
  obeyed-is =
      option_cases (kind q)
      (λ h. rw (h, calm-none (decided f m s q).effect (decided-calm f m s q h)) (same_none (is_done (answered f m s q))))
      (λ e h.
      let d = decided-event f m s q e h in
      rw h
      (ap (λ (o : Outcome). cond (is_done o.answer) (some e) none) d ∙ by_event e (sized f.sizes (lengths f (length m) s)) (owner f s q)
      ∙ sym (ap (λ (o : Outcome). fence_of o.effect) d)))

  pub free-calm : obeyed f m s q ≡ none → calm (decided f m s q).effect ≡ true
  free-calm h = none-calm (decided f m s q).effect (sym obeyed-is ∙ h)

  acted-whole : (o : Owner) (b : Bool) → act_by f o (Fence b) s ≡ whole f.sizes.pes (Fence b) s
  unfolding act_by act
  acted-whole (Ok p) b = refl
  acted-whole (Err x) b = refl

  pub obeyed-does : (e : Event) → obeyed f m s q ≡ some e → after f m s q ≡ whole f.sizes.pes (Fence (fence_bit e)) s
  obeyed-does e h =
      ap (λ (x : Effect). act_by f (owner f s q) x s) (some-fence (decided f m s q).effect e (sym obeyed-is ∙ h)) ∙ acted-whole (owner f s q) (fence_bit e)

-- ---- no request changes whether another one is obeyed

-- nobody is a member: what is left of `Same` is that lengths and public words stay
abbrev nobody : PeNumber → Bool
nobody p = false

nobody-closed : (f : Tables) → Closed nobody f
nobody-closed f = record { unlisted = λ p k h b o g. clash g refl }

nobody-owned : (o : Owner) → owned nobody o ≡ false
nobody-owned (Ok p) = refl
nobody-owned (Err r) = refl

module _ (f : Tables) (m : List ℕ) (s : Live) (q : Request) where
  unobeyed_same : obeyed f m s q ≡ none → Same nobody f.sizes s (after f m s q)
  unobeyed_same h = after_unseen (nobody-closed f) s q (nobody-owned (owner f s q)) (decided f m s q).effect (free-calm f m s q h)

  pub fence-kept : obeyed f m s q ≡ none → at (after f m s q).state (fence_word f.sizes.pes) ≡ at s.state (fence_word f.sizes.pes)
  fence-kept h = sym (unobeyed_same h).fence-word

  pub after-lengths : SameLengths s (after f m s q)
  after-lengths = act_by-lengths f (owner f s q) (decided f m s q).effect s

  after-sized : (n : ℕ) → sized f.sizes (lengths f n (after f m s q)) ≡ sized f.sizes (lengths f n s)
  after-sized n = rw (← after-lengths.0, ← after-lengths.1)

  pub obeyed-keeps : (p : Request) → obeyed f m (after f m s q) p ≡ obeyed f m s p
  obeyed-keeps p =
      option_cases (kind p)
      (λ h. rw h (same_none (is_done (answered f m (after f m s q) p)) ∙ sym (same_none (is_done (answered f m s p)))))
      (λ e h.
      let same = ap₂ (event_by e) (after-sized (length m)) (owner-keeps f (owner f s q) (decided f m s q).effect s p) in
      rw h (ap (λ (o : Outcome). cond (is_done o.answer) (some e) none) (decided-event f m (after f m s q) p e h ∙ same ∙ sym (decided-event f m s p e h))))
