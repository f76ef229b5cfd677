-- Demand 3 of the bridge whose memory firmware edits, from the laws of one request.
--     good_agrees         reason 1 holds on both bridges, or on none
--     Match               two operations match: they have the same place, and what an edit brings into reach is equal
--     bare-laws           THE LAWS of one operation
-- Assumes nothing.
use Rattle.std.specs.Prelude.{◌≡◌, refl, Bool, true, false, length}
use Rattle.std.proofs.Common.{sym, ap, ap₂, ◌∙◌}
use Rattle.std.proofs.Math.Option.{Option, none, some}
use Rattle.kinds.specs.Tests.{given}
use Rattle.kinds.proofs.Tests.{by_cases, clash, option_cases, none-some}
use Rattle.kinds.specs.declared.answer.Answer.{Answer}
use Rattle.kinds.specs.declared.number.PeNumber.{PeNumber}
use Rattle.kinds.specs.declared.request.Operation.{Operation}
use Rattle.kinds.specs.declared.request.Operation.TheVariants.{Plain, Edit, Invalidate}
use Rattle.kinds.specs.declared.request.Scope.{Scope}
use Rattle.profile.specs.Tables.{Tables}
use Rattle.profile.specs.Fence.{Event}
use Rattle.profile.specs.Agree.{Closed, Alike}
use Rattle.profile.proofs.AgreeLaws.{held_sym, held_trans}
use Rattle.profile.proofs.RequestLaws.{sized_agrees, answered_agrees, after_agrees}
use Rattle.isolation.specs.Machine.{Machine, Laws}
use Rattle.isolation.specs.Labels.{SameLabel, watched}
use Rattle.isolation.specs.Isolation.{Place}
use Rattle.isolation.proofs.Isolation.{own-other, placed-cases, free-cases, event-step, laws}
use Rattle.edits.proofs.ReachLaws.{reads_reach, edit-away, edit-same, reads-alike}
use Rattle.edits.specs.Edits.{Bare, good, nameable, bare_answer, bare_after, invalidate_answer, owns, bare_machine, event, place_on, Fresh, Alive}

-- the place of an operation on the bridge without a cache
abbrev pub bare_place : (PeNumber → Bool) → Tables → Bare → Operation → Option (Place Operation)
bare_place G f s q = place_on (bare_machine G f) s q

abbrev pub Match : (PeNumber → Bool) → (f g : Tables) → Bare → Bare → Operation → Operation → Type 0
Match G f g s t q p = SameLabel (bare_place G f) (bare_place G g) s t q p × Fresh G f s t q

-- an own operation has a place
pub own-placed : {S : Type 0} (m : Machine S Operation Answer) (s : S) (q : Operation) → m.own s q ≡ true → given (place_on m s q) ≡ true
own-placed m s q o = rw o

module _ {G : PeNumber → Bool} {f g : Tables} (c : Closed G f) (w : Alike G f g) where
  abbrev first : Machine Bare Operation (Option Answer)
  first = watched (bare_machine G f) (bare_place G f)

  abbrev second : Machine Bare Operation (Option Answer)
  second = watched (bare_machine G g) (bare_place G g)

  pub good_agrees : {s t : Bare} → Alive G f s t → good f s ≡ good g t
  good_agrees {s} {t} r = rw r.1.memory_length (sized_agrees w r.0 (length t.memory))

  nameable_agrees : (x : Scope) → nameable f.sizes.pes x ≡ nameable g.sizes.pes x
  nameable_agrees x = rw w.sizes

  -- an operation without a place, on the left and on the right
  free-left : {s t : Bare} → Alive G f s t → (q : Operation) → owns G f s q ≡ false → event (bare_answer f s q) q ≡ none → Alive G f (bare_after f s q) t
  free-left r (Plain q) o e = ((laws c w r.1).skip_left r.0 q (rw (o, e)), r.1)
  free-left {s} {t} r (Edit k v) o e =
      by_cases (good f s)
      (λ z. rw z (r.0, held_trans (held_sym (edit-away s.memory k v (λ x. clash (reads_reach x) o))) r.1))
      (λ z. rw z r)
  free-left r (Invalidate x) o e = r

  free-right : {s t : Bare} → Alive G f s t → (q : Operation) → owns G g t q ≡ false → event (bare_answer g t q) q ≡ none → Alive G f s (bare_after g t q)
  free-right r (Plain q) o e = ((laws c w r.1).skip_right r.0 q (rw (o, e)), r.1)
  free-right {s} {t} r (Edit k v) o e =
      by_cases (good g t)
      (λ z. rw z (r.0, held_trans r.1 (edit-away t.memory k v (λ x. clash (reads_reach (reads-alike w x)) o))))
      (λ z. rw z r)
  free-right r (Invalidate x) o e = r

  module _ {s t : Bare} (r : Alive G f s t) where
    -- an own operation, on both sides
    own-both : (q : Operation) → Fresh G f s t q → owns G f s q ≡ true → (bare_answer f s q ≡ bare_answer g t q) × Alive G f (bare_after f s q) (bare_after g t q)
    own-both (Plain q) h o = (answered_agrees w r.1 r.0 q o, (after_agrees w r.1 r.0 q o, r.1))
    own-both (Edit k v) h o =
        rw (← good_agrees r, ← r.1.memory_length)
        (by_cases (good f s)
        (λ z. rw z (refl, (r.0, edit-same r.1 k v (rw z at h))))
        (λ z. rw z (refl, r)))
    own-both (Invalidate x) h o = (ap₂ invalidate_answer (good_agrees r) (nameable_agrees x), r)

    -- a fatal message or a fence clear of anybody, on both sides
    event-both : (q p : Operation) (e : Event) → owns G f s q ≡ false → owns G g t p ≡ false → event (bare_answer f s q) q ≡ some e
        → event (bare_answer g t p) p ≡ some e → Alive G f (bare_after f s q) (bare_after g t p)
    event-both (Plain q) (Plain p) e o o' i j = ((event-step c w r.1 r.0 q p e o o' i j).1, r.1)
    event-both (Plain q) (Edit k v) e o o' i j = none-some j
    event-both (Plain q) (Invalidate x) e o o' i j = none-some j
    event-both (Edit k v) p e o o' i j = none-some i
    event-both (Invalidate x) p e o o' i j = none-some i

    step_both : (q p : Operation) → Match G f g s t q p → given (bare_place G f s q) ≡ true
        → (first.answer s q ≡ second.answer t p) × Alive G f (bare_after f s q) (bare_after g t p)
    step_both q p (e, h) k =
        option_cases (bare_place G f s q) (λ i. clash k (rw i)) (λ x i.
        placed-cases (owns G f s q) (event (bare_answer f s q) q) q x i
        (λ o u. placed-cases (owns G g t p) (event (bare_answer g t p) p) p x (sym e ∙ i)
        (λ o' v. let z : q ≡ p = cc in let o'' : owns G g t q ≡ true = rw z o' in let y = own-both q h o in rw (← z) (rw (o, o'') (ap some y.0), y.1))
        (λ y o' j v. own-other (u ∙ sym v)))
        (λ y o j u. placed-cases (owns G g t p) (event (bare_answer g t p) p) p x (sym e ∙ i)
        (λ o' v. own-other (v ∙ sym u))
        (λ z o' l v. let d : y ≡ z = cc in (rw (o, o'), event-both q p y o o' j (rw d l)))))

  pub bare-laws : Laws first second (Match G f g) (Alive G f)
  bare-laws = record {
    skip_left = λ {s = s} r q o. let z = free-cases (owns G f s q) (event (bare_answer f s q) q) q o in free-left r q z.0 z.1;
    skip_right = λ {t = t} r q o. let z = free-cases (owns G g t q) (event (bare_answer g t q) q) q o in free-right r q z.0 z.1;
    step = λ r q p e o _. step_both r q p e o;
  }
