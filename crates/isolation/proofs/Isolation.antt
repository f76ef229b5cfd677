-- Theorems of specs/Isolation.antt.
--     isolation           THE THEOREM
--     places-start        the places by the start: no request changes them
--     belongs-keeps       no request changes which requests belong to the group; place-keeps: nor which have a place
--     laws                the laws of one request are laws of two machines
--     run_agrees          two lists, in the relations of those laws
-- Assumes nothing.
use Rattle.std.specs.Prelude.{◌≡◌, refl, Bool, true, false, cond, List, [], ◌∷◌, ℕ}
use Rattle.std.proofs.Common.{sym, ap, ap₂, subst, ◌∙◌, arith}
use Rattle.std.proofs.Math.Option.{Option, none, some}
use Rattle.kinds.specs.Tests.{given}
use Rattle.kinds.proofs.Tests.{by_cases, clash, option_cases, none-some}
use Rattle.kinds.specs.Words.{at}
use Rattle.kinds.specs.declared.answer.Answer.{Answer}
use Rattle.kinds.specs.declared.number.PeNumber.{PeNumber}
use Rattle.kinds.specs.declared.outcome.Effect.TheVariants.{Fence}
use Rattle.kinds.specs.declared.record.Sizes.{Sizes}
use Rattle.kinds.specs.declared.request.Request.{Request}
use Rattle.profile.specs.Tables.{Tables, Live}
use Rattle.profile.specs.Fence.{fence_word, Event, fence_bit}
use Rattle.profile.specs.Step.{decided, after}
use Rattle.profile.specs.Owner.{owner}
use Rattle.profile.specs.Agree.{owned, belongs, obeyed, Closed, Same, Alike, Held}
use Rattle.profile.proofs.AgreeLaws.{same_sym, same_trans}
use Rattle.profile.proofs.ActLaws.{whole_agrees}
use Rattle.profile.proofs.EventLaws.{free-calm, obeyed-does, obeyed-keeps}
use Rattle.profile.proofs.OwnerLaws.{owner-keeps}
use Rattle.profile.proofs.RequestLaws.{vector_agrees, answered_agrees, after_agrees, after_unseen}
use Rattle.isolation.specs.Machine.{Machine, Laws, chosen}
use Rattle.isolation.specs.Labels.{labels_by, SameLabel, watched}
use Rattle.isolation.proofs.Labels.{labels-start, unwound-labels}
use Rattle.isolation.specs.View.{Bridge, Agreed}
use Rattle.isolation.proofs.ViewLaws.{agreed, written}
use Rattle.isolation.specs.Isolation.{Isolation, Other, Own, Place, answers, left, machine, other, own, owns, place, places_in}

-- ---- what no request changes

pub belongs-keeps : (G : PeNumber → Bool) (f : Tables) (m : List ℕ) (s : Live) (q p : Request) → belongs G f (after f m s q) p ≡ belongs G f s p
belongs-keeps G f m s q p = ap (owned G) (owner-keeps f (owner f s q) (decided f m s q).effect s p)

pub place-keeps : (G : PeNumber → Bool) (f : Tables) (m : List ℕ) (s : Live) (q p : Request) → place G f m (after f m s q) p ≡ place G f m s p
place-keeps G f m s q p =
    ap₂ (λ (b : Bool) (o : Option Event). cond b (some (Own p)) (other o)) (belongs-keeps G f m s q p) (obeyed-keeps f m s q p)

pub closed_agrees : {G : PeNumber → Bool} {f g : Tables} → Alike G f g → Closed G f → Closed G g
closed_agrees w c = record { unlisted = λ p k h b o g. rw (← vector_agrees w p) (c.unlisted p k (rw w.sizes h) (rw w.sizes b) o g) }

-- ---- a request by its place

pub own-other : {P Q : Type 0} {q : Q} {e : Event} → Own q ≡ Other e → P
own-other h = absurd (let z : ◌≡◌ {A = ℕ} 0 1 = cc in omega arith)

-- mine: request q is the group's own; e: the event that it is, where it is obeyed
module _ {Q : Type 0} (mine : Bool) (e : Option Event) (q : Q) where
  pub placed-cases : {P : Type 0} (x : Place Q) → cond mine (some (Own q)) (other e) ≡ some x → (mine ≡ true → Own q ≡ x → P)
      → ((v : Event) → mine ≡ false → e ≡ some v → Other v ≡ x → P) → P
  placed-cases x h own event =
      by_cases mine
      (λ o. let z : some (Own q) ≡ some x = rw o at h in own o (cc))
      (λ o. option_cases e
      (λ i. none-some (rw (o, i) at h))
      (λ v i. let z : some (Other v) ≡ some x = rw (o, i) at h in event v o i (cc)))

  pub free-cases : given (cond mine (some (Own q)) (other e)) ≡ false → (mine ≡ false) × (e ≡ none)
  free-cases h =
      by_cases mine
      (λ o. clash refl (rw o at h))
      (λ o. option_cases e (λ i. (o, i)) (λ v i. clash refl (rw (o, i) at h)))

module _ (G : PeNumber → Bool) (f : Tables) (m : List ℕ) (s : Live) (q : Request) where
  pub own-placed : belongs G f s q ≡ true → given (place G f m s q) ≡ true
  own-placed o = rw o

  -- a request without a place is not seen
  free_unseen : Closed G f → given (place G f m s q) ≡ false → Same G f.sizes s (after f m s q)
  free_unseen c h =
      let z = free-cases (belongs G f s q) (obeyed f m s q) q h in after_unseen c s q z.0 (decided f m s q).effect (free-calm f m s q z.1)

-- ---- the laws of the two machines

module _ {G : PeNumber → Bool} {f g : Tables} {m n : List ℕ} (c : Closed G f) (w : Alike G f g) (h : Held G f m n) where
  abbrev first : Machine Live Request (Option Answer)
  first = watched (machine G f m) (place G f m)

  abbrev second : Machine Live Request (Option Answer)
  second = watched (machine G g n) (place G g n)

  module _ {s t : Live} (r : Same G f.sizes s t) where
    -- an own request, on both sides
    own-step : (q : Request) → belongs G f s q ≡ true → belongs G g t q ≡ true
        → (first.answer s q ≡ second.answer t q) × Same G f.sizes (after f m s q) (after g n t q)
    own-step q o o' = (rw (o, o') (ap some (answered_agrees w h r q o)), after_agrees w h r q o)

    -- an event of anybody, which may come from others on the other side
    pub event-step : (q p : Request) (e : Event) → belongs G f s q ≡ false → belongs G g t p ≡ false → obeyed f m s q ≡ some e → obeyed g n t p ≡ some e
        → (first.answer s q ≡ second.answer t p) × Same G f.sizes (after f m s q) (after g n t p)
    event-step q p e o o' i j =
        (rw (o, o'), rw (obeyed-does f m s q e i, obeyed-does g n t p e j, ← w.sizes) (whole_agrees r (Fence (fence_bit e))))

    step_agrees : (q p : Request) → SameLabel (place G f m) (place G g n) s t q p → given (place G f m s q) ≡ true
        → (first.answer s q ≡ second.answer t p) × Same G f.sizes (after f m s q) (after g n t p)
    step_agrees q p e k =
        option_cases (place G f m s q) (λ i. clash k (rw i)) (λ x i.
        placed-cases (belongs G f s q) (obeyed f m s q) q x i
        (λ o u. placed-cases (belongs G g t p) (obeyed g n t p) p x (sym e ∙ i)
        (λ o' v. let z : q ≡ p = cc in rw (← z) (own-step q o (rw z o')))
        (λ y o' j v. own-other (u ∙ sym v)))
        (λ y o j u. placed-cases (belongs G g t p) (obeyed g n t p) p x (sym e ∙ i)
        (λ o' v. own-other (v ∙ sym u))
        (λ z o' l v. let d : y ≡ z = cc in event-step q p y o o' j (rw d l))))

  pub laws : Laws first second (SameLabel (place G f m) (place G g n)) (Same G f.sizes)
  laws = record {
    skip_left = λ {s = s} r q o. same_trans (same_sym (free_unseen G f m s q c o)) r;
    skip_right = λ {t = t} r q o.
        same_trans r (subst (λ (z : Sizes). Same G z t (after g n t q)) (sym w.sizes) (free_unseen G g n t q (closed_agrees w c) o));
    step = λ r q p e o _. step_agrees r q p e o;
  }

-- ---- two lists

pub run_agrees : {G : PeNumber → Bool} {a b : Bridge} → Closed G a.tables → Agreed G a b → (l k : List Request) → places_in G a l ≡ places_in G b k
    → (answers G a l ≡ answers G b k) × Same G a.tables.sizes (left a l) (left b k)
run_agrees {G} {a} {b} c r l k e =
    unwound-labels (machine G a.tables a.memory) (machine G b.tables b.memory) (place G a.tables a.memory) (place G b.tables b.memory)
    (laws c r.tables r.memory) (own-placed G a.tables a.memory) (own-placed G b.tables b.memory) a.live b.live r.live l k e

pub isolation : Isolation
isolation = record {
  isolated = λ G a b c v l k e.
      let both = run_agrees c (agreed v) l k e in
      let here : fence_word a.tables.sizes.pes ≡ fence_word b.tables.sizes.pes = ap (λ (z : Sizes). fence_word z.pes) v.public.sizes in
      (both.0, written both.1, both.1.fence-word ∙ ap (at (left b k).state) here);
}

owns_by : (G : PeNumber → Bool) (f : Tables) (m : List ℕ) (s : Live) (l : List Request) → owns (labels_by (place G f m s) l) ≡ chosen (belongs G f s) l
owns_by G f m s [] = refl
owns_by G f m s (q ∷ l) =
    by_cases (belongs G f s q)
    (λ o. rw (o, owns_by G f m s l))
    (λ o. option_cases (obeyed f m s q) (λ i. rw (o, i, owns_by G f m s l)) (λ e i. rw (o, i, owns_by G f m s l)))

pub places-start : (G : PeNumber → Bool) (a : Bridge) (l : List Request) → places_in G a l ≡ labels_by (place G a.tables a.memory a.live) l
places-start G a l =
    labels-start (after a.tables a.memory) (place G a.tables a.memory) (place-keeps G a.tables a.memory) a.live l

pub places-own : (G : PeNumber → Bool) (a : Bridge) (l : List Request) → owns (places_in G a l) ≡ own G a l
places-own G a l = ap owns (places-start G a l) ∙ owns_by G a.tables a.memory a.live l
