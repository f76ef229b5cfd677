-- What demand 3 gives: of one bridge, of what follows both lists, by the start, and of lists without fatal messages and fence clears; and reason 1 on both
-- bridges.
--     Answered G a b l k  what the claim says of two bridges and two lists
--     one-bridge          one start and two lists with the same places
--     heard G a l         the group's own requests of a list, and the fatal messages and fence clears of others that are obeyed
--     as_if_alone         a group's answers and words in any list are those that it gets when only these are made
--     view-after          after both lists the bridges meet the premises again, so the claim holds of what follows
--     isolated-start      the claim with places by the start
--     quiet_same          two quiet lists have the same places if they have the same own requests, in the same order
--     isolated-quiet      of two quiet lists the claim asks that the own requests are the same, in the same order, and nothing else
--     reason-one-both     if reason 1 holds, it holds for both bridges; reason-one: every answer is then 1, and nothing changes; reason-one-places: and only
--                         own requests have a place
-- Assumes nothing.
use Rattle.std.specs.Prelude.{◌≡◌, refl, Bool, true, false, cond, not, List, [], ◌∷◌, map}
use Rattle.std.proofs.Common.{sym, ap, ap₂, ◌∙◌}
use Rattle.std.proofs.Math.Option.{Option, none, some}
use Rattle.kinds.specs.Answer.{refuse, is_done}
use Rattle.kinds.specs.Tests.{given}
use Rattle.kinds.proofs.Tests.{by_cases, clash, and_left, and_right}
use Rattle.kinds.specs.declared.answer.Answer.{Answer}
use Rattle.kinds.specs.declared.answer.Reason.TheVariants.{TableLength}
use Rattle.kinds.specs.declared.number.PeNumber.{PeNumber}
use Rattle.kinds.specs.declared.request.Request.{Request}
use Rattle.profile.specs.Tables.{sized}
use Rattle.profile.specs.Fence.{Event, kind}
use Rattle.profile.specs.Step.{answered, after}
use Rattle.profile.specs.Agree.{belongs, obeyed, Closed}
use Rattle.profile.proofs.AgreeLaws.{alike_refl, same_refl, held_refl}
use Rattle.profile.proofs.AnswersLaws.{unsized_answered, unsized_keeps}
use Rattle.isolation.specs.Machine.{chosen}
use Rattle.isolation.specs.Labels.{labels_by}
use Rattle.isolation.proofs.Labels.{labels-chosen}
use Rattle.isolation.specs.View.{Bridge, bridge_lengths, Public, Written, View}
use Rattle.isolation.proofs.ViewLaws.{agreed, viewed}
use Rattle.isolation.specs.Corollaries.{ran, quiet}
use Rattle.isolation.specs.Isolation.{Place, Own, place, places_in, own, answers, left, fence}
use Rattle.isolation.proofs.Isolation.{place-keeps, places-start, run_agrees, isolation}

abbrev pub Answered : (PeNumber → Bool) → (a b : Bridge) → (l k : List Request) → Type 0
Answered G a b l k =
    (answers G a l ≡ answers G b k) × Written G a.tables.sizes.interrupts (left a l) (left b k) × (fence a l ≡ fence b k)

view_refl : (G : PeNumber → Bool) (a : Bridge) → View G a a
view_refl G a = viewed (record { tables = alike_refl a.tables; live = same_refl a.live; memory = held_refl a.memory })

pub one-bridge : (G : PeNumber → Bool) (a : Bridge) → Closed G a.tables → (l k : List Request) → places_in G a l ≡ places_in G a k → Answered G a a l k
one-bridge G a c l k e = isolation.isolated G a a c (view_refl G a) l k e

abbrev pub heard : (PeNumber → Bool) → Bridge → List Request → List Request
heard G a l = chosen (λ q. given (place G a.tables a.memory a.live q)) l

pub as_if_alone : (G : PeNumber → Bool) (a : Bridge) → Closed G a.tables → (l : List Request) → Answered G a a l (heard G a l)
as_if_alone G a c l =
    one-bridge G a c l (heard G a l)
    (sym (labels-chosen (after a.tables a.memory) (place G a.tables a.memory) (place-keeps G a.tables a.memory) a.live l))

pub view-after : (G : PeNumber → Bool) (a b : Bridge) → Closed G a.tables → View G a b → (l k : List Request) → places_in G a l ≡ places_in G b k
    → View G (ran a l) (ran b k)
view-after G a b c v l k e =
    let r = agreed v in viewed (record { tables = r.tables; live = (run_agrees c r l k e).1; memory = r.memory })

-- ---- by the start

abbrev pub places_by : (PeNumber → Bool) → Bridge → List Request → List (Place Request)
places_by G a l = labels_by (place G a.tables a.memory a.live) l

pub isolated-start : (G : PeNumber → Bool) (a b : Bridge) → Closed G a.tables → View G a b → (l k : List Request) → places_by G a l ≡ places_by G b k
    → Answered G a b l k
isolated-start G a b c v l k e = isolation.isolated G a b c v l k (places-start G a l ∙ e ∙ sym (places-start G b k))

-- ---- no fatal message and no fence clear

-- such a request has a place where it is the group's own
kindless : (o : Option Event) (b : Bool) → not (given o) ≡ true → cond b o none ≡ none
kindless none true h = refl
kindless none false h = refl
kindless (some e) b h = clash h refl

quiet_by : (G : PeNumber → Bool) (a : Bridge) (l : List Request) → quiet l ≡ true → places_by G a l ≡ map Own (own G a l)
quiet_by G a [] h = refl
quiet_by G a (q ∷ l) h =
    let none_here = kindless (kind q) (is_done (answered a.tables a.memory a.live q)) (and_left (not (given (kind q))) (quiet l) h) in
    let rest = quiet_by G a l (and_right (not (given (kind q))) (quiet l) h) in
    by_cases (belongs G a.tables a.live q) (λ o. rw (o, rest)) (λ o. rw (o, none_here, rest))

pub quiet_same : (G : PeNumber → Bool) (a b : Bridge) (l k : List Request) → quiet l ≡ true → quiet k ≡ true → own G a l ≡ own G b k
    → places_in G a l ≡ places_in G b k
quiet_same G a b l k h i e = places-start G a l ∙ quiet_by G a l h ∙ ap (map Own) e ∙ sym (places-start G b k ∙ quiet_by G b k i)

pub isolated-quiet : (G : PeNumber → Bool) (a b : Bridge) → Closed G a.tables → View G a b → (l k : List Request) → quiet l ≡ true → quiet k ≡ true
    → own G a l ≡ own G b k → Answered G a b l k
isolated-quiet G a b c v l k h i e = isolation.isolated G a b c v l k (quiet_same G a b l k h i e)

-- ---- reason 1

pub reason-one-both : (a b : Bridge) → Public a b → sized a.tables.sizes (bridge_lengths a) ≡ sized b.tables.sizes (bridge_lengths b)
reason-one-both a b v = ap₂ sized v.sizes v.all-lengths

pub reason-one : (a : Bridge) (q : Request) → sized a.tables.sizes (bridge_lengths a) ≡ false
    → (answered a.tables a.memory a.live q ≡ refuse TableLength) × (after a.tables a.memory a.live q ≡ a.live)
reason-one a q o = (unsized_answered a.tables a.memory a.live q o, unsized_keeps a.tables a.memory a.live q o)

pub reason-one-places : (G : PeNumber → Bool) (a : Bridge) → sized a.tables.sizes (bridge_lengths a) ≡ false → (l : List Request) → places_in G a l ≡ map Own (own G a l)
reason-one-places G a o l = places-start G a l ∙ own-places l
  where
    own-places : (l : List Request) → places_by G a l ≡ map Own (own G a l)
    own-places [] = refl
    own-places (q ∷ l) =
        let undone : obeyed a.tables a.memory a.live q ≡ none = ap (λ (x : Answer). cond (is_done x) (kind q) none) (reason-one a q o).0 in
        by_cases (belongs G a.tables a.live q) (λ b. rw (b, own-places l)) (λ b. rw (b, undone, own-places l))
