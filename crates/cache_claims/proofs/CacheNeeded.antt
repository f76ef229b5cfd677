-- Every premise that the cache and the edits add to demand 3 is needed: without any one of them the claim fails.
--     Premise, Holds      these premises; code: a number for each, to tell them apart; enough: the claim from all, beside the premises on the bridges
--     Counterexample x    two bridges, caches and lists that meet every premise but x, and for which the claim fails
--     needed              THE STATEMENT: there is one for each premise
--     Rule, AnsweredBy    another rule of whose an operation is, and the claim by it
--     now-enough          the claim holds where edits are asked for in memory as it is at that moment
--     never_fails         it does not where every edit is free: the group's edits could be left out in one list
--     start-fails         nor where they are asked for in memory as it was at the start
-- Assumes nothing.
use Rattle.std.specs.Prelude.{◌≡◌, refl, Bool, true, false, List, [], ◌∷◌, ℕ, ◌+◌, eqb, length, replicate}
use Rattle.std.proofs.Common.{sym, ap, ◌∙◌, arith, eq-eqb}
use Rattle.kinds.specs.Answer.{numbered}
use Rattle.kinds.proofs.Tests.{clash}
use Rattle.kinds.specs.declared.answer.Answer.{Answer}
use Rattle.kinds.specs.declared.number.PeNumber.{PeNumber}
use Rattle.kinds.specs.declared.request.Operation.{Operation}
use Rattle.kinds.specs.declared.request.Operation.TheVariants.{Plain, Edit, Invalidate}
use Rattle.profile.specs.Agree.{Closed}
use Rattle.profile.specs.Tables.{Tables}
use Rattle.isolation.proofs.Bridges.{group, tables, bridge, opened_bridges}
use Rattle.isolation.specs.Isolation.{Place}
use Rattle.isolation.specs.Labels.{labels, watched}
use Rattle.isolation.specs.Machine.{Machine, Met, met, seen, replies}
use Rattle.isolation.specs.View.{Bridge, View}
use Rattle.isolation.proofs.Witness.{closed, view}
use Rattle.edits.specs.Edits.{Bare, owns, place_on}
use Rattle.edits.specs.Reach.{in_reach}
use Rattle.cache.specs.Cache.{Cached, cached_answer, cached_after, cached_machine}
use Rattle.cache_claims.proofs.CacheBridges.{Answered, words, first, second, held, ask, free-word, own-word, fresh-words, opened-pair}
use Rattle.cache_claims.specs.Demand.{bare_of, begun, places, moments, AllFresh, answers}
use Rattle.cache_claims.proofs.DemandLaws.{cached_isolation}

pub data Premise : Type 0 where
  SameCacheLength SamePlaces SameNewWords : Premise

module _ (G : PeNumber → Bool) (a b : Bridge) (c d : List ℕ) (l k : List Operation) where
  abbrev pub Holds : Premise → Type 0
  Holds SameCacheLength = length c ≡ length d
  Holds SamePlaces = places G a c l ≡ places G b d k
  Holds SameNewWords = AllFresh G a.tables (moments G a c l) (moments G b d k)

  pub enough : Closed G a.tables → View G a b → ((x : Premise) → Holds x) → Answered G a b c d l k
  enough n v h = cached_isolation.isolated G a b c d (h SameCacheLength) n v l k (h SamePlaces) (h SameNewWords)

abbrev pub code : Premise → ℕ
code SameCacheLength = 0
code SamePlaces = 1
code SameNewWords = 2

pub record Counterexample (x : Premise) : Type 0 where
  pub group : PeNumber → Bool
  pub first : Bridge
  pub second : Bridge
  pub cache : List ℕ
  pub other_cache : List ℕ
  pub list : List Operation
  pub other : List Operation
  pub not_listed : Closed group first.tables
  pub same_view : View group first second
  pub others : (y : Premise) → ¬ (code y ≡ code x) → Holds group first second cache other_cache list other y
  pub fails : ¬ Answered group first second cache other_cache list other

-- ---- the examples

-- the sum of the reasons and values of some answers
total : List Answer → ℕ
total [] = 0
total (x ∷ l) = (numbered x).reason + (numbered x).value + total l

-- two lists of answers with different sums are not equal
differs : (l k : List Answer) → eqb (total l) (total k) ≡ false → l ≡ k → ⊥
differs l k e z = clash (eq-eqb _ _ (ap total z)) e

-- each premise by itself
each : (P : Premise → Type 0) → P SameCacheLength → P SamePlaces → P SameNewWords → (y : Premise) → P y
each P u v w SameCacheLength = u
each P u v w SamePlaces = v
each P u v w SameNewWords = w

-- the first example: the second cache lacks a word
short-cache : Counterexample SameCacheLength
unfolding opened-pair total
short-cache = record {
  group = group;
  first = first;
  second = first;
  cache = held 1;
  other_cache = replicate 1023 1;
  list = ask 0x403010 ∷ [];
  other = ask 0x403010 ∷ [];
  not_listed = closed (words 1);
  same_view = view (words 1) (words 1) refl;
  others = each _ (λ h. absurd (h refl)) (λ h. refl) (λ h. (tt, tt));
  fails = λ z. differs _ _ refl z.0;
}

-- the bridge of `words x` at the start of a sequence, with an edit of word j that is the group's, and then a request for address a
abbrev start : ℕ → Cached
start x = begun (bridge (words x)) (held x)

abbrev Own : (x j : ℕ) → Type 0
Own x j = in_reach group (tables (words x)) (start x).bare.memory j ≡ true

abbrev edited : (word value address : ℕ) → List Operation
edited j v a = Edit j v ∷ ask a ∷ []

-- what the group is answered
edit-seen : (x j v a : ℕ) → Own x j → answers group (bridge (words x)) (held x) (edited j v a)
    ≡ replies (cached_machine group (tables (words x))) (start x) (edited j v a)
unfolding opened_bridges
edit-seen x j v a o = rw o

-- word 2 leads PE 2 to its second table, and word 4 nowhere
own2 : (x : ℕ) → Own x 2
unfolding opened-pair
own2 x = own-word (words x) (start x).bare.memory 2 0x403010 refl refl

own4 : (x : ℕ) → Own x 4
unfolding opened-pair
own4 x = own-word (words x) (start x).bare.memory 4 0x804010 refl refl

-- the second example: the group's edit writes another value
no_new_words : AllFresh group first.tables (moments group first (held 1) (edited 2 0 0x403010)) (moments group first (held 1) (edited 2 0x1001 0x403010))
unfolding opened-pair
no_new_words = rw (own2 1) (fresh-words (words 1) (start 1).bare (start 1).bare 2 0 1024 (omega arith) refl refl refl, (tt, tt))

-- an edit left out would break `SameNewWords` too, whose lists have one length; `never_fails` has it
another_edit : Counterexample SamePlaces
unfolding opened-pair total
another_edit = record {
  group = group;
  first = first;
  second = first;
  cache = held 1;
  other_cache = held 1;
  list = edited 2 0 0x403010;
  other = edited 2 0x1001 0x403010;
  not_listed = closed (words 1);
  same_view = view (words 1) (words 1) refl;
  others = each _ (λ h. refl) (λ h. absurd (h refl)) (λ h. no_new_words);
  fails = λ z. differs _ _ refl (sym (edit-seen 1 2 0 0x403010 (own2 1)) ∙ z.0 ∙ edit-seen 1 2 0x1001 0x403010 (own2 1));
}

-- the third example: the group's edit brings in a table of which a word differs
same-edit : places group first (held 1) (edited 4 0x2001 0x804010) ≡ places group second (held 2) (edited 4 0x2001 0x804010)
unfolding opened-pair
same-edit = rw (own4 1, own4 2)

new_words : Counterexample SameNewWords
unfolding opened-pair total
new_words = record {
  group = group;
  first = first;
  second = second;
  cache = held 1;
  other_cache = held 2;
  list = edited 4 0x2001 0x804010;
  other = edited 4 0x2001 0x804010;
  not_listed = closed (words 1);
  same_view = view (words 1) (words 2) refl;
  others = each _ (λ h. refl) (λ h. same-edit) (λ h. absurd (h refl));
  fails = λ z. differs _ _ refl (sym (edit-seen 1 4 0x2001 0x804010 (own4 1)) ∙ z.0 ∙ edit-seen 2 4 0x2001 0x804010 (own4 2));
}

pub needed : (x : Premise) → Counterexample x
needed SameCacheLength = short-cache
needed SamePlaces = another_edit
needed SameNewWords = new_words

-- ---- whose an edit is

-- the owner of an operation by another rule, which may also look at the bridge as it is at the start
abbrev pub Rule : Type 0
Rule = (PeNumber → Bool) → Tables → (start now : Bare) → Operation → Bool

abbrev pub ruled : Rule → (PeNumber → Bool) → Bridge → Machine Cached Operation Answer
ruled o G a = record { next = cached_after a.tables; answer = cached_answer a.tables; own = λ x q. o G a.tables (bare_of a) x.bare q }

abbrev pub places_by : Rule → (PeNumber → Bool) → Bridge → (cache : List ℕ) → List Operation → List (Place Operation)
places_by o G a c l = labels (cached_after a.tables) (place_on (ruled o G a)) (begun a c) l

abbrev pub moments_by : Rule → (PeNumber → Bool) → Bridge → (cache : List ℕ) → List Operation → List (Met Cached Operation)
moments_by o G a c l = met (watched (ruled o G a) (place_on (ruled o G a))) (begun a c) l

pub record AnsweredBy (o : Rule) : Type 0 where
  pub isolated : (G : PeNumber → Bool) (a b : Bridge) (c d : List ℕ) → length c ≡ length d → Closed G a.tables → View G a b → (l k : List Operation)
      → places_by o G a c l ≡ places_by o G b d k → AllFresh G a.tables (moments_by o G a c l) (moments_by o G b d k)
      → seen (ruled o G a) (begun a c) l ≡ seen (ruled o G b) (begun b d) k

-- in memory as it is then; of no edit; in memory as it was at the start
abbrev pub own_now : Rule
own_now G f s t q = owns G f t q

abbrev pub own_never : Rule
own_never G f s t (Plain q) = owns G f t (Plain q)
own_never G f s t (Edit k v) = false
own_never G f s t (Invalidate x) = owns G f t (Invalidate x)

abbrev pub own_start : Rule
own_start G f s t (Plain q) = owns G f t (Plain q)
own_start G f s t (Edit k v) = owns G f s (Edit k v)
own_start G f s t (Invalidate x) = owns G f t (Invalidate x)

pub now-enough : AnsweredBy own_now
now-enough = record { isolated = λ G a b c d e n v l k p h. (cached_isolation.isolated G a b c d e n v l k p h).0 }

-- the first list edits word 2, and the second does not
pub never_fails : ¬ AnsweredBy own_never
unfolding opened-pair total
never_fails e =
    differs _ _ refl (e.isolated group first first (held 1) (held 1) refl (closed (words 1)) (view (words 1) (words 1) refl) (edited 2 0 0x403010) (ask 0x403010 ∷ []) refl (tt, tt))

-- the first list also edits word 1028, which is in reach since the group's edit of word 4
abbrev later : List Operation
later = Edit 4 0x2001 ∷ Edit 1028 0x5003 ∷ ask 0x804010 ∷ []

reached-start : in_reach group (tables (words 1)) first.memory 4 ≡ true
unfolding opened-pair
reached-start = own-word (words 1) first.memory 4 0x804010 refl refl

free-start : in_reach group (tables (words 1)) first.memory 1028 ≡ false
unfolding opened-pair
free-start = free-word (words 1) first.memory 1024 1028 refl

start-places : places_by own_start group first (held 1) later ≡ places_by own_start group first (held 1) (edited 4 0x2001 0x804010)
unfolding opened-pair
start-places = rw (reached-start, free-start)

start-fresh : AllFresh group first.tables (moments_by own_start group first (held 1) later) (moments_by own_start group first (held 1) (edited 4 0x2001 0x804010))
unfolding opened-pair
start-fresh = rw (reached-start, free-start) ((λ j r n. refl), (tt, tt))

start-differs : seen (ruled own_start group first) (begun first (held 1)) later ≡ seen (ruled own_start group first) (begun first (held 1)) (edited 4 0x2001 0x804010) → ⊥
unfolding opened-pair total
start-differs = rw (reached-start, free-start) (λ z. differs _ _ refl z)

pub start-fails : ¬ AnsweredBy own_start
unfolding opened-pair
start-fails e =
    start-differs
    (e.isolated group first first (held 1) (held 1) refl (closed (words 1)) (view (words 1) (words 1) refl) later (edited 4 0x2001 0x804010) start-places start-fresh)
