-- The premises of demand 3 with a cache and edits are met by bridges and lists that differ, so the claim is not empty.
--     Matched             two lists from two states meet the premises on them, operation by operation; the marks are of the group's own in the first list.
--                         same, fresh: so they do; told: what the group is answered; joined: two lists, and two more from what they leave
--     unheard, alone-request, beside-request  a request that is no fatal message and no fence clear, whatever it is answered
--     picked c a          the answers at the places that are marked
--     own-edit, alone-edit, beside-edit   an edit of the group's, and one of others in the first list and in the second
--     whole               the two lists meet the premises; before-edit, after-edit: up to the group's edit, and from it on
--     list-answers, other-answers     what each operation of the two lists is answered: PE 0's DMAs pass to different addresses
--     group-answers       what the group is answered: by miss, by hit, after its slot was taken, and through the table that its edit brought into reach
--     slot-taken          what happens to the slot of PE 2's page in both
--     starts_differ       the bridges differ at the start, in a word that is in reach later too; ends_differ: memories and caches differ in the end
--     witness             THE CLAIM at these
-- Assumes nothing.
use Rattle.std.specs.Prelude.{◌≡◌, refl, Bool, true, false, cond, ◌&&◌, List, [], ◌∷◌, ◌++◌, map, ℕ, set}
use Rattle.std.proofs.Common.{ap, ◌∙◌, arith}
use Rattle.std.proofs.Math.Option.{none, some}
use Rattle.kinds.specs.Answer.{refuse, is_done}
use Rattle.kinds.specs.Has.{has}
use Rattle.kinds.proofs.Tests.{by_cases, and_left, and_right}
use Rattle.kinds.specs.Words.{at}
use Rattle.kinds.specs.declared.answer.Answer.{Answer}
use Rattle.kinds.specs.declared.answer.Answer.TheVariants.{Pass, Done}
use Rattle.kinds.specs.declared.answer.Reason.TheVariants.{BadRequest, Fenced}
use Rattle.kinds.specs.declared.number.PeNumber.{PeNumber}
use Rattle.kinds.specs.declared.request.AddressClass.TheVariants.{Dma}
use Rattle.kinds.specs.declared.request.Operation.{Operation}
use Rattle.kinds.specs.declared.request.Operation.TheVariants.{Plain, Edit}
use Rattle.kinds.specs.declared.request.Request.{Request}
use Rattle.profile.specs.Tables.{Tables}
use Rattle.profile.specs.Entry.{class_of}
use Rattle.profile.specs.Fence.{Event, kind, FatalMessage, Cleared}
use Rattle.profile.specs.Walk.{reads}
use Rattle.isolation.proofs.Bridges.{group, pe, tables, table_words}
use Rattle.isolation.specs.Isolation.{Place, Own, Other}
use Rattle.isolation.specs.Labels.{labels}
use Rattle.isolation.specs.Machine.{end, met, seen, replies}
use Rattle.isolation.specs.View.{Bridge}
use Rattle.isolation.proofs.Witness.{closed, view}
use Rattle.edits.specs.Edits.{event, place_on, Fresh}
use Rattle.cache.specs.Cache.{Cached, cached_answer, cached_after, cached_machine}
use Rattle.cache.specs.Contents.{slot_at, zeros, slot_events}
use Rattle.cache_claims.proofs.CacheBridges.{Answered, third, outer, words, first, second, held, list_before, list_after, other_before, other_after, list, other, upper_below, away, free-word, own-word, same_below, fresh-words, opened-pair}
use Rattle.cache_claims.specs.Demand.{begun, left, AllFresh, answers}
use Rattle.cache_claims.proofs.DemandLaws.{watched_cached, cached_isolation}

-- ---- two runs, operation by operation

-- no other request is an event, whatever it is answered
unheard : (a : Answer) (q : Request) → kind q ≡ none → event a (Plain q) ≡ none
unheard a q e = rw e (by_cases (is_done a) (λ o. rw o) (λ o. rw o))

module _ (G : PeNumber → Bool) (f g : Tables) where
  pub data Matched : Cached → Cached → (l k : List Operation) → (own : List Bool) → Type 0 where
    ended : {x y : Cached} → Matched x y [] [] []
    -- an operation without a place, in the first list and in the second
    alone : {x y : Cached} {q : Operation} {l k : List Operation} {c : List Bool} → (cached_machine G f).own x q ≡ false → event (cached_answer f x q) q ≡ none
        → Matched (cached_after f x q) y l k c → Matched x y (q ∷ l) k (false ∷ c)
    beside : {x y : Cached} {p : Operation} {l k : List Operation} {c : List Bool} → (cached_machine G g).own y p ≡ false → event (cached_answer g y p) p ≡ none
        → Matched x (cached_after g y p) l k c → Matched x y l (p ∷ k) c
    -- an operation of the group's
    owned : {x y : Cached} {q : Operation} {l k : List Operation} {c : List Bool} → (cached_machine G f).own x q ≡ true → (cached_machine G g).own y q ≡ true
        → Fresh G f x.bare y.bare q → Matched (cached_after f x q) (cached_after g y q) l k c → Matched x y (q ∷ l) (q ∷ k) (true ∷ c)
    -- a fatal message or a fence clear of others
    heard : {x y : Cached} {q p : Request} {l k : List Operation} {c : List Bool} (i : Event) → (cached_machine G f).own x (Plain q) ≡ false
        → (cached_machine G g).own y (Plain p) ≡ false → event (cached_answer f x (Plain q)) (Plain q) ≡ some i → event (cached_answer g y (Plain p)) (Plain p) ≡ some i
        → Matched (cached_after f x (Plain q)) (cached_after g y (Plain p)) l k c → Matched x y (Plain q ∷ l) (Plain p ∷ k) (false ∷ c)

-- the answers at the places that are marked
abbrev pub picked : List Bool → List Answer → List Answer
picked [] a = []
picked (b ∷ c) [] = []
picked (b ∷ c) (x ∷ a) = cond b (x ∷ picked c a) (picked c a)

module _ {G : PeNumber → Bool} {f g : Tables} where
  pub same : {x y : Cached} {l k : List Operation} {c : List Bool} → Matched G f g x y l k c
      → labels (cached_after f) (place_on (cached_machine G f)) x l ≡ labels (cached_after g) (place_on (cached_machine G g)) y k
  same ended = refl
  same (alone o e h) = rw (o, e) (same h)
  same (beside o e h) = rw (o, e) (same h)
  same (owned {q = q} o o' u h) = rw (o, o') (ap (λ (z : List (Place Operation)). Own q ∷ z) (same h))
  same (heard i o o' e e' h) = rw (o, o', e, e') (ap (λ (z : List (Place Operation)). Other i ∷ z) (same h))

  pub fresh : {x y : Cached} {l k : List Operation} {c : List Bool} → Matched G f g x y l k c
      → AllFresh G f (met (watched_cached G f) x l) (met (watched_cached G g) y k)
  fresh ended = tt
  fresh (alone o e h) = rw (o, e) (fresh h)
  fresh (beside o e h) = rw (o, e) (fresh h)
  fresh (owned o o' u h) = rw (o, o') (u, fresh h)
  fresh (heard i o o' e e' h) = rw (o, o', e, e') (tt, fresh h)

  pub told : {x y : Cached} {l k : List Operation} {c : List Bool} → Matched G f g x y l k c
      → seen (cached_machine G f) x l ≡ picked c (replies (cached_machine G f) x l)
  told ended = refl
  told (alone o e h) = rw o (told h)
  told (beside o e h) = told h
  told (owned {x = x} {q = q} o o' u h) = rw o (ap (λ (z : List Answer). cached_answer f x q ∷ z) (told h))
  told (heard i o o' e e' h) = rw o (told h)

  pub joined : {x y : Cached} {l k l' k' : List Operation} {c c' : List Bool} → Matched G f g x y l k c
      → Matched G f g (end (cached_after f) x l) (end (cached_after g) y k) l' k' c' → Matched G f g x y (l ++ l') (k ++ k') (c ++ c')
  joined ended j = j
  joined (alone o e h) j = alone o e (joined h j)
  joined (beside o e h) j = beside o e (joined h j)
  joined (owned o o' u h) j = owned o o' u (joined h j)
  joined (heard i o o' e e' h) j = heard i o o' e e' (joined h j)

  -- a request that is no fatal message and no fence clear
  pub alone-request : {x y : Cached} {q : Request} {l k : List Operation} {c : List Bool} → (cached_machine G f).own x (Plain q) ≡ false → kind q ≡ none
      → Matched G f g (cached_after f x (Plain q)) y l k c → Matched G f g x y (Plain q ∷ l) k (false ∷ c)
  alone-request {x} {q = q} o e h = alone o (unheard (cached_answer f x (Plain q)) q e) h

  pub beside-request : {x y : Cached} {p : Request} {l k : List Operation} {c : List Bool} → (cached_machine G g).own y (Plain p) ≡ false → kind p ≡ none
      → Matched G f g x (cached_after g y (Plain p)) l k c → Matched G f g x y l (Plain p ∷ k) c
  beside-request {y = y} {p} o e h = beside o (unheard (cached_answer g y (Plain p)) p e) h

-- ---- the two lists

abbrev pub Both : (x y : Cached) → (l k : List Operation) → (own : List Bool) → Type 0
Both x y l k c = Matched group first.tables second.tables x y l k c

unfoldable pub pass : (pe address words : ℕ) → Answer
pass p a n = Pass (record { 0 = a }) (pe p) n

-- an edit of the group's, of memories m and n: PE 2's walk for address i reads its word in both, and both have the same words in the group's three tables
own-edit : {x y : Cached} {j v : ℕ} {l k : List Operation} {c : List Bool} (m n : List ℕ) (i : ℕ) → x.bare.memory ≡ m → y.bare.memory ≡ n
    → class_of (record { 0 = i }) ≡ Dma → has j (reads (tables (words 1)) m (pe 2) (record { 0 = i })) ≡ true
    → has j (reads (tables (words 2)) n (pe 2) (record { 0 = i })) ≡ true
    → (upper_below 1536 table_words (set m j v) && upper_below 1536 table_words m && same_below 1536 m n) ≡ true
    → Both (cached_after first.tables x (Edit j v)) (cached_after second.tables y (Edit j v)) l k c → Both x y (Edit j v ∷ l) (Edit j v ∷ k) (true ∷ c)
own-edit {x} {y} {j} {v} m n i e e' d o o' u h =
    let a = upper_below 1536 table_words (set m j v) in
    let b = upper_below 1536 table_words m in
    let z = same_below 1536 m n in
    owned {x = x} {y = y} {q = Edit j v} (rw e (own-word (words 1) m j i d o)) (rw e' (own-word (words 2) n j i d o'))
    (fresh-words (words 1) x.bare y.bare j v 1536 (omega arith) (rw e (and_left a b (and_left (a && b) z u))) (rw e (and_right a b (and_left (a && b) z u)))
    (rw (e, e') (and_right (a && b) z u))) h

-- an edit of others, in the first list and in the second: the group's tables end at word b or before
alone-edit : {x y : Cached} {j v : ℕ} {l k : List Operation} {c : List Bool} (b : ℕ) → away b j x.bare.memory ≡ true
    → Both (cached_after first.tables x (Edit j v)) y l k c → Both x y (Edit j v ∷ l) k (false ∷ c)
alone-edit {x} {j = j} b u h = alone (free-word (words 1) x.bare.memory b j u) refl h

beside-edit : {x y : Cached} {j v : ℕ} {l k : List Operation} {c : List Bool} (b : ℕ) → away b j y.bare.memory ≡ true
    → Both x (cached_after second.tables y (Edit j v)) l k c → Both x y l (Edit j v ∷ k) c
beside-edit {y = y} {j} b u h = beside (free-word (words 2) y.bare.memory b j u) refl h

-- which operations of the first list are the group's
abbrev pub own_before : List Bool
own_before = true ∷ false ∷ true ∷ false ∷ true ∷ false ∷ false ∷ true ∷ false ∷ []

abbrev pub own_after : List Bool
own_after = true ∷ true ∷ true ∷ false ∷ true ∷ true ∷ false ∷ true ∷ []

-- the memories that the group's edit meets
abbrev pub first_memory : List ℕ
first_memory = set first.memory 1687 0x3330003

abbrev pub second_memory : List ℕ
second_memory = set second.memory 1028 0x6003

-- the group's edit, and what follows
after-edit : Both (left first (held 1) list_before) (left second (held 2) other_before) list_after other_after own_after
unfolding opened-pair
after-edit =
    own-edit first_memory second_memory 0x804010 refl refl refl refl refl refl
    (beside-edit 1536 refl
    (beside refl refl
    (owned refl refl tt
    (own-edit (set first_memory 4 0x2001) (set (set second_memory 4 0x2001) 1536 0) 0x803010 refl refl refl refl refl refl
    (alone refl refl
    (owned refl refl tt
    (owned refl refl tt
    (alone-edit 1536 refl
    (owned refl refl tt
    (beside-request refl refl ended))))))))))

-- what comes before it: the group's tables are two, of words 0 to 1023
before-edit : Both (begun first (held 1)) (begun second (held 2)) list_before other_before own_before
unfolding opened-pair
before-edit =
    owned refl refl tt
    (alone-edit 1024 refl
    (beside refl refl
    (owned refl refl tt
    (alone-request refl refl
    (beside-request refl refl
    (owned refl refl tt
    (alone refl refl
    (beside-request refl refl
    (beside-edit 1024 refl
    (heard FatalMessage refl refl refl refl
    (owned refl refl tt
    (heard Cleared refl refl refl refl ended))))))))))))

whole : Both (begun first (held 1)) (begun second (held 2)) list other (own_before ++ own_after)
whole = joined before-edit after-edit

-- ---- what is answered and left

pub list-answers : replies (cached_machine group first.tables) (begun first (held 1)) list ≡
    pass 2 0x9010 2 ∷ Done ∷ pass 2 0x9010 2 ∷ pass 0 0x3330010 1 ∷ pass 2 0x9010 2 ∷ Done ∷ Done ∷ refuse Fenced ∷ Done
    ∷ Done ∷ pass 2 0x6010 2 ∷ Done ∷ Done ∷ pass 2 0x8010 2 ∷ Done ∷ refuse BadRequest ∷ pass 2 0x9010 2 ∷ []
unfolding opened-pair pass
list-answers = refl

pub other-answers : replies (cached_machine group second.tables) (begun second (held 2)) other ≡
    pass 2 0x9010 2 ∷ Done ∷ pass 2 0x9010 2 ∷ Done ∷ pass 2 0x9010 2 ∷ pass 0 0x2220010 1 ∷ Done ∷ Done ∷ refuse Fenced ∷ Done
    ∷ Done ∷ Done ∷ Done ∷ pass 2 0x6010 2 ∷ Done ∷ pass 2 0x8010 2 ∷ Done ∷ pass 2 0x9010 2 ∷ pass 0 0x2220010 1 ∷ []
unfolding opened-pair pass
other-answers = refl

-- what the group is answered
pub group-answers : answers group first (held 1) list ≡
    pass 2 0x9010 2 ∷ pass 2 0x9010 2 ∷ pass 2 0x9010 2 ∷ refuse Fenced ∷ Done ∷ pass 2 0x6010 2 ∷ Done ∷ pass 2 0x8010 2 ∷ Done ∷ pass 2 0x9010 2 ∷ []
group-answers = told whole ∙ ap (picked (own_before ++ own_after)) list-answers

-- slot 151 with PE 2's page q, and with PE 0's page 151
abbrev pub own151 : (page word : ℕ) → List ℕ
own151 q w = 3 ∷ 0 ∷ q ∷ w ∷ []

abbrev pub taken151 : (word : ℕ) → List ℕ
taken151 w = 1 ∷ 0 ∷ 151 ∷ w ∷ []

-- in the first list PE 2 fills it, hits, and fills it again after PE 0 took it; in the second it is dropped for all before that
pub slot-taken : slot_events first.tables (begun first (held 1)) 151 list ∷ slot_events second.tables (begun second (held 2)) 151 other ∷ [] ≡
    (own151 0x403 0x9003 ∷ own151 0x403 0x9003 ∷ taken151 0x3330003 ∷ own151 0x403 0x9003 ∷ zeros ∷ own151 0x803 0x8003 ∷ zeros ∷ own151 0x403 0x9003 ∷ [])
    ∷ (own151 0x403 0x9003 ∷ zeros ∷ own151 0x403 0x9003 ∷ own151 0x403 0x9003 ∷ taken151 0x2220003 ∷ own151 0x803 0x8003 ∷ zeros ∷ own151 0x403 0x9003 ∷ taken151 0x2220003 ∷ [])
    ∷ []
unfolding opened-pair
slot-taken = refl

-- PE 0's stop word and page code, word 4 of the third table, and a word of PE 0's table
abbrev pub shown_start : Bridge → List ℕ
shown_start a = at a.live.state 0 ∷ at a.tables.entries 3 ∷ map (at a.memory) (1028 ∷ 1687 ∷ [])

pub starts_differ : map shown_start (first ∷ second ∷ []) ≡ (1 ∷ 1 ∷ 0x6003 ∷ 0x1110003 ∷ []) ∷ (2 ∷ 5 ∷ 0x7003 ∷ 0x2220003 ∷ []) ∷ []
unfolding opened-pair
starts_differ = refl

-- two words of PE 0's table, and slot 151: PE 2's page in the first, PE 0's in the second
abbrev pub shown_end : Cached → List ℕ
shown_end x = map (at x.bare.memory) (1536 ∷ 1687 ∷ []) ++ slot_at x.cache 151

pub ends_differ : shown_end (left first (held 1) list) ∷ shown_end (left second (held 2) other) ∷ [] ≡
    (0x1110003 ∷ 0x3330003 ∷ 3 ∷ 0 ∷ 0x403 ∷ 0x9003 ∷ [])
    ∷ (0 ∷ 0x2220003 ∷ 1 ∷ 0 ∷ 151 ∷ 0x2220003 ∷ []) ∷ []
unfolding opened-pair
ends_differ = refl

-- ---- the claim

pub witness : Answered group first second (held 1) (held 2) list other
unfolding tables
witness =
    cached_isolation.isolated group first second (held 1) (held 2) (unfold held in refl) (closed (words 1))
    (view (words 1) (words 2) (unfold words third outer in refl)) list other (same whole) (fresh whole)
