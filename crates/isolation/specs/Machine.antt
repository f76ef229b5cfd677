-- A machine that answers requests, what a list of requests comes to on it, and two lists side by side. No bridge is named here.
--     Machine             what a request leaves, what it is answered, and whether it is owned, asked of the state that it meets
--     end next s l        the state after a list
--     seen m s l          the answers to the owned requests of a list, in order; met m s l: each of these requests as a `Met`, with the state that it meets
--     replies m s l       the answers to all requests of a list
--     Align               two lists side by side: a request that is not owned stands alone, owned ones stand in pairs that match. `Match` looks at
--                         the two states and the two requests, and may be weaker than equality
--     Laws                what one request has to keep: on the left alone, on the right alone, on both
--     Pairs M l k         two lists of one length, M holding in order; OfMet Match: `Match` of two requests as they were met
--     Runs                a machine that answers as another one does, seen through a function, as long as an invariant holds
--     chosen own l        the requests of a list that a test picks
-- Assumes nothing.
use Rattle.std.specs.Prelude.{◌≡◌, Bool, true, false, cond, List, [], ◌∷◌}

pub record Machine (S Q A : Type 0) : Type 0 where
  pub next : S → Q → S
  pub answer : S → Q → A
  pub own : S → Q → Bool

abbrev pub end : {S Q : Type 0} → (S → Q → S) → S → List Q → S
end next s [] = s
end next s (q ∷ l) = end next (next s q) l

-- an owned request, and the state that it meets
pub record Met (S Q : Type 0) : Type 0 where
  pub state : S
  pub request : Q

module _ {S Q A : Type 0} where
  abbrev pub seen : Machine S Q A → S → List Q → List A
  seen m s [] = []
  seen m s (q ∷ l) = cond (m.own s q) (m.answer s q ∷ seen m (m.next s q) l) (seen m (m.next s q) l)

  abbrev pub met : Machine S Q A → S → List Q → List (Met S Q)
  met m s [] = []
  met m s (q ∷ l) = cond (m.own s q) (record { state = s; request = q } ∷ met m (m.next s q) l) (met m (m.next s q) l)

  abbrev pub replies : Machine S Q A → S → List Q → List A
  replies m s [] = []
  replies m s (q ∷ l) = m.answer s q ∷ replies m (m.next s q) l

  pub data Align (m n : Machine S Q A) (Match : S → S → Q → Q → Type 0) : S → S → List Q → List Q → Type 0 where
    done : {s t : S} → Align m n Match s t [] []
    left : {s t : S} {q : Q} {l k : List Q} → m.own s q ≡ false → Align m n Match (m.next s q) t l k → Align m n Match s t (q ∷ l) k
    right : {s t : S} {p : Q} {l k : List Q} → n.own t p ≡ false → Align m n Match s (n.next t p) l k → Align m n Match s t l (p ∷ k)
    both : {s t : S} {q p : Q} {l k : List Q} → m.own s q ≡ true → n.own t p ≡ true → Match s t q p
        → Align m n Match (m.next s q) (n.next t p) l k → Align m n Match s t (q ∷ l) (p ∷ k)

  pub record Laws (m n : Machine S Q A) (Match : S → S → Q → Q → Type 0) (R : S → S → Type 0) : Type 0 where
    pub skip_left : {s t : S} → R s t → (q : Q) → m.own s q ≡ false → R (m.next s q) t
    pub skip_right : {s t : S} → R s t → (q : Q) → n.own t q ≡ false → R s (n.next t q)
    pub step : {s t : S} → R s t → (q p : Q) → Match s t q p → m.own s q ≡ true → n.own t p ≡ true
        → (m.answer s q ≡ n.answer t p) × R (m.next s q) (n.next t p)

abbrev pub Pairs : {X : Type 0} → (X → X → Type 0) → List X → List X → Type 0
Pairs M [] [] = Unit {0}
Pairs M [] (p ∷ k) = ⊥
Pairs M (q ∷ l) [] = ⊥
Pairs M (q ∷ l) (p ∷ k) = M q p × Pairs M l k

abbrev pub OfMet : {S Q : Type 0} → (S → S → Q → Q → Type 0) → Met S Q → Met S Q → Type 0
OfMet Match x y = Match x.state y.state x.request y.request

pub record Runs {X S Q A : Type 0} (c : Machine X Q A) (m : Machine S Q A) (h : X → S) (I : X → Type 0) : Type 0 where
  pub answers : (x : X) → I x → (q : Q) → c.answer x q ≡ m.answer (h x) q
  pub owns : (x : X) → I x → (q : Q) → c.own x q ≡ m.own (h x) q
  pub moves : (x : X) → I x → (q : Q) → h (c.next x q) ≡ m.next (h x) q
  pub stays : (x : X) → I x → (q : Q) → I (c.next x q)

abbrev pub chosen : {Q : Type 0} → (Q → Bool) → List Q → List Q
chosen own [] = []
chosen own (q ∷ l) = cond (own q) (q ∷ chosen own l) (chosen own l)
