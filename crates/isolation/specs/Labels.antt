-- Two lists that are compared by labels: some requests have to stand at the same places in both though they are not owned, and of those only the
-- label has to be the same. Above `Machine` and `Unwind`, which do not know of it. No bridge is named here.
--     labels next label s l   the labels of a list, in order, each by the state that its request meets; a request without one is passed over
--     watched m label     the machine m, whose requests with a label stand in pairs; of one that m does not own the answer is not looked at
--     SameLabel           two requests match by having the same label
--     labels_by label l   the labels of a list by one state; labels-start: where no request changes a label, these are the labels; labels-chosen:
--                         and those of the requests with a label alone
-- The theorems are in proofs/Labels.antt. Assumes nothing.
use Rattle.std.specs.Prelude.{◌≡◌, cond, List, [], ◌∷◌}
use Rattle.std.proofs.Math.Option.{Option, none, some}
use Rattle.kinds.specs.Tests.{given}
use Rattle.isolation.specs.Machine.{Machine}

module _ {X : Type 0} where
  -- a list with one more in front, if there is one
  abbrev pub joined : Option X → List X → List X
  joined none l = l
  joined (some x) l = x ∷ l

  abbrev pub somes : List (Option X) → List X
  somes [] = []
  somes (x ∷ l) = joined x (somes l)

abbrev pub labels : {S Q X : Type 0} → (S → Q → S) → (S → Q → Option X) → S → List Q → List X
labels next label s [] = []
labels next label s (q ∷ l) = joined (label s q) (labels next label (next s q) l)

abbrev pub SameLabel : {S Q X : Type 0} → (a b : S → Q → Option X) → S → S → Q → Q → Type 0
SameLabel a b s t q p = a s q ≡ b t p

module _ {S Q A X : Type 0} where
  abbrev pub watched : Machine S Q A → (S → Q → Option X) → Machine S Q (Option A)
  watched m label = record {
    next = m.next;
    answer = λ s q. cond (m.own s q) (some (m.answer s q)) none;
    own = λ s q. given (label s q);
  }

-- ---- where no request changes a label

abbrev pub labels_by : {Q X : Type 0} → (Q → Option X) → List Q → List X
labels_by label [] = []
labels_by label (q ∷ l) = joined (label q) (labels_by label l)
