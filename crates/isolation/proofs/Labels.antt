-- Theorems of specs/Labels.antt.
--     label_pairs         the requests of two lists with equal labels stand in pairs of the same label
--     seen-watched        what m answers its own requests is what is looked at
--     unwound-labels      THE THEOREM: laws of two watched machines, and lists with equal labels
-- Assumes nothing.
use Rattle.std.specs.Prelude.{◌≡◌, refl, true, List, [], ◌∷◌, ℕ}
use Rattle.std.proofs.Common.{sym, ap, ◌∙◌, arith}
use Rattle.std.proofs.Math.Path.{fun_ext}
use Rattle.std.proofs.Math.Option.{Option, some}
use Rattle.kinds.specs.Tests.{given}
use Rattle.kinds.proofs.Tests.{by_cases, option_cases}
use Rattle.isolation.specs.Machine.{Machine, Laws, Pairs, OfMet, end, seen, met, chosen}
use Rattle.isolation.proofs.Unwind.{unwound}
use Rattle.isolation.specs.Labels.{SameLabel, joined, labels, labels_by, somes, watched}

labels_by-chosen : {Q X : Type 0} (label : Q → Option X) (l : List Q) → labels_by label (chosen (λ q. given (label q)) l) ≡ labels_by label l
labels_by-chosen label [] = refl
labels_by-chosen label (q ∷ l) =
    option_cases (label q)
    (λ o. rw (o, labels_by-chosen label l))
    (λ x o. rw (o, o, labels_by-chosen label l))

module _ {S Q X : Type 0} (next : S → Q → S) (label : S → Q → Option X) (kept : (s : S) (q p : Q) → label (next s q) p ≡ label s p) where
  pub labels-start : (s : S) (l : List Q) → labels next label s l ≡ labels_by (label s) l
  labels-start s [] = refl
  labels-start s (q ∷ l) =
      ap (joined (label s q)) (labels-start (next s q) l ∙ ap (λ (x : Q → Option X). labels_by x l) (fun_ext (kept s q)))

  pub labels-chosen : (s : S) (l : List Q) → labels next label s (chosen (λ q. given (label s q)) l) ≡ labels next label s l
  labels-chosen s l = labels-start s (chosen (λ q. given (label s q)) l) ∙ labels_by-chosen (label s) l ∙ sym (labels-start s l)

module _ {S Q A X : Type 0} where
  module _ (m n : Machine S Q A) (a b : S → Q → Option X) where
    -- no label is left on the left: nothing on the right is in a pair
    none_left : (t : S) (k : List Q) → [] ≡ labels n.next b t k → Pairs (OfMet (SameLabel a b)) [] (met (watched n b) t k)
    none_left t [] e = tt
    none_left t (p ∷ k) e =
        option_cases (b t p)
        (λ o. rw o (none_left (n.next t p) k (rw o at e)))
        (λ x o. absurd (let y : [] ≡ x ∷ labels n.next b (n.next t p) k = rw o at e in let z : ◌≡◌ {A = ℕ} 0 1 = cc in omega arith))

    -- the left's next request has a label: what has none on the right is passed over, until the one with the same label comes
    one_left : (s t : S) (q : Q) (x : X) (l k : List Q) → a s q ≡ some x
        → ((t' : S) (k' : List Q) → labels m.next a (m.next s q) l ≡ labels n.next b t' k'
        → Pairs (OfMet (SameLabel a b)) (met (watched m a) (m.next s q) l) (met (watched n b) t' k'))
        → x ∷ labels m.next a (m.next s q) l ≡ labels n.next b t k
        → Pairs (OfMet (SameLabel a b)) (record { state = s; request = q } ∷ met (watched m a) (m.next s q) l) (met (watched n b) t k)
    one_left s t q x l [] o rest e = absurd (let z : ◌≡◌ {A = ℕ} 0 1 = cc in omega arith)
    one_left s t q x l (p ∷ k) o rest e =
        option_cases (b t p)
        (λ o'. rw o' (one_left s (n.next t p) q x l k o rest (rw o' at e)))
        (λ y o'. let z : x ∷ labels m.next a (m.next s q) l ≡ y ∷ labels n.next b (n.next t p) k = rw o' at e in
        let u : x ≡ y = cc in
        let v : a s q ≡ b t p = o ∙ ap some u ∙ sym o' in
        let i : given (b t p) ≡ true = rw o' in
        rw i (v, rest (n.next t p) k (cc)))

    pub label_pairs : (s t : S) (l k : List Q) → labels m.next a s l ≡ labels n.next b t k
        → Pairs (OfMet (SameLabel a b)) (met (watched m a) s l) (met (watched n b) t k)
    label_pairs s t [] k e = none_left t k e
    label_pairs s t (q ∷ l) k e =
        option_cases (a s q)
        (λ o. rw o (label_pairs (m.next s q) t l k (rw o at e)))
        (λ x o. let i : given (a s q) ≡ true = rw o in rw i (one_left s t q x l k o (λ t' k'. label_pairs (m.next s q) t' l k') (rw o at e)))

  pub seen-watched : (m : Machine S Q A) (a : S → Q → Option X) → ((s : S) (q : Q) → m.own s q ≡ true → given (a s q) ≡ true)
      → (s : S) (l : List Q) → somes (seen (watched m a) s l) ≡ seen m s l
  seen-watched m a h s [] = refl
  seen-watched m a h s (q ∷ l) =
      by_cases (m.own s q)
      (λ o. rw (o, h s q o, seen-watched m a h (m.next s q) l))
      (λ o. by_cases (given (a s q))
      (λ p. rw (o, p, seen-watched m a h (m.next s q) l))
      (λ p. rw (o, p, seen-watched m a h (m.next s q) l)))

  pub unwound-labels : (m n : Machine S Q A) (a b : S → Q → Option X) {R : S → S → Type 0} → Laws (watched m a) (watched n b) (SameLabel a b) R
      → ((s : S) (q : Q) → m.own s q ≡ true → given (a s q) ≡ true) → ((s : S) (q : Q) → n.own s q ≡ true → given (b s q) ≡ true)
      → (s t : S) → R s t → (l k : List Q) → labels m.next a s l ≡ labels n.next b t k
      → (seen m s l ≡ seen n t k) × R (end m.next s l) (end n.next t k)
  unwound-labels m n a b w h i s t r l k e =
      let x = unwound w s t r l k (label_pairs m n a b s t l k e) in
      (sym (seen-watched m a h s l) ∙ ap somes x.0 ∙ seen-watched n b i t k, x.1)
