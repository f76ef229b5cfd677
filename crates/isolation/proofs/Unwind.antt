-- Theorems of specs/Unwind.antt.
--     aligned             from `Laws` to two lists that stand side by side
--     paired              lists whose owned requests match in order do stand side by side
--     unwound             THE THEOREM, for any `Match`
--     pairs_both          requests that match in two ways, in order
--     run_same            a machine that runs as another one does: every list is answered the same and leaves the same
-- Assumes nothing.
use Rattle.std.specs.Prelude.{◌≡◌, refl, true, List, [], ◌∷◌}
use Rattle.kinds.proofs.Tests.{by_cases}
use Rattle.isolation.specs.Machine.{Machine, Align, Laws, Runs, Pairs, OfMet, end, seen, met, replies}
use Rattle.isolation.specs.Machine.Align.{done, left, right, both}

module _ {S Q A : Type 0} where
  pub aligned : {m n : Machine S Q A} {Match : S → S → Q → Q → Type 0} {R : S → S → Type 0} → Laws m n Match R
      → {s t : S} {l k : List Q} → Align m n Match s t l k → R s t
      → (seen m s l ≡ seen n t k) × R (end m.next s l) (end n.next t k)
  aligned w done r = (refl, r)
  aligned w (left {q = q} o a) r = rw o (aligned w a (w.skip_left r q o))
  aligned w (right {p = p} o a) r = rw o (aligned w a (w.skip_right r p o))
  aligned w (both {q = q} {p = p} o o' h a) r =
      let now = w.step r q p h o o' in
      let rest = aligned w a now.1 in
      rw (o, o') (cc, rest.1)

-- ---- lists whose owned requests match in order stand side by side

module _ {S Q A : Type 0} {m n : Machine S Q A} {Match : S → S → Q → Q → Type 0} where
  -- nothing owned is left on the left: all on the right stands alone
  none_left : (s t : S) (k : List Q) → Pairs (OfMet Match) [] (met n t k) → Align m n Match s t [] k
  none_left s t [] e = done
  none_left s t (p ∷ k) e = by_cases (n.own t p) (λ o. absurd (rw o at e)) (λ o. right o (none_left s (n.next t p) k (rw o at e)))

  -- the left's next request is owned: what is not owned on the right stands alone, until its match comes
  one_left : (s t : S) (q : Q) (l k : List Q) → m.own s q ≡ true
      → ((t' : S) (k' : List Q) → Pairs (OfMet Match) (met m (m.next s q) l) (met n t' k') → Align m n Match (m.next s q) t' l k')
      → Pairs (OfMet Match) (record { state = s; request = q } ∷ met m (m.next s q) l) (met n t k) → Align m n Match s t (q ∷ l) k
  one_left s t q l [] o rest e = absurd e
  one_left s t q l (p ∷ k) o rest e =
      by_cases (n.own t p)
      (λ o'. let x = rw o' at e in both o o' x.0 (rest (n.next t p) k x.1))
      (λ o'. right o' (one_left s (n.next t p) q l k o rest (rw o' at e)))

  pub paired : (s t : S) (l k : List Q) → Pairs (OfMet Match) (met m s l) (met n t k) → Align m n Match s t l k
  paired s t [] k e = none_left s t k e
  paired s t (q ∷ l) k e =
      by_cases (m.own s q)
      (λ o. one_left s t q l k o (λ t' k'. paired (m.next s q) t' l k') (rw o at e))
      (λ o. left o (paired (m.next s q) t l k (rw o at e)))

pub unwound : {S Q A : Type 0} {m n : Machine S Q A} {Match : S → S → Q → Q → Type 0} {R : S → S → Type 0} → Laws m n Match R
    → (s t : S) → R s t → (l k : List Q) → Pairs (OfMet Match) (met m s l) (met n t k)
    → (seen m s l ≡ seen n t k) × R (end m.next s l) (end n.next t k)
unwound w s t r l k e = aligned w (paired s t l k e) r

-- ---- requests that match in two ways

pub pairs_both : {X : Type 0} (M N : X → X → Type 0) (l k : List X) → Pairs M l k → Pairs N l k → Pairs (λ x y. M x y × N x y) l k
pairs_both M N [] [] a b = tt
pairs_both M N [] (y ∷ k) a b = absurd a
pairs_both M N (x ∷ l) [] a b = absurd a
pairs_both M N (x ∷ l) (y ∷ k) a b = ((a.0, b.0), pairs_both M N l k a.1 b.1)

-- ---- a machine that runs as another one does, seen through h, as long as I holds

pub run_same : {X S Q A : Type 0} {c : Machine X Q A} {m : Machine S Q A} {h : X → S} {I : X → Type 0} → Runs c m h I
    → (x : X) → I x → (l : List Q) → (replies c x l ≡ replies m (h x) l) × (h (end c.next x l) ≡ end m.next (h x) l)
run_same w x i [] = (refl, refl)
run_same {c = c} w x i (q ∷ l) =
    let rest = run_same w (c.next x q) (w.stays x i q) l in
    rw (w.answers x i q, ← w.moves x i q) (cc, rest.1)
