-- Reads after writes, as equations with no premise on the place.
--     at_out              a word outside the table is 0
--     pe_in               the number of a PE in a word that the table has; pe-out: a word outside it is 2 ^ 16, above all numbers of 16 bits
--     at_set              a word after a single store
--     at_front            a word after the first words of the table became others
--     at-map_at           a word after a table was rewritten by a rule; length_map_at keeps the length
-- Assumes nothing.
use Rattle.std.specs.Prelude.{◌≡◌, refl, false, cond, ◌&&◌, List, [], ◌∷◌, ◌++◌, ℕ, zero, suc, ◌+◌, ◌-◌, ◌^◌, ◌<◌, ltb, eqb, length, set, drop}
use Rattle.std.proofs.Common.{ap, ◌∙◌, zero-add, add-zero, add-suc, suc-add, not-suc-le-zero, le_of_suc-le-suc, arith, get_or-set_same, get_or-set_other, get_or-append-add, get_or-drop, ltb-true, ltb-false, eqb-true}
use Rattle.std.proofs.Math.ListN.{get_or-append, get_or-eq_default}
use Rattle.std.proofs.Math.Seq.{set_out}
use Rattle.std.proofs.lemmas.Bool.{eqb-false}
use Rattle.kinds.proofs.Tests.{by_cases}
use Rattle.kinds.specs.Words.{at, no_pe, pe_at, map_at}

pub at_out : (l : List ℕ) (i : ℕ) → ltb i (length l) ≡ false → at l i ≡ 0
at_out l i o = get_or-eq_default l 0 (ltb-false i (length l) o)

pub pe_in : (l : List ℕ) (i : ℕ) → i < length l → at l i ≡ pe_at l i
pe_in [] i h = absurd (not-suc-le-zero h)
pe_in (x ∷ l) zero h = refl
pe_in (x ∷ l) (suc i) h = pe_in l i (le_of_suc-le-suc h)

pub pe-out : (l : List ℕ) (i : ℕ) → ltb i (length l) ≡ false → pe_at l i ≡ 2 ^ 16
pe-out l i o = get_or-eq_default l no_pe (ltb-false i (length l) o)

pub at_set : (l : List ℕ) (i v j : ℕ) → at (set l i v) j ≡ cond (eqb j i && ltb j (length l)) v (at l j)
at_set l i v j =
    by_cases (eqb j i)
    (λ o. by_cases (ltb j (length l))
    (λ p. rw (o, p) (rw (← eqb-true j i o) (get_or-set_same l j v 0 (ltb-true j (length l) p))))
    (λ p. rw (o, p) (ap (λ (m : List ℕ). at m j) (set_out l i v (rw (eqb-true j i o) at (ltb-false j (length l) p))))))
    (λ o. rw o (get_or-set_other l i j v 0 (eqb-false j i o)))

pub at_front : (k l : List ℕ) (n : ℕ) → length k ≡ n → (i : ℕ) → at (k ++ drop n l) i ≡ cond (ltb i n) (at k i) (at l i)
at_front k l n e i =
    by_cases (ltb i n)
    (λ o. rw o (get_or-append k (drop n l) 0 i (rw e (ltb-true i n o))))
    (λ o. let h = ltb-false i n o in
    let z : length k + (i - n) ≡ i = rw e (omega arith) in
    let y : n + (i - n) ≡ i = omega arith in
    rw o (rw z at (get_or-append-add k (drop n l) (i - n) 0) ∙ get_or-drop n l (i - n) 0 ∙ ap (at l) y))

pub length_map_at : (f : ℕ → ℕ → ℕ) (j : ℕ) (l : List ℕ) → length (map_at f j l) ≡ length l
unfolding map_at
length_map_at f j [] = refl
length_map_at f j (x ∷ xs) = ap suc (length_map_at f (suc j) xs)

at-map_at-from : (f : ℕ → ℕ → ℕ) (j : ℕ) (l : List ℕ) (i : ℕ) → i < length l → at (map_at f j l) i ≡ f (j + i) (at l i)
unfolding map_at
at-map_at-from f j [] i h = absurd (not-suc-le-zero h)
at-map_at-from f j (x ∷ xs) zero h = rw add-zero
at-map_at-from f j (x ∷ xs) (suc i) h = rw (add-suc, ← suc-add) (at-map_at-from f (suc j) xs i (le_of_suc-le-suc h))

pub at-map_at : (f : ℕ → ℕ → ℕ) (l : List ℕ) (i : ℕ) → at (map_at f 0 l) i ≡ cond (ltb i (length l)) (f i (at l i)) 0
at-map_at f l i =
    by_cases (ltb i (length l))
    (λ o. rw o (rw zero-add at (at-map_at-from f 0 l i (ltb-true i (length l) o))))
    (λ o. rw o (get_or-eq_default (map_at f 0 l) 0 (rw length_map_at (ltb-false i (length l) o))))
