-- Laws of fields and numbers.
--     is_same             bytes that are the same are equal; is-other: bytes of another length are not the same
--     number_long         a field of more than 16 bytes is no number
--     total_fields        the bytes of a line are those of its fields, each with the byte that ends it
-- Assumes nothing.
use Rattle.std.specs.Prelude.{◌≡◌, refl, true, false, List, [], ◌∷◌, ℕ, ◌+◌, ◌<◌, eqb, length, None}
use Rattle.std.proofs.Common.{ap, arith, le-leb, eqb-true}
use Rattle.std.proofs.lemmas.Bool.{lt-leb}
use Rattle.kinds.proofs.Tests.{by_cases, clash}
use Rattle.replay_text.specs.Bytes.{tab}
use Rattle.replay_text.specs.Field.{push, fields_of, number_of, is}

pub is_same : (f w : List ℕ) → is f w ≡ true → f ≡ w
unfolding is
is_same [] [] e = refl
is_same [] (b ∷ k) e = clash e refl
is_same (a ∷ l) [] e = clash e refl
is_same (a ∷ l) (b ∷ k) e =
    by_cases (eqb a b)
    (λ o. let y = eqb-true a b o in let z = is_same l k (rw o at e) in cc)
    (λ o. clash (rw o at e) refl)

pub is-other : (f w : List ℕ) → (length f ≡ length w → ⊥) → is f w ≡ false
is-other f w h = by_cases (is f w) (λ o. absurd (h (ap length (is_same f w o)))) (λ o. o)

pub number_long : (f : List ℕ) → 16 < length f → number_of f ≡ None
unfolding number_of
number_long f h = rw (le-leb 1 (length f) (omega arith), lt-leb (length f) 16 h)

abbrev pub total : List (List ℕ) → ℕ
total [] = 0
total (f ∷ fs) = length f + 1 + total fs

total-push : (b : ℕ) (fs : List (List ℕ)) → 0 < length fs → total (push b fs) ≡ total fs + 1
total-push b [] h = absurd (omega arith)
total-push b (f ∷ fs) h = omega arith

length_push : (b : ℕ) (fs : List (List ℕ)) → length (push b fs) ≡ length fs
length_push b [] = refl
length_push b (f ∷ fs) = refl

some-field : (l : List ℕ) → 0 < length (fields_of l)
unfolding fields_of
some-field [] = omega arith
some-field (b ∷ l) = by_cases (eqb b tab) (λ o. rw o (omega arith)) (λ o. rw (o, length_push b (fields_of l)) (some-field l))

pub total_fields : (l : List ℕ) → total (fields_of l) ≡ length l + 1
unfolding fields_of
total_fields [] = omega arith
total_fields (b ∷ l) =
    by_cases (eqb b tab)
    (λ o. rw o (omega (arith, total_fields l)))
    (λ o. rw o (omega (arith, total-push b (fields_of l) (some-field l), total_fields l)))
