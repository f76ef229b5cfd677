-- What the functions of `isolation_tests` are proved from. Assumes nothing.
use Rattle.std.specs.Prelude.{◌≡◌, refl, Bool, true, false, cond, ◌||◌, List, [], ◌∷◌, ◌++◌, ℕ, zero, suc, ◌+◌, ◌<◌, ◌≤◌, leb, eqb, get_or, length}
use Rattle.std.proofs.Common.{arith, add-zero, ap, ◌∙◌, leb-true, eqb-true}
use Rattle.std.proofs.lemmas.Bool.{lt-leb}
use Rattle.std.proofs.lemmas.List.Folds.{list_any-append}
use Rattle.std.specs.List.{range_with_len, list_any}
use Rattle.isolation_groups.specs.Any.{any}
use Rattle.kinds.proofs.Tests.{clash, all_true}
use Rattle.kinds.specs.Words.{no_pe}
use Rattle.kinds.specs.declared.record.Sizes.{Sizes}
use Rattle.kinds.specs.declared.request.Operation.{Operation}
use Rattle.kinds.specs.declared.request.Operation.TheVariants.{Plain, Edit, Invalidate}
use Rattle.profile.specs.Tables.{most_pes}
use Rattle.isolation_tests.specs.Group.{flag, owner_number_in, operation_number_in}
use Rattle.isolation_reach.specs.Footprint.{room_after, MembersMarked}
use Rattle.isolation_reach.proofs.FootprintLaws.{marks-exact}
use Rattle.isolation_tests.specs.Covers.{coverable, Covered}

-- ---- the numbers below a bound

range_more : (a n : ℕ) → range_with_len a (suc n) ≡ range_with_len a n ++ (a + n) ∷ []
range_more a zero = rw (add-zero a)
range_more a (suc n) = let e : a + 1 + n ≡ a + suc n = omega arith in ap (λ l. a ∷ l) (rw (← e) (range_more (a + 1) n))

last_first : (b c : Bool) → (b || (c || false)) ≡ cond c true b
last_first true true = refl
last_first true false = refl
last_first false true = refl
last_first false false = refl

pub any_range : (P : ℕ → Bool) (n : ℕ) → list_any P (range_with_len 0 n) ≡ any n P
unfolding any
any_range P zero = refl
any_range P (suc n) =
    let e : 0 + n ≡ n = omega arith in
    ap (λ l. list_any P l) (range_more 0 n) ∙ list_any-append P (range_with_len 0 n) ((0 + n) ∷ []) ∙ rw (e, any_range P n) (last_first (any n P) (P n))

-- ---- owners

-- with more PEs than the limit every operation is nobody's
pub past_nobody : (z : Sizes) (r w s l : List ℕ) (q : Operation) → most_pes < z.pes → no_pe ≡ operation_number_in z r w s l q
unfolding operation_number_in owner_number_in
past_nobody z r w s l (Plain q) h = rw (lt-leb _ _ h)
past_nobody z r w s l (Edit k v) h = refl
past_nobody z r w s l (Invalidate x) h = rw (lt-leb _ _ h)

-- ---- marks

module _ (n : ℕ) (r t u m : List ℕ) where
  abbrev fit_tests : List Bool
  fit_tests = leb n most_pes ∷ eqb (length r) (length m) ∷ eqb (length t) (length m) ∷ eqb (length u) (length m) ∷ []

  fits : (k : ℕ) → coverable n r t u m ≡ true → get_or fit_tests k true ≡ true
  unfolding coverable
  fits k o = all_true fit_tests k o

  pub few : {b : Bool} → b ≡ coverable n r t u m → b ≡ true → n ≤ most_pes
  few asked o = leb-true n most_pes (fits 0 (rw asked at o))

  module _ (g l : List ℕ) {b : Bool} (asked : b ≡ coverable n r t u m) where
    pub not_covered : b ≡ false → Covered g n l m r t u 0 r t u
    unfolding flag
    not_covered o = let e = rw asked at o in record { returns = rw e; marks = rw e; tables = rw e; under = rw e; exact = λ p. clash p e }

    pub covered : {x v w : List ℕ} → b ≡ true → MembersMarked n g l m r t u x v w → Covered g n l m r t u 1 x v w
    unfolding flag room_after
    covered o d =
        let e = rw asked at o in
        record {
          returns = rw e;
          marks = rw e d.marks;
          tables = rw e (rw (fits 2 e, fits 3 e) at d.tables);
          under = rw e (rw (fits 2 e, fits 3 e) at d.under);
          exact = λ p. rw (d.marks, eqb-true _ _ (fits 1 e), eqb-true _ _ (fits 2 e), eqb-true _ _ (fits 3 e)) (marks-exact g l m n);
        }
