-- Theorems of specs/Tests.antt.
--     by_cases b f g      go by the two values of b; cond_cases: what holds of both holds of the one that b picks
--     clash p q           a test is not both true and false; not_true, not_false: the test behind a negation
--     and_left, and_right the parts of a conjunction that holds; and_both puts them together; and-true, and_false: by its last part
--     or_cases            the part of a disjunction that holds; or_left and or_right put one in; or_first, or_second: the parts of one that does not hold
--     tests               the rule set that turns a fact about numbers into the value of its test
-- Assumes nothing.
use Rattle.std.specs.Prelude.{◌≡◌, refl, Bool, true, false, cond, not, ◌&&◌, ◌||◌, List, [], ◌∷◌, ◌++◌, ℕ, zero, suc, get_or}
use Rattle.std.proofs.Common.{sym, arith, lt-ltb, le-ltb, le-leb, eq-eqb, ne_eqb}
use Rattle.std.proofs.Math.Option.{Option, none, some}
use Rattle.std.proofs.lemmas.Bool.{lt-leb}
use Rattle.kinds.specs.Tests.{all, given}

pub ruleset tests = (lt-ltb, le-ltb, lt-leb, le-leb, eq-eqb, ne_eqb)

pub by_cases : {P : Type 0} (b : Bool) → (b ≡ true → P) → (b ≡ false → P) → P
by_cases true f g = f refl
by_cases false f g = g refl

pub cond_cases : {A : Type 0} (P : A → Type 0) (b : Bool) {x y : A} → P x → P y → P (cond b x y)
cond_cases P true u v = u
cond_cases P false u v = v

pub clash : {P : Type 0} {b : Bool} → b ≡ true → b ≡ false → P
clash p q = absurd (let y : ◌≡◌ {A = ℕ} 0 1 = cc in omega arith)

pub not_true : (b : Bool) → not b ≡ true → b ≡ false
not_true true e = clash e refl
not_true false e = refl

pub not_false : (b : Bool) → not b ≡ false → b ≡ true
not_false true e = refl
not_false false e = clash refl e

pub and_left : (a b : Bool) → (a && b) ≡ true → a ≡ true
and_left true b e = refl
and_left false b e = e

pub and_right : (a b : Bool) → (a && b) ≡ true → b ≡ true
and_right true b e = e
and_right false b e = clash e refl

pub and_both : (a b : Bool) → a ≡ true → b ≡ true → (a && b) ≡ true
and_both a b p q = rw (p, q)

pub and-true : (b : Bool) → (b && true) ≡ b
and-true true = refl
and-true false = refl

pub and_false : (b : Bool) → (b && false) ≡ false
and_false true = refl
and_false false = refl

pub or_cases : {P : Type 0} (a b : Bool) → (a || b) ≡ true → (a ≡ true → P) → (b ≡ true → P) → P
or_cases true b e f g = f refl
or_cases false b e f g = g e

pub or_left : (a b : Bool) → a ≡ true → (a || b) ≡ true
or_left true b e = refl
or_left false b e = clash refl (sym e)

pub or_right : (a b : Bool) → b ≡ true → (a || b) ≡ true
or_right true b e = refl
or_right false b e = e

pub or_first : (a b : Bool) → (a || b) ≡ false → a ≡ false
or_first true b e = e
or_first false b e = refl

pub or_second : (a b : Bool) → (a || b) ≡ false → b ≡ false
or_second true b e = clash refl e
or_second false b e = e

pub ungiven : {X : Type 0} (o : Option X) → given o ≡ false → o ≡ none
ungiven none e = refl
ungiven (some x) e = clash refl e

pub option_cases : {X P : Type 0} (o : Option X) → (o ≡ none → P) → ((x : X) → o ≡ some x → P) → P
option_cases none f g = f refl
option_cases (some x) f g = g x refl

pub none-some : {X P : Type 0} {x : X} → none ≡ some x → P
none-some e = absurd (let z : ◌≡◌ {A = ℕ} 0 1 = cc in omega arith)

-- a test that the list does not have is true
pub all_true : (l : List Bool) (k : ℕ) → all l ≡ true → get_or l k true ≡ true
all_true [] k e = refl
all_true (b ∷ l) zero e = and_left b (all l) e
all_true (b ∷ l) (suc k) e = all_true l k (and_right b (all l) e)

pub all_append : (l k : List Bool) → all (l ++ k) ≡ (all l && all k)
all_append [] k = refl
all_append (true ∷ l) k = all_append l k
all_append (false ∷ l) k = refl
