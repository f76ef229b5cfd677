-- Theorems of specs/Has.antt. Assumes nothing.
use Rattle.std.specs.Prelude.{◌≡◌, refl, true, ℕ, eqb}
use mathlib.Core.List.{List, [], ◌∷◌, Memᴰ}
use Rattle.std.proofs.Common.{eqb-true, eq-eqb}
use Rattle.kinds.proofs.Tests.{clash, or_cases, or_left, or_right}
use Rattle.kinds.specs.Has.{has}

pub has_of : {k : ℕ} {l : List ℕ} → Memᴰ k l → has k l ≡ true
unfolding has
has_of {k} (Memᴰ.head {x = x} {xs = l} e) = or_left (eqb k x) (has k l) (eq-eqb k x e)
has_of {k} (Memᴰ.tail {x = x} {xs = l} h) = or_right (eqb k x) (has k l) (has_of h)

pub of_has : (k : ℕ) (l : List ℕ) → has k l ≡ true → Memᴰ k l
unfolding has
of_has k [] e = clash e refl
of_has k (x ∷ l) e = or_cases (eqb k x) (has k l) e (λ o. Memᴰ.head (eqb-true k x o)) (λ o. Memᴰ.tail (of_has k l o))
