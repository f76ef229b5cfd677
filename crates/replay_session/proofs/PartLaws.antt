-- What the part of a lent table that is in use cites.
--     end-within, part_length, part-words     the part that ends where the words in use do
--     part-rest                               the words after it
-- Assumes nothing.
use mathlib.Core.Path.{◌≡◌, sym, ap, ◌∙◌}
use mathlib.Core.Bool.{true, false}
use mathlib.Core.List.{List}
use Prim.Native.Nat.{ℕ, ◌≤◌, min}
use native.Mathlib.Nat.{min-eq_left, min-eq_right, min-le_right}
use native.Mathlib.Omega.{arith}
use lib.Dec.{leb}
use lib.ListN.{length, take, drop, drop_of_length-le}
use lib.Seq.{take_all, length-take-le}
use borrow.Author.Tests.{leb-true, leb-false}
use Rattle.kinds.proofs.Tests.{by_cases}

-- the part that ends there
module _ (w end : ℕ) (l : List ℕ) (e : end ≡ min w (length l)) where
  pub end-within : end ≤ length l
  end-within = omega (arith, e, min-le_right w (length l))

  pub part_length : end ≡ length (take end l)
  part_length = sym (length-take-le end l end-within)

  -- all of it is in use, or as many words as were asked for
  all : leb w (length l) ≡ false → length l ≤ end
  all b = omega (arith, e, leb-false w (length l) b, min-eq_right {n = length l} {m = w} (omega (arith, leb-false w (length l) b)))

  asked : leb w (length l) ≡ true → end ≡ w
  asked b = e ∙ min-eq_left (leb-true w (length l) b)

  pub part-words : take end l ≡ take w l
  part-words =
      by_cases (leb w (length l))
      (λ b. ap (λ (n : ℕ). take n l) (asked b))
      (λ b. take_all end l (all b) ∙ sym (take_all w l (omega (arith, leb-false w (length l) b))))

  -- what follows it
  pub part-rest : drop end l ≡ drop w l
  part-rest =
      by_cases (leb w (length l))
      (λ b. ap (λ (n : ℕ). drop n l) (asked b))
      (λ b. drop_of_length-le l {i = end} (all b) ∙ sym (drop_of_length-le l {i = w} (omega (arith, leb-false w (length l) b))))
