-- Laws of the fence by itself.
--     shut-cases          what it answers is one of three
--     fence-other         a word of the state that is not the fence word stays when the fence changes
--     fence-upper         and so do all bits of the fence word but the lowest, which is then what was asked (fence_lowest), if the state has the word
-- Assumes nothing.
use Rattle.std.specs.Prelude.{◌≡◌, Bool, true, false, List, ℕ, ◌+◌, ◌*◌, ◌/◌, ◌%◌, ◌<◌, length}
use Rattle.std.proofs.Common.{arith, get_or-set_same, get_or-set_other, eq-eqb, ne_eqb}
use Rattle.kinds.specs.Answer.{refuse}
use Rattle.kinds.specs.Words.{at}
use Rattle.kinds.specs.declared.answer.Answer.{Answer}
use Rattle.kinds.specs.declared.answer.Answer.TheVariants.{Ones, Drop}
use Rattle.kinds.specs.declared.answer.Reason.TheVariants.{Fenced}
use Rattle.kinds.specs.declared.request.Request.{Request}
use Rattle.kinds.specs.declared.request.Request.TheVariants.{Dma, Load, Store, Error, Clear, End, Priority, Fatal, FenceClear, Unnamed}
use Rattle.profile.specs.Fence.{fence_word, fenced, with_fence, fence_to, shut}
use Rattle.profile.specs.Windows.{ones_of}

pub shut-cases : (P : Answer → Type 0) (q : Request) → P (refuse Fenced) → ((w : ℕ) → P (Ones Fenced (ones_of w))) → P (Drop Fenced) → P (shut q)
unfolding shut
shut-cases P (Dma q) r o d = r
shut-cases P (Load a w) r o d = o w
shut-cases P (Store a w) r o d = d
shut-cases P (Error n) r o d = r
shut-cases P (Clear p c) r o d = r
shut-cases P (End i) r o d = r
shut-cases P (Priority i n) r o d = r
shut-cases P (Fatal n) r o d = r
shut-cases P FenceClear r o d = r
shut-cases P Unnamed r o d = r

pub fence-other : (n : ℕ) (b : Bool) (l : List ℕ) (i : ℕ) → ¬ (i ≡ fence_word n) → at (fence_to n b l) i ≡ at l i
fence-other n b l i h = get_or-set_other l (fence_word n) i _ _ (λ e. h e)

with_upper : (b : Bool) (w : ℕ) → with_fence b w / 2 ≡ w / 2
unfolding with_fence
with_upper true w = omega arith
with_upper false w = omega arith

with_lowest : (b : Bool) (w : ℕ) → fenced (with_fence b w) ≡ b
unfolding with_fence
with_lowest true w = eq-eqb ((w / 2 * 2 + 1) % 2) 1 (omega arith)
with_lowest false w = ne_eqb (w / 2 * 2 % 2) 1 (λ e. omega arith)

module _ (n : ℕ) (b : Bool) (l : List ℕ) (h : fence_word n < length l) where
  now : at (fence_to n b l) (fence_word n) ≡ with_fence b (at l (fence_word n))
  now = get_or-set_same l (fence_word n) _ _ h

  pub fence-upper : at (fence_to n b l) (fence_word n) / 2 ≡ at l (fence_word n) / 2
  fence-upper = rw now (with_upper b (at l (fence_word n)))

  pub fence_lowest : fenced (at (fence_to n b l) (fence_word n)) ≡ b
  fence_lowest = rw now (with_lowest b (at l (fence_word n)))
