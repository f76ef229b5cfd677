-- The turns of a sweep.
--     length_turned       the cache keeps its length; length_cleared: where a slot is emptied
--     turns-is            turns for all slots are the sweep
-- Assumes nothing.
use Rattle.std.specs.Prelude.{◌≡◌, Bool, true, cond, ◌&&◌, List, ℕ, ◌+◌, ◌*◌, ◌/◌, ◌%◌, ◌≤◌, ltb, eqb, length}
use Rattle.std.proofs.Common.{◌∙◌, length-set}
use native.Mathlib.Omega.{arith}
use borrow.Author.Tests.{eqb-true, eqb-false}
use Rattle.kinds.proofs.Tests.{by_cases, and_left}
use Rattle.kinds.specs.Turns.{turns}
use Rattle.kinds.proofs.TurnsLaws.{at_place, at_first, turns-map_at}
use Rattle.kinds.specs.Words.{at}
use Rattle.cache.specs.Slots.{slot_words, Test, dropped, sweep}
use Rattle.cache_sweeps.specs.Turn.{cleared, turned}

module _ (l : List ℕ) (k : ℕ) where
  pub length_cleared : (b : Bool) → length (cleared b l k) ≡ length l
  unfolding cleared
  length_cleared b = by_cases b (λ o. rw o (simp length-set)) (λ o. rw o)

  -- word i is one of the four of slot k
  abbrev mine : ℕ → Bool
  mine i = eqb (i / slot_words) k && ltb i (length l)

  at-emptied : (i : ℕ) → at (cleared true l k) i ≡ cond (mine i) 0 (at l i)
  unfolding cleared
  at-emptied i =
      simp (at_place slot_words 3 (omega arith), at_place slot_words 2 (omega arith), at_place slot_words 1 (omega arith), at_first slot_words (omega arith), length-set)
      (by_cases (mine i)
      (λ g. rw g (by_cases (eqb (i % slot_words) 3) (λ o. rw o)
      (λ o. rw o (by_cases (eqb (i % slot_words) 2) (λ p. rw p)
      (λ p. rw p (by_cases (eqb (i % slot_words) 1) (λ r. rw r)
      (λ r. let x = eqb-false (i % slot_words) 3 o in let y = eqb-false (i % slot_words) 2 p in let z = eqb-false (i % slot_words) 1 r in
      let w : i % slot_words ≡ 0 = omega arith in rw (r, w))))))))
      (λ g. rw g))

  at-cleared : (b : Bool) (i : ℕ) → at (cleared b l k) i ≡ cond (mine i) (cond b 0 (at l i)) (at l i)
  at-cleared b i =
      by_cases b
      (λ o. rw o (at-emptied i))
      (λ o. rw o (unfold cleared in by_cases (mine i) (λ g. rw g) (λ g. rw g)))

module _ (d : Test) where
  pub length_turned : (l : List ℕ) (k : ℕ) → length (turned d l k) ≡ length l
  unfolding turned
  length_turned l k = length_cleared l k (dropped d l k)

  rule : List ℕ → (i x : ℕ) → ℕ
  rule l i x = cond (dropped d l (i / slot_words)) 0 x

  dropped-reads : (l m : List ℕ) (k : ℕ) → ((j : ℕ) → j / slot_words ≡ k → at l j ≡ at m j) → dropped d l k ≡ dropped d m k
  unfolding dropped
  dropped-reads l m k h = rw (h (k * slot_words) (omega arith), h (k * slot_words + 1) (omega arith), h (k * slot_words + 2) (omega arith))

  rule-reads : (l m : List ℕ) (i x : ℕ) → ((j : ℕ) → j / slot_words ≡ i / slot_words → at l j ≡ at m j) → rule l i x ≡ rule m i x
  unfolding rule
  rule-reads l m i x h = rw (dropped-reads l m (i / slot_words) h)

  at-turned : (l : List ℕ) (k i : ℕ) → at (turned d l k) i ≡ cond (mine l k i) (rule l i (at l i)) (at l i)
  unfolding turned rule
  at-turned l k i =
      at-cleared l k (dropped d l k) i
      ∙ by_cases (mine l k i) (λ g. rw (g, eqb-true (i / slot_words) k (and_left _ _ g))) (λ g. rw g)

  pub turns-is : (l : List ℕ) (n : ℕ) → length l ≤ n * slot_words → turns (turned d) l n ≡ sweep d l
  unfolding rule sweep
  turns-is l n h = turns-map_at slot_words (omega arith) rule (turned d) length_turned rule-reads at-turned l n h
