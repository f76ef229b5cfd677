-- A loop that sets words of a list to 1.
--     length_puts         the length is kept
--     marked-below        a word with a mark is one of the list; none-marked: a list of zeros has none
--     puts_kept           a mark stays; puts_put: a word that is set has one
--     puts_cases          a mark was there, or its word was set
-- Assumes nothing.
use Rattle.std.specs.Prelude.{◌≡◌, Bool, true, ◌&&◌, List, ltb, eqb, length, set, replicate}
use Rattle.std.proofs.Math.Path.{refl}
use Prim.Native.Nat.{ℕ, zero, suc, ◌<◌}
use Rattle.std.proofs.Common.{arith, get_or-set_same}
use Rattle.std.proofs.Math.ListN.{length-set}
use Rattle.std.proofs.lemmas.List.{get_or-replicate, length-replicate}
use borrow.Author.Tests.{ltb-true, eqb-true, eqb-false}
use Rattle.kinds.proofs.Tests.{by_cases, clash}
use Rattle.kinds.specs.Turns.{turns}
use Rattle.kinds.proofs.WordsLaws.{at_out, at_set}
use Rattle.isolation_reach.specs.Marks.{put_turn}
use Rattle.isolation_groups.specs.Mark.{any_mark}

pub marked-below : (l : List ℕ) (i : ℕ) → any_mark l i ≡ true → i < length l
unfolding any_mark
marked-below l i h = by_cases (ltb i (length l)) (λ o. ltb-true i (length l) o) (λ o. clash (rw (at_out l i o) at h) refl)

pub none-marked : {Z : Type 0} (n i : ℕ) → any_mark (replicate n 0) i ≡ true → Z
unfolding any_mark
none-marked n i h =
    let l = rw (length-replicate {A = ℕ} n 0) at (marked-below (replicate n 0) i h) in
    clash (rw (get_or-replicate {A = ℕ} n i 0 0 l) at h) refl

mark_set : (r : List ℕ) (i : ℕ) → i < length r → any_mark (set r i 1) i ≡ true
unfolding any_mark
mark_set r i h = rw (get_or-set_same r i 1 0 h)

mark_kept : (r : List ℕ) (i j : ℕ) → any_mark r j ≡ true → any_mark (set r i 1) j ≡ true
unfolding any_mark
mark_kept r i j h = rw (at_set r i 1 j) (by_cases (eqb j i && ltb j (length r)) (λ o. rw o) (λ o. rw o h))

mark_cases : {Z : Type 0} (r : List ℕ) (i j : ℕ) → any_mark (set r i 1) j ≡ true → (any_mark r j ≡ true → Z) → (j ≡ i → Z) → Z
unfolding any_mark
mark_cases r i j h f g = by_cases (eqb j i) (λ o. g (eqb-true j i o)) (λ o. f (rw (at_set r i 1 j, o) at h))

module _ (P : ℕ → Bool) (w : ℕ → ℕ) (r : List ℕ) where
  pub length_puts : (k : ℕ) → length (turns (put_turn P w) r k) ≡ length r
  unfolding turns
  length_puts zero = refl
  length_puts (suc k) = by_cases (P k) (λ o. rw o (simp length-set (length_puts k))) (λ o. rw o (length_puts k))

  pub puts_kept : (k i : ℕ) → any_mark r i ≡ true → any_mark (turns (put_turn P w) r k) i ≡ true
  unfolding turns
  puts_kept zero i h = h
  puts_kept (suc k) i h =
      by_cases (P k) (λ o. rw o (mark_kept (turns (put_turn P w) r k) (w k) i (puts_kept k i h))) (λ o. rw o (puts_kept k i h))

  pub puts_put : (k j : ℕ) → j < k → P j ≡ true → w j < length r → any_mark (turns (put_turn P w) r k) (w j) ≡ true
  unfolding turns
  puts_put zero j l o h = absurd (omega arith)
  puts_put (suc k) j l o h =
      by_cases (eqb j k)
      (λ e. let z = eqb-true j k e in rw (z, rw z at o) (mark_set (turns (put_turn P w) r k) (w k) (rw (length_puts k, ← z) h)))
      (λ e. let z = eqb-false j k e in
      let before = puts_put k j (omega arith) o h in
      by_cases (P k) (λ p. rw p (mark_kept (turns (put_turn P w) r k) (w k) (w j) before)) (λ p. rw p before))

  pub puts_cases : {Z : Type 0} (k i : ℕ) → any_mark (turns (put_turn P w) r k) i ≡ true → (any_mark r i ≡ true → Z)
      → ((j : ℕ) → j < k → P j ≡ true → i ≡ w j → Z) → Z
  unfolding turns
  puts_cases zero i h f g = f h
  puts_cases (suc k) i h f g =
      by_cases (P k)
      (λ o. mark_cases (turns (put_turn P w) r k) (w k) i (rw o at h) (λ q. puts_cases k i q f (λ j l. g j (omega arith))) (λ e. g k (omega arith) o e))
      (λ o. puts_cases k i (rw o at h) f (λ j l. g j (omega arith)))
