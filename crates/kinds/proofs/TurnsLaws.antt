-- Laws of a loop over the groups of w words of a table, each turn rewriting one group by a rule of its old words. The last group may be incomplete.
--     turns_suc           one turn more; turns_next: as a loop takes it; length_turns: the length is kept
--     at_place            a word after a store to word j of group k; at_first: to its word 0
--     turns-map_at        turns that reach the end of the table rewrite it by the rule
-- Assumes nothing.
use Rattle.std.specs.Prelude.{◌≡◌, Bool, true, false, cond, ◌&&◌, List, ltb, eqb, length, set}
use Rattle.std.proofs.Math.Path.{refl}
use Rattle.std.proofs.Common.{sym, ◌∙◌, add-zero, div-lt_iff_lt-mul, div-add-mod', mod-eq_of_lt, add-one, arith, ext_get_or}
use Prim.Native.Nat.{ℕ, zero, suc, ◌+◌, ◌*◌, ◌/◌, ◌%◌, ◌<◌, ◌≤◌}
use Rattle.std.proofs.Math.Nat.{div-eq_of_lt, mul-add-div_right, mul-add-mod_self_right}
use borrow.Author.Tests.{eqb-true, eqb-false, ltb-true, ltb-false, lt-ltb, le-ltb, eq-eqb, ne_eqb}
use Rattle.kinds.proofs.Tests.{by_cases}
use Rattle.kinds.specs.Turns.{turns}
use Rattle.kinds.specs.Words.{at, map_at}
use Rattle.kinds.proofs.WordsLaws.{at_set, length_map_at, at-map_at}

pub turns_suc : (turn : List ℕ → ℕ → List ℕ) (l : List ℕ) (n : ℕ) → turns turn l (suc n) ≡ turn (turns turn l n) n
unfolding turns
turns_suc turn l n = refl

pub turns_next : (turn : List ℕ → ℕ → List ℕ) (l : List ℕ) (k : ℕ) {m x : List ℕ} → m ≡ turns turn l k → x ≡ turn m k → x ≡ turns turn l (k + 1)
turns_next turn l k e h = rw (add-one, turns_suc turn l k, ← e) h

-- word i is word j of group k
place_is : (i k w j : ℕ) → j < w → eqb i (k * w + j) ≡ (eqb (i / w) k && eqb (i % w) j)
place_is i k w j h =
    by_cases (eqb (i / w) k)
    (λ o. by_cases (eqb (i % w) j)
    (λ p. rw (o, p) (eq-eqb i (k * w + j) (rw (← eqb-true (i / w) k o, ← eqb-true (i % w) j p) (sym (div-add-mod' i w)))))
    (λ p. rw (o, p) (ne_eqb i (k * w + j) (λ e. eqb-false (i % w) j p (rw (e, mul-add-mod_self_right k w j) (mod-eq_of_lt h))))))
    (λ o. rw o (ne_eqb i (k * w + j) (λ e. eqb-false (i / w) k o (rw (e, mul-add-div_right {m = w} (omega arith) k j, div-eq_of_lt h) (omega arith)))))

inside : (a b c : Bool) (v x : ℕ) → cond (a && b && c) v x ≡ cond (a && c) (cond b v x) x
inside true true c v x = refl
inside true false true v x = refl
inside true false false v x = refl
inside false b c v x = refl

pub at_place : (w j : ℕ) → j < w → (l : List ℕ) (k v i : ℕ) → at (set l (k * w + j) v) i ≡ cond (eqb (i / w) k && ltb i (length l)) (cond (eqb (i % w) j) v (at l i)) (at l i)
at_place w j h l k v i = at_set l (k * w + j) v i ∙ rw (place_is i k w j h) (inside (eqb (i / w) k) (eqb (i % w) j) (ltb i (length l)) v (at l i))

pub at_first : (w : ℕ) → 0 < w → (l : List ℕ) (k v i : ℕ) → at (set l (k * w) v) i ≡ cond (eqb (i / w) k && ltb i (length l)) (cond (eqb (i % w) 0) v (at l i)) (at l i)
at_first w h l k v i = rw add-zero at (at_place w 0 h l k v i)

-- `near`: the rule reads only the group of the word that it rewrites. `at_turn`: a turn rewrites its group and no other
module _ (w : ℕ) (pos : 0 < w) (rule : List ℕ → (i x : ℕ) → ℕ) (turn : List ℕ → ℕ → List ℕ)
    (keeps : (l : List ℕ) (k : ℕ) → length (turn l k) ≡ length l)
    (near : (l m : List ℕ) (i x : ℕ) → ((j : ℕ) → j / w ≡ i / w → at l j ≡ at m j) → rule l i x ≡ rule m i x)
    (at_turn : (l : List ℕ) (k i : ℕ) → at (turn l k) i ≡ cond (eqb (i / w) k && ltb i (length l)) (rule l i (at l i)) (at l i)) where
  pub length_turns : (l : List ℕ) (n : ℕ) → length (turns turn l n) ≡ length l
  unfolding turns
  length_turns l zero = refl
  length_turns l (suc n) = keeps (turns turn l n) n ∙ length_turns l n

  at-turns : (l : List ℕ) (n i : ℕ) → at (turns turn l n) i ≡ cond (ltb (i / w) n && ltb i (length l)) (rule l i (at l i)) (at l i)
  at-turns l zero i = rw (le-ltb (i / w) 0 (omega arith)) (unfold turns in refl)
  at-turns l (suc n) i =
      let m = turns turn l n in
      let a = at-turns l n in
      rw (turns_suc turn l n, at_turn m n i, length_turns l n)
      (by_cases (eqb (i / w) n)
      (λ o. let e = eqb-true (i / w) n o in
      let old : (j : ℕ) → j / w ≡ i / w → at m j ≡ at l j = λ j q. rw (le-ltb (j / w) n (omega arith)) at (a j) in
      rw (o, lt-ltb (i / w) (suc n) (omega arith), old i refl, near m l i (at l i) old))
      (λ o. let e = eqb-false (i / w) n o in
      rw o (by_cases (ltb (i / w) n)
      (λ p. let z = ltb-true (i / w) n p in rw (lt-ltb (i / w) (suc n) (omega arith)) (rw p at (a i)))
      (λ p. let z = ltb-false (i / w) n p in rw (le-ltb (i / w) (suc n) (omega arith)) (rw p at (a i))))))

  pub turns-map_at : (l : List ℕ) (n : ℕ) → length l ≤ n * w → turns turn l n ≡ map_at (rule l) 0 l
  turns-map_at l n e =
      ext_get_or 0 (turns turn l n) (map_at (rule l) 0 l) (length_turns l n ∙ sym (length_map_at (rule l) 0 l))
      (λ i h. let b : i < length l = rw (length_turns l n) at h in
      at-turns l n i ∙ rw (at-map_at, lt-ltb i (length l) b, lt-ltb (i / w) n ((div-lt_iff_lt-mul pos).1 (omega arith))))
