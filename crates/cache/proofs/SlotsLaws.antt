-- The words of the cache after a fill and after a sweep, over any contents.
--     put_tag .. put_word the words of the slot that was filled; put-away: the words of the others; length_put
--     put_holds           it then holds the page; put_same: a slot that holds a page with its word is not changed by a fill of it
--     slot-low, slot-each the rule gives a slot, and can give each of them
--     at-sweep            a word after a sweep; gone, kept: of a slot that was dropped, or not; length_sweep
--     swept               A SWEEP LEAVES NOTHING that its test names
-- Assumes nothing.
use Rattle.std.specs.Prelude.{◌≡◌, ◌≢◌, true, false, cond, ◌&&◌, List, ℕ, ◌+◌, ◌*◌, ◌/◌, ◌%◌, ◌<◌, ltb, eqb, length, set}
use Rattle.std.proofs.Math.Path.{refl}
use Rattle.std.proofs.Common.{sym, ◌∙◌, arith, ext_get_or, get_or-set_same}
use Rattle.std.proofs.Math.ListN.{length-set}
use Rattle.std.proofs.Math.Seq.{get_or-set_other}
use borrow.Author.Tests.{eq-eqb, eqb-true, eqb-false}
use Rattle.kinds.proofs.Tests.{by_cases, and_left, and_right}
use Rattle.kinds.specs.Words.{at}
use Rattle.kinds.proofs.WordsLaws.{at_out, at-map_at, length_map_at}
use Rattle.kinds.specs.declared.number.PageNumber.{PageNumber}
use Rattle.kinds.specs.declared.number.PeNumber.{PeNumber}
use Rattle.cache.specs.Slots.{slot_count, slot_words, slot_of, tag_of, half_of, page_of_slot, word_of, holds, put, Test, dropped, sweep}

module _ (c : List ℕ) (i : ℕ) (p : PeNumber) (h : ℕ) (q : PageNumber) (x : ℕ) where
  pub put-away : (k : ℕ) → (k / slot_words ≡ i → ⊥) → at (put c i p h q x) k ≡ at c k
  unfolding put
  put-away k e =
      get_or-set_other (set (set (set c (i * 4) (p.0 + 1)) (i * 4 + 1) h) (i * 4 + 2) q.0) (i * 4 + 3) k x 0 (λ z. e (omega arith))
      ∙ get_or-set_other (set (set c (i * 4) (p.0 + 1)) (i * 4 + 1) h) (i * 4 + 2) k q.0 0 (λ z. e (omega arith))
      ∙ get_or-set_other (set c (i * 4) (p.0 + 1)) (i * 4 + 1) k h 0 (λ z. e (omega arith))
      ∙ get_or-set_other c (i * 4) k (p.0 + 1) 0 (λ z. e (omega arith))

  pub length_put : length (put c i p h q x) ≡ length c
  unfolding put
  length_put = simp length-set

  module _ (b : i * slot_words + 3 < length c) where
    n01 : i * 4 ≢ i * 4 + 1
    n01 = omega arith

    n02 : i * 4 ≢ i * 4 + 2
    n02 = omega arith

    n03 : i * 4 ≢ i * 4 + 3
    n03 = omega arith

    n12 : i * 4 + 1 ≢ i * 4 + 2
    n12 = omega arith

    n13 : i * 4 + 1 ≢ i * 4 + 3
    n13 = omega arith

    n23 : i * 4 + 2 ≢ i * 4 + 3
    n23 = omega arith

    h0 : i * 4 < length c
    h0 = omega arith

    h1 : i * 4 + 1 < length c
    h1 = omega arith

    h2 : i * 4 + 2 < length c
    h2 = omega arith

    ruleset puts = (get_or-set_same, get_or-set_other, length-set, n01, n02, n03, n12, n13, n23, h0, h1, h2)

    pub put_tag : tag_of (put c i p h q x) i ≡ p.0 + 1
    unfolding put
    put_tag = search puts

    pub put-half : half_of (put c i p h q x) i ≡ h
    unfolding put
    put-half = search puts

    pub put-page : page_of_slot (put c i p h q x) i ≡ q.0
    unfolding put
    put-page = search puts

    pub put_word : word_of (put c i p h q x) i ≡ x
    unfolding put
    put_word = search puts

    pub put_holds : holds (put c i p h q x) i p h q ≡ true
    unfolding holds
    put_holds = rw (put_tag, put-half, put-page, eq-eqb (p.0 + 1) (p.0 + 1) refl, eq-eqb h h refl, eq-eqb q.0 q.0 refl)

-- what a slot that holds a page has
module _ (c : List ℕ) (i : ℕ) (p : PeNumber) (h : ℕ) (q : PageNumber) (o : holds c i p h q ≡ true) where
  unfolded : (eqb (tag_of c i) (p.0 + 1) && eqb (half_of c i) h && eqb (page_of_slot c i) q.0) ≡ true
  unfolding holds
  unfolded = o

  pub held_tag : tag_of c i ≡ p.0 + 1
  held_tag =
      let t = eqb (tag_of c i) (p.0 + 1) in
      let u = eqb (half_of c i) h in
      let v = eqb (page_of_slot c i) q.0 in eqb-true (tag_of c i) (p.0 + 1) (and_left t u (and_left (t && u) v unfolded))

  pub held-half : half_of c i ≡ h
  held-half =
      let t = eqb (tag_of c i) (p.0 + 1) in
      let u = eqb (half_of c i) h in
      let v = eqb (page_of_slot c i) q.0 in eqb-true (half_of c i) h (and_right t u (and_left (t && u) v unfolded))

  pub held-page : page_of_slot c i ≡ q.0
  held-page =
      let t = eqb (tag_of c i) (p.0 + 1) in
      let u = eqb (half_of c i) h in
      let v = eqb (page_of_slot c i) q.0 in eqb-true (page_of_slot c i) q.0 (and_right (t && u) v unfolded)

  pub put_same : i * slot_words + 3 < length c → put c i p h q (word_of c i) ≡ c
  put_same b =
      let x = word_of c i in
      ext_get_or 0 (put c i p h q x) c (length_put c i p h q x)
      (λ k l. by_cases (eqb (k / slot_words) i)
      (λ e. let d = eqb-true (k / slot_words) i e in by_cases (eqb (k % slot_words) 0)
      (λ u. let z = eqb-true (k % slot_words) 0 u in let y : k ≡ i * 4 = omega arith in rw y (put_tag c i p h q x b ∙ sym held_tag))
      (λ u. let z0 = eqb-false (k % slot_words) 0 u in by_cases (eqb (k % slot_words) 1)
      (λ v. let z = eqb-true (k % slot_words) 1 v in let y : k ≡ i * 4 + 1 = omega arith in rw y (put-half c i p h q x b ∙ sym held-half))
      (λ v. let z1 = eqb-false (k % slot_words) 1 v in by_cases (eqb (k % slot_words) 2)
      (λ w. let z = eqb-true (k % slot_words) 2 w in let y : k ≡ i * 4 + 2 = omega arith in rw y (put-page c i p h q x b ∙ sym held-page))
      (λ w. let z2 = eqb-false (k % slot_words) 2 w in let y : k ≡ i * 4 + 3 = omega arith in rw y (put_word c i p h q x b)))))
      (λ e. put-away c i p h q x k (eqb-false (k / slot_words) i e)))

-- ---- the rule

pub slot-low : (p : PeNumber) (h : ℕ) (q : PageNumber) → slot_of p h q < slot_count
unfolding slot_of
slot-low p h q = omega arith

-- pages 0 to 255 of any record are given each slot
pub slot-each : (p : PeNumber) (h i : ℕ) → i < slot_count → (q : PageNumber) × ((q.0 < slot_count) × (slot_of p h q ≡ i))
unfolding slot_of
slot-each p h i b = (record { 0 = (i + 219 * (2 * p.0 + h)) % slot_count }, (omega arith, omega arith))

-- ---- a sweep

pub at-sweep : (d : Test) (c : List ℕ) (i : ℕ) → at (sweep d c) i ≡ cond (dropped d c (i / slot_words)) 0 (at c i)
unfolding sweep
at-sweep d c i =
    rw at-map_at
    (by_cases (ltb i (length c))
    (λ o. rw o)
    (λ o. rw (o, at_out c i o) (by_cases (dropped d c (i / slot_words)) (λ p. rw p) (λ p. rw p))))

pub length_sweep : (d : Test) (c : List ℕ) → length (sweep d c) ≡ length c
unfolding sweep
length_sweep d c = length_map_at (λ i x. cond (dropped d c (i / slot_words)) 0 x) 0 c

module _ (d : Test) (c : List ℕ) (j : ℕ) where
  pub gone : dropped d c j ≡ true → (i : ℕ) → i / slot_words ≡ j → at (sweep d c) i ≡ 0
  gone o i e = rw (at-sweep d c i, e, o)

  pub kept : dropped d c j ≡ false → (i : ℕ) → i / slot_words ≡ j → at (sweep d c) i ≡ at c i
  kept o i e = rw (at-sweep d c i, e, o)

  pub swept : dropped d (sweep d c) j ≡ false
  unfolding dropped
  swept =
      by_cases (dropped d c j)
      (λ o. rw (gone o (j * 4) (omega arith)))
      (λ o. rw (kept o (j * 4) (omega arith), kept o (j * 4 + 1) (omega arith), kept o (j * 4 + 2) (omega arith)) (unfold dropped in o))
