-- A freeze as the code takes it is the freeze.
--     length_stopped, length_turned   the state keeps its length
--     at-stopped          the words of a PE that is stopped are marked, and no others
--     at-turned           a turn marks the words of its PE, and no others
--     turns-is            turns for all words stop the peers
--     nobody-stopped      a vector of zeros stops no peer
--     both_is             the failing PE stopped, and then its peers: the freeze of a state of PEs below N
--     end-within, part-is the freeze of the words of the PEs below N is the freeze
-- Assumes nothing.
use Rattle.std.specs.Prelude.{◌≡◌, refl, Bool, true, false, cond, not, ◌&&◌, List, ◌++◌, ℕ, zero, suc, ◌+◌, ◌*◌, ◌/◌, ◌%◌, ◌<◌, ◌≤◌, ltb, eqb, take, drop}
use Rattle.std.proofs.Common.{sym, ◌∙◌, arith, length-set, get_or-take, length-take-le}
use Rattle.std.proofs.Math.Nat.{zero-div}
use Rattle.std.proofs.Math.ListN.{length}
use Rattle.std.proofs.Math.Seq.{ext_get_or, take-length, length_front}
use borrow.Author.Tests.{lt-ltb, le-ltb, ltb-true, ltb-false, eqb-true, eqb-false}
use Rattle.kinds.specs.Answer.{reason_number}
use Rattle.kinds.proofs.Tests.{by_cases, and_left, and-true, and_false, all_true}
use Rattle.kinds.specs.Turns.{turns}
use Rattle.kinds.proofs.TurnsLaws.{at_place, at_first, turns-map_at}
use Rattle.kinds.specs.Words.{at, bit_of}
use Rattle.kinds.proofs.WordsLaws.{at_out, at_front, at-map_at, length_map_at}
use Rattle.kinds.specs.declared.number.PeNumber.{PeNumber}
use Rattle.kinds.specs.declared.outcome.ErrorRecord.{ErrorRecord}
use Rattle.profile.specs.Freeze.{as_peer, marked, frozen, of_pes, froze}
use Rattle.profile.specs.Tables.{state_words}
use Rattle.freeze.specs.Turn.{recorded, stopped, as_peer_of, peers_stopped, zero_words, lists_nobody, turned, peer_turn, end_of, froze_all}

-- a word of one state or of another
at-either : (b : Bool) (l m : List ℕ) (i : ℕ) → at (cond b l m) i ≡ cond b (at l i) (at m i)
at-either true l m i = refl
at-either false l m i = refl

either_same : (b : Bool) (x : ℕ) → cond b x x ≡ x
either_same true x = refl
either_same false x = refl

module _ (l : List ℕ) (k : ℕ) where
  -- word i is a word of PE k, or not
  abbrev owned : ℕ → Bool
  owned i = eqb (i / state_words) k && ltb i (length l)

  -- word i is the stop word, the reason, the value or the table word of PE k, or none of them
  word-cases : {P : Type 0} (i : ℕ) → (owned i ≡ true → i % state_words ≡ 0 → k * state_words ≡ i → P) → (owned i ≡ true → i % state_words ≡ 1 → P)
      → (owned i ≡ true → i % state_words ≡ 2 → P) → (owned i ≡ true → i % state_words ≡ 3 → P) → (owned i ≡ false → P) → P
  word-cases i stop reason value word other =
      by_cases (owned i)
      (λ g. let e = eqb-true (i / state_words) k (and_left _ _ g) in
      by_cases (eqb (i % state_words) 0)
      (λ o. let z = eqb-true (i % state_words) 0 o in stop g z (omega arith))
      (λ o. let x = eqb-false (i % state_words) 0 o in
      by_cases (eqb (i % state_words) 1)
      (λ p. reason g (eqb-true (i % state_words) 1 p))
      (λ p. let y = eqb-false (i % state_words) 1 p in
      by_cases (eqb (i % state_words) 2)
      (λ q. value g (eqb-true (i % state_words) 2 q))
      (λ q. let v = eqb-false (i % state_words) 2 q in word g (omega arith)))))
      other

  module _ (e : ErrorRecord) where
    length_stopped : length (stopped (reason_number e.reason) e.value e.word.0 l k) ≡ length l
    unfolding stopped recorded
    length_stopped = by_cases (eqb (at l (k * state_words + 1)) 0) (λ o. rw o (simp length-set)) (λ o. rw o (simp length-set))

    at-stopped : (i : ℕ) → at (stopped (reason_number e.reason) e.value e.word.0 l k) i ≡ cond (owned i) (marked e (at l (k * state_words + 1)) i (at l i)) (at l i)
    unfolding stopped recorded marked
    at-stopped i =
        by_cases (eqb (at l (k * state_words + 1)) 0)
        (λ o. rw o (simp (at_place state_words 3 (omega arith), at_place state_words 2 (omega arith), at_place state_words 1 (omega arith), at_first state_words (omega arith), length-set)
        (word-cases i (λ g z d. rw (g, z, d)) (λ g z. rw (g, z)) (λ g z. rw (g, z)) (λ g z. rw (g, z)) (λ g. rw g))))
        (λ o. rw o (simp (at_first state_words (omega arith)) (word-cases i (λ g z d. rw (g, z, d)) (λ g z. rw (g, z)) (λ g z. rw (g, z)) (λ g z. rw (g, z)) (λ g. rw g))))

module _ (v : List ℕ) (p : PeNumber) where
  abbrev other : ℕ → Bool
  other k = bit_of v k && not (eqb k p.0)

  pub length_turned : (l : List ℕ) (k : ℕ) → length (peer_turn v p l k) ≡ length l
  unfolding turned
  length_turned l k = by_cases (other k) (λ o. rw o (length_stopped l k (as_peer p))) (λ o. rw o)

  at-turned : (l : List ℕ) (k i : ℕ) → at (peer_turn v p l k) i ≡ cond (owned l k i) (as_peer_of v p l i (at l i)) (at l i)
  unfolding turned as_peer_of
  at-turned l k i =
      rw (at-either (other k), at-stopped l k (as_peer p) i)
      (by_cases (owned l k i)
      (λ g. rw (g, eqb-true (i / state_words) k (and_left _ _ g)))
      (λ g. rw (g, either_same)))

  turn-reads : (l m : List ℕ) (i x : ℕ) → ((j : ℕ) → j / state_words ≡ i / state_words → at l j ≡ at m j) → as_peer_of v p l i x ≡ as_peer_of v p m i x
  unfolding as_peer_of
  turn-reads l m i x h = rw (h (i / state_words * state_words + 1) (omega arith))

  pub turns-is : (l : List ℕ) (n : ℕ) → length l ≤ n * state_words → turns (peer_turn v p) l n ≡ peers_stopped v p l
  turns-is l n h = turns-map_at state_words (omega arith) (as_peer_of v p) (peer_turn v p) length_turned turn-reads at-turned l n h

-- a vector of four words that are 0
module _ (v : List ℕ) (four : length v ≡ 4) (none : lists_nobody v ≡ true) where
  word_none : (j : ℕ) → at v j ≡ 0
  word_none zero = eqb-true (at v 0) 0 (all_true (zero_words v) 0 none)
  word_none (suc zero) = eqb-true (at v 1) 0 (all_true (zero_words v) 1 none)
  word_none (suc (suc zero)) = eqb-true (at v 2) 0 (all_true (zero_words v) 2 none)
  word_none (suc (suc (suc zero))) = eqb-true (at v 3) 0 (all_true (zero_words v) 3 none)
  word_none (suc (suc (suc (suc j)))) = let n = suc (suc (suc (suc j))) in at_out v n (le-ltb n (length v) (omega (arith, four)))

  pub nobody-stopped : (p : PeNumber) (l : List ℕ) → peers_stopped v p l ≡ l
  unfolding as_peer_of
  nobody-stopped p l =
      ext_get_or 0 (peers_stopped v p l) l (length_map_at (as_peer_of v p l) 0 l)
      (λ i h. let g : i < length l = rw (length_map_at (as_peer_of v p l) 0 l) at h in
      rw (at-map_at, lt-ltb i (length l) g, word_none (i / state_words / 64), zero-div))

-- the failing PE, then its peers
module _ (v : List ℕ) (p : PeNumber) (e : ErrorRecord) where
  frozen-reads : (l m : List ℕ) (i x : ℕ) → ((j : ℕ) → j / state_words ≡ i / state_words → at l j ≡ at m j) → frozen v p e l i x ≡ frozen v p e m i x
  unfolding frozen
  frozen-reads l m i x h = rw (h (i / state_words * state_words + 1) (omega arith))

  module _ (l : List ℕ) where
    abbrev first : List ℕ
    first = stopped (reason_number e.reason) e.value e.word.0 l p.0

    -- the record of a word's PE is that PE's
    row_of : (i : ℕ) → (i / state_words * state_words + 1) / state_words ≡ i / state_words
    row_of i = omega arith

    -- the words of another PE stay
    first-other : (i : ℕ) → eqb (i / state_words) p.0 ≡ false → at first i ≡ at l i
    first-other i h = at-stopped l p.0 e i ∙ rw h

    both_at : (i : ℕ) → i < length l → as_peer_of v p first i (at first i) ≡ frozen v p e l i (at l i)
    unfolding as_peer_of frozen
    both_at i h =
        by_cases (eqb (i / state_words) p.0)
        (λ o. rw (o, and_false) (at-stopped l p.0 e i ∙ rw (o, lt-ltb i (length l) h, eqb-true (i / state_words) p.0 o)))
        (λ o. rw (o, and-true, first-other i o, first-other (i / state_words * state_words + 1) (rw (row_of i) o)))

    pub both_is : peers_stopped v p first ≡ froze_all v p e l
    both_is =
        let same : length first ≡ length l = length_stopped l p.0 e in
        let long = length_map_at (as_peer_of v p first) 0 first ∙ same in
        ext_get_or 0 (peers_stopped v p first) (froze_all v p e l) (long ∙ sym (length_map_at (frozen v p e l) 0 l))
        (λ i h. let g : i < length l = rw long at h in
        rw (at-map_at, at-map_at, same, lt-ltb i (length l) g) (both_at i g))

-- ---- the words of the PEs below b

module _ (l : List ℕ) (b : ℕ) where
  pub end-within : end_of (length l) b ≤ length l
  unfolding end_of
  end-within =
      by_cases (ltb b (length l / state_words + 1))
      (λ o. let z = ltb-true b (length l / state_words + 1) o in rw o (omega arith))
      (λ o. rw o (omega arith))

  -- a word is before the end where its PE is below b
  end_is : (i : ℕ) → i < length l → ltb i (end_of (length l) b) ≡ ltb (i / state_words) b
  unfolding end_of
  end_is i h =
      by_cases (ltb b (length l / state_words + 1))
      (λ o. rw o (by_cases (ltb (i / state_words) b)
      (λ p. let z = ltb-true (i / state_words) b p in rw (p, lt-ltb i (b * state_words) (omega arith)))
      (λ p. let z = ltb-false (i / state_words) b p in rw (p, le-ltb i (b * state_words) (omega arith)))))
      (λ o. let z = ltb-false b (length l / state_words + 1) o in
      rw (o, lt-ltb i (length l) h, lt-ltb (i / state_words) b (omega arith)))

  -- all words of such a PE are in the part
  part-words : (i : ℕ) → i / state_words < b → at (take (end_of (length l) b) l) i ≡ at l i
  unfolding end_of
  part-words i h =
      by_cases (ltb b (length l / state_words + 1))
      (λ o. rw o (get_or-take (b * state_words) l i 0 (omega arith)))
      (λ o. rw (o, take-length l))

  module _ (v : List ℕ) (p : PeNumber) (e : ErrorRecord) where
    part-frozen : (i : ℕ) → i < length l → i / state_words < b
        → at (froze_all v p e (take (end_of (length l) b) l)) i ≡ frozen v p e l i (at l i)
    part-frozen i h g =
        let m = take (end_of (length l) b) l in
        let inside : i < length m = rw (length-take-le (end_of (length l) b) l end-within)
        (ltb-true i (end_of (length l) b) (rw (end_is i h) (lt-ltb (i / state_words) b g))) in
        rw (at-map_at, lt-ltb i (length m) inside, part-words i g)
        (frozen-reads v p e m l i (at l i) (λ j q. part-words j (rw q g)))

    pub part-is : froze_all v p e (take (end_of (length l) b) l) ++ drop (end_of (length l) b) l ≡ froze b v p e l
    part-is =
        let n = end_of (length l) b in
        let k = froze_all v p e (take n l) in
        let short : length k ≡ length (take n l) = length_map_at (frozen v p e (take n l)) 0 (take n l) in
        ext_get_or 0 (k ++ drop n l) (froze b v p e l) (length_front l k n short ∙ sym (length_map_at (of_pes b (frozen v p e l)) 0 l))
        (λ i h. let g : i < length l = rw (length_front l k n short) at h in
        at_front k l n (short ∙ length-take-le n l end-within) i ∙ rw (end_is i g, at-map_at (of_pes b (frozen v p e l)) l i, lt-ltb i (length l) g)
        (by_cases (ltb (i / state_words) b) (λ o. rw o (part-frozen i g (ltb-true (i / state_words) b o))) (λ o. rw o)))
