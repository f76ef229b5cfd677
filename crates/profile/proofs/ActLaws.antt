-- What an effect does to what a group sees. None of these laws asks which request the effect comes from.
--     calm e              the effect leaves the fence as it is
--     act_unseen          a calm effect at a PE outside the group, none of whose peers is inside, is not seen; whole-calm: of a calm one nothing is done
--                         where there is no PE
--     act_agrees          the same effect at a member, on two bridges that agree, keeps that they agree; whole_agrees: so does one to the fence, whoever
--                         has it done
--     act-keeps, whole-keeps      no effect changes the PE word of an interrupt; act_by-lengths: nor the length of a table
--     no_peers_lem        a freeze alone lists nobody; froze-past: a freeze leaves every word from PE N on, the fence word first, whatever bits are set
--     beyond x            effect x changes words that are not its PE's: it takes peers along, or sets or clears the fence; act-others: any other leaves
--                         every word of the state that is not its PE's
-- A new effect adds a clause to each.
-- Assumes nothing.
use Rattle.kinds.specs.Lookup.{Owner}
use Rattle.std.specs.Prelude.{◌≡◌, Bool, true, false, ◌&&◌, List, ℕ, zero, suc, ◌+◌, ◌*◌, ◌/◌, ◌%◌, ◌<◌, ◌≤◌, ltb, eqb, length, set, Ok, Err}
use Rattle.std.proofs.Math.Path.{refl}
use Rattle.std.proofs.Common.{sym, ◌∙◌, arith, length-set, get_or-set_other}
use Rattle.std.proofs.Math.Nat.{zero-div}
use borrow.Author.Tests.{ltb-true, ltb-false, le-ltb, eqb-true, eq-eqb, ne_eqb}
use Rattle.kinds.proofs.Tests.{by_cases, cond_cases, clash, and_left}
use Rattle.kinds.specs.Words.{at, bit_of}
use Rattle.kinds.proofs.WordsLaws.{at_out, at_set, at-map_at, length_map_at}
use Rattle.kinds.specs.declared.number.PeNumber.{PeNumber}
use Rattle.kinds.specs.declared.outcome.Effect.{Effect}
use Rattle.kinds.specs.declared.outcome.Effect.TheVariants.{Keep, Freeze, Release, Interrupt, Fence}
use Rattle.kinds.specs.declared.outcome.ErrorRecord.{ErrorRecord}
use Rattle.kinds.specs.declared.record.Sizes.{Sizes}
use Rattle.kinds.specs.declared.request.Part.{Part}
use Rattle.kinds.specs.declared.request.Part.TheVariants.{Mmio, Dma, Record}
use Rattle.profile.specs.Tables.{Tables, Live, interrupt_words, state_words}
use Rattle.profile.specs.Freeze.{stop_word, reason_word, value_word, failed_word, vector_in, no_peers, taken, as_peer, marked, frozen, of_pes, froze, released}
use Rattle.profile.specs.Fence.{fence_word, with_fence, fence_to}
use Rattle.profile.specs.Msi.{interrupt_in, interrupt, stored}
use Rattle.profile.specs.Step.{whole, act, act_by}
use Rattle.profile.specs.Agree.{pe_of, seen_word, interrupt_pe, Same}
use Rattle.profile.proofs.AgreeLaws.{same_refl, same_sym, same_trans, stop_agrees, reason_agrees}

-- the tables after a store into one of them
abbrev state_stored : (place value : ℕ) → Live → Live
state_stored j v s = record { state = set s.state j v; interrupts = s.interrupts }

abbrev interrupt_stored : (i word value : ℕ) → Live → Live
interrupt_stored i j v s = record { state = s.state; interrupts = set s.interrupts (i * interrupt_words + j) v }

-- ---- one store

-- into another word than the PE word
pe-kept : (i j v k : ℕ) → 0 < j → j < interrupt_words → (s : Live) → (interrupt (interrupt_stored i j v s) k).pe ≡ (interrupt s k).pe
pe-kept i j v k lo hi s = get_or-set_other s.interrupts (i * interrupt_words + j) (k * interrupt_words) v _ (λ e. omega arith)

module _ {G : PeNumber → Bool} {z : Sizes} where
  state_stored_unseen : (j v : ℕ) → ¬ (fence_word z.pes ≡ j) → G (pe_of j) ≡ false → (s : Live) → Same G z s (state_stored j v s)
  state_stored_unseen j v apart out s = record {
    state_length_lem = sym (length-set s.state j v);
    interrupts_length = refl;
    state-word = λ i g. rw (at_set, ne_eqb i j (λ e. clash g (rw e out)));
    fence-word = rw (at_set, ne_eqb (fence_word z.pes) j apart);
    interrupt-pe = λ i h. refl;
    interrupt-word = λ i h g k l b. refl;
  }

  -- into an interrupt that is none of M, or not the group's
  interrupt_stored_unseen : (i j v : ℕ) → 0 < j → j < interrupt_words → (s : Live) → (i < z.interrupts → G (interrupt_pe s i) ≡ false)
      → Same G z s (interrupt_stored i j v s)
  interrupt_stored_unseen i j v lo hi s out = record {
    state_length_lem = refl;
    interrupts_length = sym (length-set s.interrupts (i * interrupt_words + j) v);
    state-word = λ k g. refl;
    fence-word = refl;
    interrupt-pe = λ k h. sym (pe-kept i j v k lo hi s);
    interrupt-word = λ k h g l a b.
        rw (at_set, ne_eqb (k * interrupt_words + l) (i * interrupt_words + j) (λ e. clash g (let y : k ≡ i = omega arith in rw y (out (rw y at h)))));
  }

  state_stored_agrees : {s t : Live} → Same G z s t → (j v w : ℕ) → (fence_word z.pes ≡ j → v ≡ w) → seen_word j v ≡ seen_word j w → Same G z (state_stored j v s) (state_stored j w t)
  state_stored_agrees {s} {t} r j v w k e = record {
    state_length_lem = simp length-set r.state_length_lem;
    interrupts_length = r.interrupts_length;
    state-word = λ i g. simp (at_set, r.state_length_lem)
        (by_cases (eqb i j && ltb i (length t.state))
        (λ o. rw (o, eqb-true i j (and_left (eqb i j) (ltb i (length t.state)) o)) e)
        (λ o. rw o (r.state-word i g)));
    fence-word = simp (at_set, r.state_length_lem)
        (by_cases (eqb (fence_word z.pes) j && ltb (fence_word z.pes) (length t.state))
        (λ o. rw o (k (eqb-true (fence_word z.pes) j (and_left (eqb (fence_word z.pes) j) (ltb (fence_word z.pes) (length t.state)) o))))
        (λ o. rw o r.fence-word));
    interrupt-pe = r.interrupt-pe;
    interrupt-word = r.interrupt-word;
  }

  interrupt_stored_agrees : {s t : Live} → Same G z s t → (i j v : ℕ) → 0 < j → j < interrupt_words → Same G z (interrupt_stored i j v s) (interrupt_stored i j v t)
  interrupt_stored_agrees {s} {t} r i j v lo hi = record {
    state_length_lem = r.state_length_lem;
    interrupts_length = simp length-set r.interrupts_length;
    state-word = r.state-word;
    fence-word = r.fence-word;
    interrupt-pe = λ k h. rw (pe-kept i j v k lo hi s, pe-kept i j v k lo hi t) (r.interrupt-pe k h);
    interrupt-word = λ k h g l a b.
        let u : G (interrupt_pe s k) ≡ true = rw (pe-kept i j v k lo hi s) at g in
        simp (at_set, r.interrupts_length)
        (by_cases (eqb (k * interrupt_words + l) (i * interrupt_words + j) && ltb (k * interrupt_words + l) (length t.interrupts))
        (λ o. rw o) (λ o. rw o (r.interrupt-word k h u l a b)));
  }

  -- the two words that an effect of an interrupt writes
  written_unseen : (i v b : ℕ) (s : Live) → (i < z.interrupts → G (interrupt_pe s i) ≡ false) → Same G z s (interrupt_stored i 3 b (interrupt_stored i 2 v s))
  written_unseen i v b s out =
      same_trans (interrupt_stored_unseen i 2 v (omega arith) (omega arith) s out)
      (interrupt_stored_unseen i 3 b (omega arith) (omega arith) (interrupt_stored i 2 v s) (λ h. rw (pe-kept i 2 v i (omega arith) (omega arith) s) (out h)))

  written_agrees : {s t : Live} → Same G z s t → (i v b : ℕ)
      → Same G z (interrupt_stored i 3 b (interrupt_stored i 2 v s)) (interrupt_stored i 3 b (interrupt_stored i 2 v t))
  written_agrees r i v b = interrupt_stored_agrees (interrupt_stored_agrees r i 2 v (omega arith) (omega arith)) i 3 b (omega arith) (omega arith)

-- ---- a freeze

none-at : (j : ℕ) → at no_peers j ≡ 0
none-at zero = refl
none-at (suc zero) = refl
none-at (suc (suc zero)) = refl
none-at (suc (suc (suc zero))) = refl
none-at (suc (suc (suc (suc j)))) = refl

pub no_peers_lem : (k : ℕ) → bit_of no_peers k ≡ false
no_peers_lem k = rw (none-at (k / 64), zero-div)

pub froze-past : (n : ℕ) (v : List ℕ) (p : PeNumber) (e : ErrorRecord) (l : List ℕ) (i : ℕ) → n ≤ i / state_words → at (froze n v p e l) i ≡ at l i
froze-past n v p e l i h =
    rw (at-map_at, le-ltb (i / state_words) n h) (by_cases (ltb i (length l)) (λ o. rw o) (λ o. rw (o, at_out l i o)))

-- ---- an effect at a PE outside

abbrev pub calm : Effect → Bool
calm Keep = true
calm (Freeze e b) = true
calm (Release c) = true
calm (Interrupt i k b) = true
calm (Fence b) = false

pub whole-calm : (n : ℕ) (e : Effect) → calm e ≡ true → (s : Live) → whole n e s ≡ s
unfolding whole
whole-calm n Keep c s = refl
whole-calm n (Freeze e b) c s = refl
whole-calm n (Release p) c s = refl
whole-calm n (Interrupt i k b) c s = refl
whole-calm n (Fence b) c s = clash c refl

module _ {G : PeNumber → Bool} (z : Sizes) (v : List ℕ) (p : PeNumber) (low : p.0 < z.pes) (out : G p ≡ false)
    (away : (k : PeNumber) → k.0 < z.pes → G k ≡ true → bit_of (vector_in v p) k.0 ≡ false) where
  own-word : (j : ℕ) → j / state_words ≡ p.0 → G (pe_of j) ≡ false
  own-word j e = rw e out

  unlisted : (b : Bool) (k : PeNumber) → k.0 < z.pes → G k ≡ true → bit_of (taken b v p) k.0 ≡ false
  unlisted true k h g = away k h g
  unlisted false k h g = no_peers_lem k.0

  frozen_unseen : (b : Bool) (e : ErrorRecord) (l : List ℕ) (i x : ℕ) → G (pe_of i) ≡ true → of_pes z.pes (frozen (taken b v p) p e l) i x ≡ x
  unfolding frozen
  frozen_unseen b e l i x g =
      by_cases (ltb (i / state_words) z.pes)
      (λ o. rw (o, ne_eqb (i / state_words) p.0 (λ e. clash g (own-word i e)), unlisted b (pe_of i) (ltb-true (i / state_words) z.pes o) g))
      (λ o. rw o)

  module _ (s : Live) where
    froze_unseen : (b : Bool) (e : ErrorRecord) → Same G z s (record { state = froze z.pes (taken b v p) p e s.state; interrupts = s.interrupts })
    froze_unseen b e = record {
      state_length_lem = sym (length_map_at (of_pes z.pes (frozen (taken b v p) p e s.state)) 0 s.state);
      interrupts_length = refl;
      state-word = λ i g. rw at-map_at
          (by_cases (ltb i (length s.state))
          (λ o. rw (o, frozen_unseen b e s.state i (at s.state i) g))
          (λ o. rw (o, at_out s.state i o)));
      fence-word = sym (froze-past z.pes (taken b v p) p e s.state (fence_word z.pes) (omega arith));
      interrupt-pe = λ i h. refl;
      interrupt-word = λ i h g j l c. refl;
    }

    released_unseen : (c : Part) → Same G z s (record { state = released c p s.state; interrupts = s.interrupts })
    unfolding released
    released_unseen Mmio = state_stored_unseen (stop_word p) (at s.state (stop_word p) / 2 * 2) (λ e. omega arith) (own-word (stop_word p) (omega arith)) s
    released_unseen Dma =
        state_stored_unseen (stop_word p) (at s.state (stop_word p) / 4 * 4 + at s.state (stop_word p) % 2) (λ e. omega arith) (own-word (stop_word p) (omega arith)) s
    released_unseen Record =
        let one = state_stored (reason_word p) 0 s in
        let two = state_stored (value_word p) 0 one in
        same_trans (state_stored_unseen (reason_word p) 0 (λ e. omega arith) (own-word (reason_word p) (omega arith)) s)
        (same_trans (state_stored_unseen (value_word p) 0 (λ e. omega arith) (own-word (value_word p) (omega arith)) one)
        (state_stored_unseen (failed_word p) 0 (λ e. omega arith) (own-word (failed_word p) (omega arith)) two))

    pub act_unseen : (e : Effect) → calm e ≡ true → Same G z s (act z.pes v p e s)
    unfolding act
    act_unseen Keep c = same_refl s
    act_unseen (Freeze e b) c = froze_unseen b e
    act_unseen (Release d) c = released_unseen d
    act_unseen (Fence b) c = clash c refl
    act_unseen (Interrupt i j b) c =
        by_cases (eqb (interrupt s i).pe p.0)
        (λ o. rw o (written_unseen i j b s (λ h. rw (eqb-true (interrupt s i).pe p.0 o) out)))
        (λ o. rw o (same_refl s))

-- ---- the same effect at a member, on both sides

marked_agrees : (e : ErrorRecord) (o i x y : ℕ) → seen_word i x ≡ seen_word i y → seen_word i (marked e o i x) ≡ seen_word i (marked e o i y)
unfolding marked
marked_agrees e o i x y h = by_cases (eqb (i % state_words) 0) (λ z. rw z (omega arith)) (λ z. let d : x ≡ y = rw z at h in rw d)

frozen_agrees : (w : List ℕ) (p : PeNumber) (e : ErrorRecord) (l m : List ℕ) (i x y : ℕ) → at l (i / state_words * state_words + 1) ≡ at m (i / state_words * state_words + 1)
    → seen_word i x ≡ seen_word i y → seen_word i (frozen w p e l i x) ≡ seen_word i (frozen w p e m i y)
unfolding frozen
frozen_agrees w p e l m i x y o h =
    rw o
    (by_cases (eqb (i / state_words) p.0)
    (λ z. rw z (marked_agrees e (at m (i / state_words * state_words + 1)) i x y h))
    (λ z. rw z (by_cases (bit_of w (i / state_words))
    (λ b. rw b (marked_agrees (as_peer p) (at m (i / state_words * state_words + 1)) i x y h))
    (λ b. rw b h))))

module _ {G : PeNumber → Bool} {z : Sizes} {s t : Live} (r : Same G z s t) where
  rule_agrees : (w : List ℕ) (p : PeNumber) (e : ErrorRecord) (i : ℕ) → G (pe_of i) ≡ true
      → seen_word i (of_pes z.pes (frozen w p e s.state) i (at s.state i)) ≡ seen_word i (of_pes z.pes (frozen w p e t.state) i (at t.state i))
  rule_agrees w p e i g =
      by_cases (ltb (i / state_words) z.pes)
      (λ o. rw o (frozen_agrees w p e s.state t.state i (at s.state i) (at t.state i) (reason_agrees r i g) (r.state-word i g)))
      (λ o. rw o (r.state-word i g))

  froze_agrees : (w : List ℕ) (p : PeNumber) (e : ErrorRecord)
      → Same G z (record { state = froze z.pes w p e s.state; interrupts = s.interrupts }) (record { state = froze z.pes w p e t.state; interrupts = t.interrupts })
  froze_agrees w p e = record {
    state_length_lem = simp length_map_at r.state_length_lem;
    interrupts_length = r.interrupts_length;
    state-word = λ i g. simp (at-map_at, r.state_length_lem)
        (by_cases (ltb i (length t.state)) (λ o. rw o (rule_agrees w p e i g)) (λ o. rw o));
    fence-word = rw (
      froze-past z.pes w p e s.state (fence_word z.pes) (omega arith),
      froze-past z.pes w p e t.state (fence_word z.pes) (omega arith),
    ) r.fence-word;
    interrupt-pe = r.interrupt-pe;
    interrupt-word = r.interrupt-word;
  }

  released_agrees : (c : Part) (p : PeNumber) → p.0 < z.pes → G p ≡ true
      → Same G z (record { state = released c p s.state; interrupts = s.interrupts }) (record { state = released c p t.state; interrupts = t.interrupts })
  unfolding released
  released_agrees Mmio p h u =
      state_stored_agrees r (stop_word p) (at s.state (stop_word p) / 2 * 2) (at t.state (stop_word p) / 2 * 2) (λ e. absurd (omega arith))
      (rw (eq-eqb (stop_word p % state_words) 0 (omega arith)) (omega (arith, stop_agrees r p u)))
  released_agrees Dma p h u =
      state_stored_agrees r (stop_word p) (at s.state (stop_word p) / 4 * 4 + at s.state (stop_word p) % 2) (at t.state (stop_word p) / 4 * 4 + at t.state (stop_word p) % 2)
      (λ e. absurd (omega arith)) (rw (eq-eqb (stop_word p % state_words) 0 (omega arith)) (omega (arith, stop_agrees r p u)))
  released_agrees Record p h u =
      state_stored_agrees (state_stored_agrees (state_stored_agrees r (reason_word p) 0 0 (λ e. refl) refl) (value_word p) 0 0 (λ e. refl) refl) (failed_word p) 0 0
      (λ e. refl) refl

  -- an interrupt's PE is not public from M on, and what is written there is not seen
  interrupt-written : (k : ℕ) (w : List ℕ) (p : PeNumber) (i v b : ℕ) → Same G z (act k w p (Interrupt i v b) s) (act k w p (Interrupt i v b) t)
  unfolding act
  interrupt-written k w p i v b =
      by_cases (ltb i z.interrupts)
      (λ h. rw (r.interrupt-pe i (ltb-true i z.interrupts h))
      (by_cases (eqb (interrupt t i).pe p.0) (λ o. rw o (written_agrees r i v b)) (λ o. rw o r)))
      (λ h. same_trans (same_sym (past s (ltb-false i z.interrupts h))) (same_trans r (past t (ltb-false i z.interrupts h))))
    where
      past : (u : Live) → z.interrupts ≤ i → Same G z u (act k w p (Interrupt i v b) u)
      past u h = by_cases (eqb (interrupt u i).pe p.0) (λ o. rw o (written_unseen i v b u (λ l. absurd (omega arith)))) (λ o. rw o (same_refl u))

  -- one value of the fence bit
  fence_agrees : (b : Bool)
      → Same G z (record { state = fence_to z.pes b s.state; interrupts = s.interrupts }) (record { state = fence_to z.pes b t.state; interrupts = t.interrupts })
  fence_agrees b =
      let v = with_fence b (at s.state (fence_word z.pes)) in
      let w = with_fence b (at t.state (fence_word z.pes)) in
      let e : v ≡ w = rw r.fence-word in
      state_stored_agrees r (fence_word z.pes) v w (λ o. e) (rw e)

  pub whole_agrees : (e : Effect) → Same G z (whole z.pes e s) (whole z.pes e t)
  unfolding whole
  whole_agrees Keep = r
  whole_agrees (Freeze e b) = r
  whole_agrees (Release c) = r
  whole_agrees (Interrupt i v b) = r
  whole_agrees (Fence b) = fence_agrees b

  pub act_agrees : (w : List ℕ) (p : PeNumber) → p.0 < z.pes → G p ≡ true → (e : Effect) → Same G z (act z.pes w p e s) (act z.pes w p e t)
  unfolding act
  act_agrees w p h u Keep = r
  act_agrees w p h u (Freeze e b) = froze_agrees (taken b w p) p e
  act_agrees w p h u (Release c) = released_agrees c p h u
  act_agrees w p h u (Interrupt i v b) = interrupt-written z.pes w p i v b
  act_agrees w p h u (Fence b) = whole_agrees (Fence b)

-- ---- an effect that changes its PE's words alone

abbrev pub beyond : Effect → Bool
beyond Keep = false
beyond (Freeze e b) = b
beyond (Release c) = false
beyond (Interrupt i v b) = false
beyond (Fence b) = true

module _ (n : ℕ) (v : List ℕ) (p : PeNumber) (s : Live) (i : ℕ) (away : ¬ (i / state_words ≡ p.0)) where
  set_other : (j x : ℕ) (l : List ℕ) → j / state_words ≡ p.0 → at (set l j x) i ≡ at l i
  set_other j x l e = get_or-set_other l j i x _ (λ z. away (rw z e))

  froze-other : (e : ErrorRecord) (l : List ℕ) → at (froze n no_peers p e l) i ≡ at l i
  unfolding frozen
  froze-other e l =
      rw (at-map_at, ne_eqb (i / state_words) p.0 away, no_peers_lem (i / state_words))
      (by_cases (ltb i (length l))
      (λ o. rw o (by_cases (ltb (i / state_words) n) (λ h. rw h) (λ h. rw h)))
      (λ o. rw (o, at_out l i o)))

  released-other : (c : Part) (l : List ℕ) → at (released c p l) i ≡ at l i
  unfolding released
  released-other Mmio l = set_other (stop_word p) _ l (omega arith)
  released-other Dma l = set_other (stop_word p) _ l (omega arith)
  released-other Record l =
      set_other (failed_word p) 0 (set (set l (reason_word p) 0) (value_word p) 0) (omega arith)
      ∙ set_other (value_word p) 0 (set l (reason_word p) 0) (omega arith) ∙ set_other (reason_word p) 0 l (omega arith)

  pub act-others : (e : Effect) → beyond e ≡ false → at (act n v p e s).state i ≡ at s.state i
  unfolding act
  act-others Keep h = refl
  act-others (Freeze e b) h = rw h (froze-other e s.state)
  act-others (Release c) h = released-other c s.state
  act-others (Interrupt j x b) h = refl
  act-others (Fence b) h = clash refl h

-- ---- what no effect changes

pub whole-keeps : (n : ℕ) (e : Effect) (s : Live) (i : ℕ) → (interrupt (whole n e s) i).pe ≡ (interrupt s i).pe
unfolding whole
whole-keeps n Keep s i = refl
whole-keeps n (Freeze e b) s i = refl
whole-keeps n (Release c) s i = refl
whole-keeps n (Interrupt j v b) s i = refl
whole-keeps n (Fence b) s i = refl

pub act-keeps : (n : ℕ) (w : List ℕ) (p : PeNumber) (e : Effect) (s : Live) (i : ℕ) → (interrupt (act n w p e s) i).pe ≡ (interrupt s i).pe
unfolding act
act-keeps n w p Keep s i = refl
act-keeps n w p (Freeze e b) s i = refl
act-keeps n w p (Release c) s i = refl
act-keeps n w p (Fence b) s i = whole-keeps n (Fence b) s i
act-keeps n w p (Interrupt j v b) s i =
    by_cases (eqb (interrupt s j).pe p.0)
    (λ o. rw o (pe-kept j 3 b i (omega arith) (omega arith) (interrupt_stored j 2 v s) ∙ pe-kept j 2 v i (omega arith) (omega arith) s))
    (λ o. rw o)

abbrev pub SameLengths : (s t : Live) → Type 0
SameLengths s t = (length s.state ≡ length t.state) × (length s.interrupts ≡ length t.interrupts)

released_length : (c : Part) (p : PeNumber) (l : List ℕ) → length l ≡ length (released c p l)
unfolding released
released_length Mmio p l = sym (length-set l (stop_word p) _)
released_length Dma p l = sym (length-set l (stop_word p) _)
released_length Record p l = simp length-set refl

stored_length : (p : PeNumber) (i v b : ℕ) (l : List ℕ) → length l ≡ length (stored p i v b l)
stored_length p i v b l = cond_cases (λ k. length l ≡ length k) (eqb (interrupt_in l i).pe p.0) (simp length-set refl) refl

whole-lengths : (n : ℕ) (e : Effect) (s : Live) → SameLengths s (whole n e s)
unfolding whole
whole-lengths n Keep s = (refl, refl)
whole-lengths n (Freeze e b) s = (refl, refl)
whole-lengths n (Release c) s = (refl, refl)
whole-lengths n (Interrupt i v b) s = (refl, refl)
whole-lengths n (Fence b) s = (sym (length-set s.state (fence_word n) _), refl)

act-lengths : (n : ℕ) (w : List ℕ) (p : PeNumber) (e : Effect) (s : Live) → SameLengths s (act n w p e s)
unfolding act
act-lengths n w p Keep s = (refl, refl)
act-lengths n w p (Freeze e b) s = (sym (length_map_at _ 0 s.state), refl)
act-lengths n w p (Release c) s = (released_length c p s.state, refl)
act-lengths n w p (Interrupt i v b) s = (refl, stored_length p i v b s.interrupts)
act-lengths n w p (Fence b) s = whole-lengths n (Fence b) s

pub act_by-lengths : (f : Tables) (o : Owner) (e : Effect) (s : Live) → SameLengths s (act_by f o e s)
unfolding act_by
act_by-lengths f (Ok p) e s = act-lengths f.sizes.pes f.peers p e s
act_by-lengths f (Err r) e s = whole-lengths f.sizes.pes e s
