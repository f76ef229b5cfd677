-- What a history does to the words of one PE, and the steps of a list.
--     leaves-words        THE LAW: what a history makes of zeros, if the state has the words of all PEs
--     since_none, none_first      where t picks no step none is left of it, and nothing is first
--     cleared-stop, cleared_record    by a history that ends in a release the stop word is 0 and the record empty
--     unfrozen-same       where they are, PE k sees nothing of any freeze (only k: the group of PE k alone)
--     steps_append        the steps of a list are the same whatever history they come after; steps-both, end-both: two lists, one after the other
--     steps_leave         a machine whose requests do steps is left as its history leaves it
-- Assumes nothing.
use Rattle.std.specs.Prelude.{◌≡◌, refl, Bool, true, false, cond, not, ◌||◌, List, [], ◌∷◌, ◌++◌, ℕ, ◌+◌, ◌*◌, ◌/◌, ◌%◌, ◌<◌, ◌≤◌, ltb, eqb, length, get_or}
use Rattle.std.proofs.Common.{sym, ap, ◌∙◌, append_assoc, arith, lt-ltb, le-ltb, eqb-true}
use Rattle.std.proofs.Math.Option.{Option, none}
use Rattle.std.proofs.lemmas.Bool.{eqb-false}
use Rattle.kinds.specs.Tests.{given}
use Rattle.kinds.proofs.Tests.{by_cases, clash, not_true, or_first, or_second, ungiven, all_true}
use Rattle.kinds.specs.Words.{at}
use Rattle.kinds.proofs.WordsLaws.{at_out, at-map_at, length_map_at}
use Rattle.kinds.specs.declared.number.PeNumber.{PeNumber}
use Rattle.kinds.specs.declared.request.Part.{Part}
use Rattle.kinds.specs.declared.request.Part.TheVariants.{Mmio, Dma, Record}
use Rattle.profile.specs.Tables.{Tables, Live, state_words}
use Rattle.profile.specs.Freeze.{stop_word, reason_word, value_word, failed_word, of_pes}
use Rattle.profile.specs.Fence.{fence_word}
use Rattle.profile.specs.Agree.{Same}
use Rattle.profile.proofs.ActLaws.{act_by-lengths}
use Rattle.isolation.specs.Machine.{end}
use Rattle.history.proofs.StepLaws.{Words, empty-at, did-words}
use Rattle.history.specs.History.{Step, did, leaves, steps, freeze_of, freezes, clears, any, since, or_else, first, cleared, frozen_since, stop_of, recorded, record_of, record_at, Zeros, unfrozen}

-- ---- a history

leaves_length : (f : Tables) (s : Live) (h : List Step) → length (leaves f h s).state ≡ length s.state
leaves_length f s [] = refl
leaves_length f s (d ∷ h) = sym (act_by-lengths f d.owner d.effect (leaves f h s)).0 ∙ leaves_length f s h

pub any-since : (t u : Step → Bool) (d : Step) (h : List Step) → any u (since t (d ∷ h)) ≡ cond (t d) false (u d || any u (since t h))
any-since t u d h = by_cases (t d) (λ o. rw o) (λ o. rw o)

pub first-since : {X : Type 0} (t : Step → Bool) (g : Step → Option X) (d : Step) (h : List Step)
    → first g (since t (d ∷ h)) ≡ cond (t d) none (or_else (first g (since t h)) (g d))
first-since t g d h = by_cases (t d) (λ o. rw o) (λ o. rw o)

pub zeros-words : (k : PeNumber) (s : Live) → Zeros s → Words s.state k false false none
zeros-words k s z = record { stop = z (stop_word k); word = λ j u. z (stop_word k + (j + 1)) ∙ sym (empty-at j) }

module _ (f : Tables) (k : PeNumber) (low : k.0 < f.sizes.pes) (s : Live) (zeros : Zeros s) (long : f.sizes.pes * state_words ≤ length s.state) where
  pub leaves-words : (h : List Step)
      → Words (leaves f h s).state k (frozen_since Mmio f k h) (frozen_since Dma f k h) (first (freeze_of f k) (since (clears Record k) h))
  leaves-words [] = zeros-words k s zeros
  leaves-words (d ∷ h) =
      rw (
        any-since (clears Mmio k) (freezes f k) d h,
        any-since (clears Dma k) (freezes f k) d h,
        first-since (clears Record k) (freeze_of f k) d h,
      ) (did-words f k low (leaves f h s) (rw (leaves_length f s h) long) (leaves-words h) d)

-- ---- release

-- t picks a step of r, u picks none: none is left of u since t
cleared-since : (t u : Step → Bool) (r h : List Step) → any t r ≡ true → any u r ≡ false → any u (since t (r ++ h)) ≡ false
cleared-since t u [] h o z = clash o refl
cleared-since t u (d ∷ r) h o z =
    by_cases (t d)
    (λ p. rw p)
    (λ p. rw (p, or_first (u d) (any u r) z) (cleared-since t u r h (rw p at o) (or_second (u d) (any u r) z)))

pub since_none : (t u : Step → Bool) (h : List Step) → any u h ≡ false → any u (since t h) ≡ false
since_none t u [] z = refl
since_none t u (d ∷ h) z =
    by_cases (t d)
    (λ p. rw p)
    (λ p. rw (p, or_first (u d) (any u h) z) (since_none t u h (or_second (u d) (any u h) z)))

pub none_first : {X : Type 0} (g : Step → Option X) (h : List Step) → any (λ d. given (g d)) h ≡ false → first g h ≡ none
none_first g [] z = refl
none_first g (d ∷ h) z =
    rw (none_first g h (or_second (given (g d)) (any (λ d. given (g d)) h) z), ungiven (g d) (or_first (given (g d)) (any (λ d. given (g d)) h) z))

module _ (f : Tables) (k : PeNumber) (h r : List Step) (c : cleared f k r ≡ true) where
  -- test j of those that a release makes
  holds : (j : ℕ) → get_or (any (clears Mmio k) r ∷ any (clears Dma k) r ∷ any (clears Record k) r ∷ not (any (freezes f k) r) ∷ []) j true ≡ true
  holds j = all_true (any (clears Mmio k) r ∷ any (clears Dma k) r ∷ any (clears Record k) r ∷ not (any (freezes f k) r) ∷ []) j c

  none-since : (p : Part) → any (clears p k) r ≡ true → any (freezes f k) (since (clears p k) (r ++ h)) ≡ false
  none-since p o = cleared-since (clears p k) (freezes f k) r h o (not_true (any (freezes f k) r) (holds 3))

  pub cleared_mmio : any (clears Mmio k) r ≡ true
  cleared_mmio = holds 0

  pub cleared-stop : stop_of f k (r ++ h) ≡ 0
  cleared-stop = rw (none-since Mmio (holds 0), none-since Dma (holds 1))

  pub cleared_record : record_of f k (r ++ h) ≡ recorded none
  cleared_record = rw (none_first (freeze_of f k) (since (clears Record k) (r ++ h)) (none-since Record (holds 2)))

abbrev pub only : PeNumber → PeNumber → Bool
only k p = eqb p.0 k.0

-- a PE whose words are 0, by its stop word and its record
zero_words_lem : (l : List ℕ) (k : PeNumber) → at l (stop_word k) ≡ 0 → record_at l k ≡ recorded none → (i : ℕ) → i / state_words ≡ k.0 → at l i ≡ 0
zero_words_lem l k e r i h =
    let here : (j w : ℕ) → i ≡ w → at l w ≡ at (recorded none) j → at l i ≡ 0 = λ j w z u. rw z (u ∙ empty-at j) in
    by_cases (eqb (i % state_words) 0)
    (λ a. let y = eqb-true (i % state_words) 0 a in let z : i ≡ stop_word k = omega arith in rw z e)
    (λ a. let y = eqb-false (i % state_words) 0 a in by_cases (eqb (i % state_words) 1)
    (λ b. let z = eqb-true (i % state_words) 1 b in here 0 (reason_word k) (omega arith) (ap (λ (x : List ℕ). at x 0) r))
    (λ b. let z = eqb-false (i % state_words) 1 b in by_cases (eqb (i % state_words) 2)
    (λ c. let u = eqb-true (i % state_words) 2 c in here 1 (value_word k) (omega arith) (ap (λ (x : List ℕ). at x 1) r))
    (λ c. let u = eqb-false (i % state_words) 2 c in here 2 (failed_word k) (omega arith) (ap (λ (x : List ℕ). at x 2) r))))

unfrozen-word : (n : ℕ) (s : Live) (i : ℕ) → at (unfrozen n s).state i ≡ cond (ltb (i / state_words) n) 0 (at s.state i)
unfrozen-word n s i =
    rw at-map_at
    (by_cases (ltb i (length s.state))
    (λ o. rw o)
    (λ o. rw (o, at_out s.state i o) (by_cases (ltb (i / state_words) n) (λ b. rw b) (λ b. rw b))))

pub unfrozen-same : (f : Tables) (s : Live) (k : PeNumber) → k.0 < f.sizes.pes → at s.state (stop_word k) ≡ 0 → record_at s.state k ≡ recorded none
    → Same (only k) f.sizes s (unfrozen f.sizes.pes s)
unfrozen-same f s k low u r = record {
  state_length_lem = sym (length_map_at (of_pes f.sizes.pes (λ i x. 0)) 0 s.state);
  interrupts_length = refl;
  state-word = λ i g.
      let e : i / state_words ≡ k.0 = eqb-true (i / state_words) k.0 g in
      rw (unfrozen-word f.sizes.pes s i, lt-ltb (i / state_words) f.sizes.pes (omega arith), zero_words_lem s.state k u r i e);
  fence-word = rw (unfrozen-word f.sizes.pes s (fence_word f.sizes.pes), le-ltb (fence_word f.sizes.pes / state_words) f.sizes.pes (omega arith));
  interrupt-pe = λ i h. refl;
  interrupt-word = λ i h g j l b. refl;
}

-- ---- the steps of a list of requests, on any machine

pub end-both : {S Q : Type 0} (next : S → Q → S) (s : S) (l r : List Q) → end next s (l ++ r) ≡ end next (end next s l) r
end-both next s [] r = refl
end-both next s (q ∷ l) r = end-both next (next s q) l r

module _ {S Q : Type 0} (next : S → Q → S) (step : S → Q → Step) where
  pub steps_append : (h : List Step) (s : S) (l : List Q) → steps next step h s l ≡ steps next step [] s l ++ h
  steps_append h s [] = refl
  steps_append h s (q ∷ l) =
      let r = steps next step [] (next s q) l in
      steps_append (step s q ∷ h) (next s q) l
      ∙ sym (ap (λ (x : List Step). x ++ h) (steps_append (step s q ∷ []) (next s q) l) ∙ append_assoc r (step s q ∷ []) h)

  -- two lists, one after the other
  pub steps-both : (h : List Step) (s : S) (l r : List Q) → steps next step h s (l ++ r) ≡ steps next step [] (end next s l) r ++ steps next step h s l
  steps-both h s [] r = steps_append h s r
  steps-both h s (q ∷ l) r = steps-both (step s q ∷ h) (next s q) l r

  -- live: what of a state of the machine the steps are done to
  pub steps_leave : (f : Tables) (live : S → Live) → ((s : S) (q : Q) → live (next s q) ≡ did f (step s q) (live s))
      → (t : Live) (h : List Step) (s : S) → live s ≡ leaves f h t → (l : List Q) → live (end next s l) ≡ leaves f (steps next step h s l) t
  steps_leave f live does t h s e [] = e
  steps_leave f live does t h s e (q ∷ l) =
      steps_leave f live does t (step s q ∷ h) (next s q) (does s q ∙ ap (did f (step s q)) e) l
