-- What one step does to the words of one PE.
--     Words l k a b x     PE k in the state l: its stop word has the bits a and b and no other, its error record is x
--     empty-at            each word of an empty record is 0
--     did-words           THE LAW: what a step makes of them, if the state has the words of all PEs
-- Assumes nothing.
use Rattle.kinds.specs.Lookup.{Owner}
use Rattle.std.specs.Prelude.{◌≡◌, Bool, true, cond, ◌&&◌, ◌||◌, List, ℕ, zero, suc, ◌+◌, ◌-◌, ◌*◌, ◌/◌, ◌%◌, ◌<◌, ◌≤◌, ltb, eqb, length, set, Ok, Err}
use Rattle.std.proofs.Math.Path.{refl, ap}
use Rattle.std.proofs.Common.{sym, ◌∙◌, get_or-set_same, get_or-set_other}
use Rattle.std.proofs.Math.Bool.{false}
use Rattle.std.proofs.Math.Option.{Option, none, some}
use native.Mathlib.Omega.{arith}
use borrow.Author.Tests.{lt-ltb, eqb-true, eqb-false, eq-eqb, ne_eqb}
use Rattle.kinds.specs.Answer.{reason_number}
use Rattle.kinds.specs.Tests.{given}
use Rattle.kinds.proofs.Tests.{by_cases}
use Rattle.kinds.specs.Words.{at, bit_of}
use Rattle.kinds.proofs.WordsLaws.{at_out, at_set, at-map_at}
use Rattle.kinds.specs.declared.answer.Reason.{Reason}
use Rattle.kinds.specs.declared.answer.Reason.TheVariants.{TableLength, BadRequest, UnknownRequester, DmaStopped, AddressClass, BadEntry, OutsideWindow, TableWord, MsiRefused, NoWindow, MmioStopped, ErrorMessage, FrozenAsPeer, BadFirmware, OutsideMemory, AboveInstalled, Fenced}
use Rattle.kinds.specs.declared.number.PeNumber.{PeNumber}
use Rattle.kinds.specs.declared.outcome.Effect.{Effect}
use Rattle.kinds.specs.declared.outcome.Effect.TheVariants.{Keep, Freeze, Release, Interrupt, Fence}
use Rattle.kinds.specs.declared.outcome.ErrorRecord.{ErrorRecord}
use Rattle.kinds.specs.declared.request.Part.{Part}
use Rattle.kinds.specs.declared.request.Part.TheVariants.{Mmio, Dma, Record}
use Rattle.profile.specs.Tables.{Tables, Live, state_words}
use Rattle.profile.specs.Freeze.{stop_word, reason_word, value_word, failed_word, taken, error_words, as_peer, marked, frozen, froze, released}
use Rattle.profile.specs.Fence.{fence_to}
use Rattle.profile.proofs.FenceLaws.{fence-other}
use Rattle.profile.specs.Step.{whole, act, act_by}
use Rattle.profile.proofs.ActLaws.{no_peers_lem, act-others}
use Rattle.history.specs.History.{Step, did, listed, freeze_of, freezes, clears, or_else, stop_bits, recorded}

pub record Words (l : List ℕ) (k : PeNumber) (a b : Bool) (x : Option ErrorRecord) : Type 0 where
  pub stop : at l (stop_word k) ≡ stop_bits a b
  pub word : (j : ℕ) → j < 3 → at l (stop_word k + (j + 1)) ≡ at (recorded x) j

-- ---- the words by themselves

stopped_bits : (a b : Bool) → stop_bits a b / 4 * 4 + 3 ≡ 3
stopped_bits false false = refl
stopped_bits true false = refl
stopped_bits false true = refl
stopped_bits true true = refl

mmio_cleared : (a b : Bool) → stop_bits a b / 2 * 2 ≡ stop_bits false b
mmio_cleared false false = refl
mmio_cleared true false = refl
mmio_cleared false true = refl
mmio_cleared true true = refl

dma-cleared : (a b : Bool) → stop_bits a b / 4 * 4 + stop_bits a b % 2 ≡ stop_bits a false
dma-cleared false false = refl
dma-cleared true false = refl
dma-cleared false true = refl
dma-cleared true true = refl

-- no reason has the number 0, by which a record is empty
reason-some : (r : Reason) → eqb (reason_number r) 0 ≡ false
reason-some TableLength = refl
reason-some BadRequest = refl
reason-some UnknownRequester = refl
reason-some DmaStopped = refl
reason-some AddressClass = refl
reason-some BadEntry = refl
reason-some OutsideWindow = refl
reason-some TableWord = refl
reason-some MsiRefused = refl
reason-some NoWindow = refl
reason-some MmioStopped = refl
reason-some ErrorMessage = refl
reason-some FrozenAsPeer = refl
reason-some BadFirmware = refl
reason-some OutsideMemory = refl
reason-some AboveInstalled = refl
reason-some Fenced = refl

-- a record is written where it is empty
filled : (e : ErrorRecord) (x : Option ErrorRecord) (j : ℕ)
    → cond (eqb (at (recorded x) 0) 0) (at (error_words e) j) (at (recorded x) j) ≡ at (recorded (or_else x (some e))) j
filled e none j = refl
filled e (some y) j = rw (reason-some y.reason)

pub empty-at : (j : ℕ) → at (recorded none) j ≡ 0
empty-at zero = refl
empty-at (suc zero) = refl
empty-at (suc (suc zero)) = refl
empty-at (suc (suc (suc j))) = refl

or_else_none : {X : Type 0} (x : Option X) → or_else x none ≡ x
or_else_none none = refl
or_else_none (some x) = refl

-- a word that a store of 0 hits, or that was 0
zeroed : (l : List ℕ) (i j : ℕ) → (¬ (j ≡ i) → at l j ≡ 0) → at (set l i 0) j ≡ 0
zeroed l i j h =
    rw at_set
    (by_cases (eqb j i)
    (λ o. by_cases (ltb j (length l)) (λ p. rw (o, p)) (λ p. rw (o, p, at_out l j p)))
    (λ o. rw o (h (eqb-false j i o))))

module _ (k : PeNumber) {l : List ℕ} {a b : Bool} {x : Option ErrorRecord} (w : Words l k a b x) (m : List ℕ) where
  -- another state with the same words of PE k
  words-kept : ((i : ℕ) → i / state_words ≡ k.0 → at m i ≡ at l i) → Words m k a b x
  words-kept h = record {
    stop = h (stop_word k) (omega arith) ∙ w.stop;
    word = λ j u. h (stop_word k + (j + 1)) (omega arith) ∙ w.word j u;
  }

  -- one in which PE k was frozen with record e
  words-marked : (e : ErrorRecord) → ((i : ℕ) → i / state_words ≡ k.0 → at m i ≡ marked e (at l (reason_word k)) i (at l i)) → Words m k true true (or_else x (some e))
  unfolding marked
  words-marked e h = record {
    stop = h (stop_word k) (omega arith) ∙ rw (eq-eqb (stop_word k % state_words) 0 (omega arith), w.stop) (stopped_bits a b);
    word = λ j u.
        let i = stop_word k + (j + 1) in
        let z : i % state_words - 1 ≡ j = omega arith in
        h i (omega arith) ∙ rw (ne_eqb (i % state_words) 0 (λ o. omega arith), z, w.word 0 (omega arith), w.word j u) (filled e x j);
  }

-- ---- one step

module _ (f : Tables) (k : PeNumber) (low : k.0 < f.sizes.pes) where
  -- what step d makes of the words
  abbrev After : Step → List ℕ → (a b : Bool) → Option ErrorRecord → Type 0
  After d l a b x =
      Words l k (cond (clears Mmio k d) false (freezes f k d || a)) (cond (clears Dma k d) false (freezes f k d || b))
      (cond (clears Record k d) none (or_else x (freeze_of f k d)))

  taken-listed : (peers : Bool) (p : PeNumber) → bit_of (taken peers f.peers p) k.0 ≡ (peers && listed f p k)
  taken-listed true p = rw (lt-ltb k.0 f.sizes.pes low)
  taken-listed false p = no_peers_lem k.0

  module _ (l : List ℕ) (long : f.sizes.pes * state_words ≤ length l) {a b : Bool} {x : Option ErrorRecord} (w : Words l k a b x) where
    froze-word : (v : List ℕ) (p : PeNumber) (e : ErrorRecord) (i : ℕ) → i / state_words ≡ k.0
        → at (froze f.sizes.pes v p e l) i ≡
        cond (eqb k.0 p.0) (marked e (at l (reason_word k)) i (at l i))
        (cond (bit_of v k.0) (marked (as_peer p) (at l (reason_word k)) i (at l i)) (at l i))
    unfolding frozen
    froze-word v p e i h = rw (at-map_at, lt-ltb i (length l) (omega arith), h, lt-ltb k.0 f.sizes.pes low)

    -- a freeze that finds PE k failing (o), or listed (z)
    words-chosen : (m : List ℕ) (e y : ErrorRecord) (o z : Bool)
        → ((i : ℕ) → i / state_words ≡ k.0 → at m i ≡
        cond o (marked e (at l (reason_word k)) i (at l i)) (cond z (marked y (at l (reason_word k)) i (at l i)) (at l i)))
        → let g = cond o (some e) (cond z (some y) none) in Words m k (given g || a) (given g || b) (or_else x g)
    words-chosen m e y true z h = words-marked k w m e h
    words-chosen m e y false true h = words-marked k w m y h
    words-chosen m e y false false h = rw (or_else_none x) (words-kept k w m h)

    words-frozen : (p : PeNumber) (e : ErrorRecord) (peers : Bool)
        → After (record { owner = Ok p; effect = Freeze e peers }) (froze f.sizes.pes (taken peers f.peers p) p e l) a b x
    words-frozen p e peers =
        words-chosen (froze f.sizes.pes (taken peers f.peers p) p e l) e (as_peer p) (eqb k.0 p.0) (peers && listed f p k)
        (λ i h. froze-word (taken peers f.peers p) p e i h ∙ rw (taken-listed peers p))

    -- a clear of a part of PE k
    own-stop : (v : ℕ) (c d : Bool) → v ≡ stop_bits c d → Words (set l (stop_word k) v) k c d x
    own-stop v c d e = record {
      stop = get_or-set_same l (stop_word k) v _ (omega arith) ∙ e;
      word = λ j u. get_or-set_other l (stop_word k) (stop_word k + (j + 1)) v _ (λ z. omega arith) ∙ w.word j u;
    }

    own_record : Words (set (set (set l (reason_word k) 0) (value_word k) 0) (failed_word k) 0) k a b none
    own_record = record {
      stop =
          get_or-set_other (set (set l (reason_word k) 0) (value_word k) 0) (failed_word k) (stop_word k) 0 _ (λ z. omega arith)
          ∙ get_or-set_other (set l (reason_word k) 0) (value_word k) (stop_word k) 0 _ (λ z. omega arith)
          ∙ get_or-set_other l (reason_word k) (stop_word k) 0 _ (λ z. omega arith) ∙ w.stop;
      word = λ j u.
          let i = stop_word k + (j + 1) in
          zeroed (set (set l (reason_word k) 0) (value_word k) 0) (failed_word k) i
          (λ y. zeroed (set l (reason_word k) 0) (value_word k) i (λ z. zeroed l (reason_word k) i (λ o. absurd (omega arith))))
          ∙ sym (empty-at j);
    }

    own-cleared : (c : Part) → After (record { owner = Ok k; effect = Release c }) (released c k l) a b x
    unfolding released
    own-cleared Mmio =
        rw (eq-eqb k.0 k.0 refl, or_else_none x) (own-stop (at l (stop_word k) / 2 * 2) false b (rw w.stop (mmio_cleared a b)))
    own-cleared Dma =
        rw (eq-eqb k.0 k.0 refl, or_else_none x)
        (own-stop (at l (stop_word k) / 4 * 4 + at l (stop_word k) % 2) a false (rw w.stop (dma-cleared a b)))
    own-cleared Record = rw (eq-eqb k.0 k.0 refl) own_record

  module _ (s : Live) (long : f.sizes.pes * state_words ≤ length s.state) {a b : Bool} {x : Option ErrorRecord} (w : Words s.state k a b x) where
    -- the fence word is no PE's
    words-fenced : (c : Bool) → Words (fence_to f.sizes.pes c s.state) k a b x
    words-fenced c =
        words-kept k w (fence_to f.sizes.pes c s.state) (λ i h. fence-other f.sizes.pes c s.state i (λ e. omega arith))

    words-cleared : (c : Part) (p : PeNumber) → After (record { owner = Ok p; effect = Release c }) (released c p s.state) a b x
    unfolding act
    words-cleared c p =
        by_cases (eqb k.0 p.0)
        (λ o. let e : k ≡ p = ap (λ (n : ℕ). record { 0 = n }) (eqb-true k.0 p.0 o) in rw (← e) (own-cleared s.state long w c))
        (λ o. rw (o, or_else_none x)
        (words-kept k w (released c p s.state) (λ i h. act-others f.sizes.pes f.peers p s i (λ z. eqb-false k.0 p.0 o (sym h ∙ z)) (Release c) refl)))

    act-words : (p : PeNumber) (e : Effect) → After (record { owner = Ok p; effect = e }) (act f.sizes.pes f.peers p e s).state a b x
    unfolding act whole
    act-words p Keep = rw (or_else_none x) w
    act-words p (Freeze e peers) = words-frozen s.state long w p e peers
    act-words p (Release c) = words-cleared c p
    act-words p (Interrupt i n y) = rw (or_else_none x) w
    act-words p (Fence y) = rw (or_else_none x) (words-fenced y)

    whole_words : (r : Reason) (e : Effect) → After (record { owner = Err r; effect = e }) (whole f.sizes.pes e s).state a b x
    unfolding whole
    whole_words r Keep = rw (or_else_none x) w
    whole_words r (Freeze e peers) = rw (or_else_none x) w
    whole_words r (Release c) = rw (or_else_none x) w
    whole_words r (Interrupt i n y) = rw (or_else_none x) w
    whole_words r (Fence y) = rw (or_else_none x) (words-fenced y)

    acted-words : (o : Owner) (e : Effect) → After (record { owner = o; effect = e }) (act_by f o e s).state a b x
    unfolding act_by
    acted-words (Ok p) e = act-words p e
    acted-words (Err r) e = whole_words r e

    pub did-words : (d : Step) → After d (did f d s).state a b x
    did-words d = acted-words d.owner d.effect
