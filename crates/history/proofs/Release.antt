-- Theorems of specs/Release.antt.
--     steps-released, released    THE THEOREMS, the second by the first
--     left-leaves         a list of requests leaves what its history leaves
--     history-both, left_both     lists one after another are one list
--     released-after      after the release the words that a next request leaves the PE are those too that it would leave if no PE had been frozen
-- Assumes nothing.
use Rattle.kinds.specs.Lookup.{Owner}
use Rattle.std.specs.Prelude.{◌≡◌, refl, Bool, true, false, List, [], ◌∷◌, ◌++◌, ℕ, ◌*◌, ◌<◌, ◌≤◌, length, Ok, Err}
use Rattle.std.proofs.Common.{sym, ap, ◌∙◌, arith, eqb-true, eq-eqb}
use Rattle.std.proofs.Math.Option.{Option, none, some}
use Rattle.kinds.specs.Tests.{given}
use Rattle.kinds.proofs.Tests.{by_cases, clash, all_true}
use Rattle.kinds.specs.Words.{at}
use Rattle.kinds.specs.declared.number.PeNumber.{PeNumber}
use Rattle.kinds.specs.declared.outcome.Effect.TheVariants.{Keep}
use Rattle.kinds.specs.declared.outcome.ErrorRecord.{ErrorRecord}
use Rattle.kinds.specs.declared.outcome.Outcome.{Outcome}
use Rattle.kinds.specs.declared.request.Part.{Part}
use Rattle.kinds.specs.declared.request.Part.TheVariants.{Mmio, Dma, Record}
use Rattle.kinds.specs.declared.request.Request.{Request}
use Rattle.profile.specs.Tables.{Tables, Live, state_words, state_length, sized, limits, dma_lengths, other_lengths}
use Rattle.profile.specs.Freeze.{stop_word, reason_word, value_word, failed_word}
use Rattle.profile.specs.Owner.{owner}
use Rattle.profile.specs.Step.{answered, after}
use Rattle.profile.specs.Agree.{belongs, owned, Same}
use Rattle.profile.proofs.AgreeLaws.{alike_refl, held_refl}
use Rattle.profile.proofs.AnswersLaws.{unsized_decided, unsized_keeps}
use Rattle.profile.proofs.RequestLaws.{answered_agrees, after_agrees}
use Rattle.isolation.specs.Corollaries.{ran}
use Rattle.isolation.specs.Isolation.{left}
use Rattle.isolation.specs.Machine.{end}
use Rattle.isolation.specs.View.{Bridge, bridge_lengths}
use Rattle.history.specs.History.{Step, leaves, steps, step_of, history, freeze_by, freeze_of, freezes, clear_by, clears, any, since, cleared, stop_of, recorded, record_of, record_at, Zeros, unfrozen}
use Rattle.history.proofs.StepLaws.{Words}
use Rattle.history.proofs.HistoryLaws.{leaves-words, since_none, none_first, cleared_mmio, cleared-stop, cleared_record, only, unfrozen-same, steps-both, end-both, steps_leave}
use Rattle.history.specs.Release.{Released, StepsReleased}

-- ---- any steps

recorded-back : (x : Option ErrorRecord) → at (recorded x) 0 ∷ at (recorded x) 1 ∷ at (recorded x) 2 ∷ [] ≡ recorded x
recorded-back none = refl
recorded-back (some e) = refl

record_is : (k : PeNumber) {l : List ℕ} {a b : Bool} {x : Option ErrorRecord} → Words l k a b x → record_at l k ≡ recorded x
record_is k {x = x} w = rw (w.word 0 (omega arith), w.word 1 (omega arith), w.word 2 (omega arith)) (recorded-back x)

pub steps-released : StepsReleased
steps-released = record {
  stop = λ f s z long h k low. (leaves-words f k low s z long h).stop;
  error_record = λ f s z long h k low. record_is k (leaves-words f k low s z long h);
  release = λ f s z long h r k low c.
      let w = leaves-words f k low s z long (r ++ h) in (w.stop ∙ cleared-stop f k h r c, record_is k w ∙ cleared_record f k h r c);
}

-- ---- lists of requests

pub left-leaves : (a : Bridge) (l : List Request) → left a l ≡ leaves a.tables (history a l) a.live
left-leaves a l =
    steps_leave (after a.tables a.memory) (step_of a.tables a.memory) a.tables (λ s. s) (λ s q. refl) a.live [] a.live refl l

-- lists one after another are one list
pub history-both : (a : Bridge) (l r : List Request) → history a (l ++ r) ≡ history (ran a l) r ++ history a l
history-both a l r = steps-both (after a.tables a.memory) (step_of a.tables a.memory) [] a.live l r

pub left_both : (a : Bridge) (l r : List Request) → left a (l ++ r) ≡ left (ran a l) r
left_both a l r = end-both (after a.tables a.memory) a.live l r

after-leaves : (a : Bridge) (l r : List Request) → left (ran a l) r ≡ leaves a.tables (history (ran a l) r ++ history a l) a.live
after-leaves a l r =
    sym (left_both a l r) ∙ left-leaves a (l ++ r) ∙ ap (λ (h : List Step). leaves a.tables h a.live) (history-both a l r)

-- where reason 1 does not hold, the state has the words of all PEs
pub sized-long : (a : Bridge) → sized a.tables.sizes (bridge_lengths a) ≡ true → a.tables.sizes.pes * state_words ≤ length a.live.state
unfolding sized
sized-long a o =
    let z = a.tables.sizes in
    let n = bridge_lengths a in
    -- the last of the tests
    let e = eqb-true (length a.live.state) (state_length z.pes) (all_true (limits z ++ dma_lengths z n ++ other_lengths z n) 12 o) in
    omega (arith, e)

-- where it holds, no step does anything
module _ (a : Bridge) (bad : sized a.tables.sizes (bridge_lengths a) ≡ false) where
  abbrev next : Live → Request → Live
  next = after a.tables a.memory

  unsized_left : (l : List Request) → left a l ≡ a.live
  unsized_left [] = refl
  unsized_left (q ∷ l) = ap (λ (t : Live). end next t l) (unsized_keeps a.tables a.memory a.live q bad) ∙ unsized_left l

  -- t picks no step without an effect
  unsized_any : (t : Step → Bool) → ((o : Owner) → t (record { owner = o; effect = Keep }) ≡ false) → (h : List Step) (l : List Request)
      → any t (steps next (step_of a.tables a.memory) h a.live l) ≡ any t h
  unsized_any t idle h [] = refl
  unsized_any t idle h (q ∷ l) =
      let d = step_of a.tables a.memory a.live q in
      let still : t d ≡ false = ap (λ (o : Outcome). t (record { owner = owner a.tables a.live q; effect = o.effect })) (unsized_decided a.tables a.memory a.live q bad) ∙ idle (owner a.tables a.live q) in
      ap (λ (s : Live). any t (steps next (step_of a.tables a.memory) (d ∷ h) s l)) (unsized_keeps a.tables a.memory a.live q bad)
      ∙ unsized_any t idle (d ∷ h) l ∙ rw still

-- no effect is no freeze and no clear
pub keeps-unfrozen : (f : Tables) (k : PeNumber) (o : Owner) → freeze_by f k o Keep ≡ none
keeps-unfrozen f k (Ok p) = refl
keeps-unfrozen f k (Err r) = refl

pub keeps-uncleared : (c : Part) (k : PeNumber) (o : Owner) → clear_by c k o Keep ≡ false
keeps-uncleared c k (Ok p) = refl
keeps-uncleared c k (Err r) = refl

-- a PE after a list: where reason 1 does not hold by the steps, where it holds nothing was frozen or cleared
module _ (a : Bridge) (zeros : Zeros a.live) (k : PeNumber) (low : k.0 < a.tables.sizes.pes) where
  none-frozen : sized a.tables.sizes (bridge_lengths a) ≡ false → (c : Part) (l : List Request)
      → any (freezes a.tables k) (since (clears c k) (history a l)) ≡ false
  none-frozen o c l =
      since_none (clears c k) (freezes a.tables k) (history a l) (unsized_any a o (freezes a.tables k) (λ i. ap given (keeps-unfrozen a.tables k i)) [] l)

  left-stop : (l : List Request) → at (left a l).state (stop_word k) ≡ stop_of a.tables k (history a l)
  left-stop l =
      by_cases (sized a.tables.sizes (bridge_lengths a))
      (λ o. rw (left-leaves a l) (steps-released.stop a.tables a.live zeros (sized-long a o) (history a l) k low))
      (λ o. rw (unsized_left a o l, none-frozen o Mmio l, none-frozen o Dma l) (zeros (stop_word k)))

  left_record : (l : List Request) → record_at (left a l).state k ≡ record_of a.tables k (history a l)
  left_record l =
      by_cases (sized a.tables.sizes (bridge_lengths a))
      (λ o. rw (left-leaves a l) (steps-released.error_record a.tables a.live zeros (sized-long a o) (history a l) k low))
      (λ o. rw (unsized_left a o l, none_first (freeze_of a.tables k) (since (clears Record k) (history a l)) (none-frozen o Record l))
      (rw (zeros (reason_word k), zeros (value_word k), zeros (failed_word k))))

  module _ (l r : List Request) (c : cleared a.tables k (history (ran a l) r) ≡ true) where
    -- there was a clear, so that reason 1 does not hold
    clear-sized : sized a.tables.sizes (bridge_lengths a) ≡ false → any (clears Mmio k) (history (ran a l) r) ≡ false
    clear-sized o =
        ap (λ (s : Live). any (clears Mmio k) (history (record { tables = a.tables; memory = a.memory; live = s }) r)) (unsized_left a o l)
        ∙ unsized_any a o (clears Mmio k) (keeps-uncleared Mmio k) [] r

    released-words : (at (left (ran a l) r).state (stop_word k) ≡ 0) × (record_at (left (ran a l) r).state k ≡ recorded none)
    released-words =
        by_cases (sized a.tables.sizes (bridge_lengths a))
        (λ o. rw (after-leaves a l r) (steps-released.release a.tables a.live zeros (sized-long a o) (history a l) (history (ran a l) r) k low c))
        (λ o. clash (cleared_mmio a.tables k [] (history (ran a l) r) c) (clear-sized o))

    -- to PE k the state is then like one in which no PE was frozen
    released-same : Same (only k) a.tables.sizes (left (ran a l) r) (unfrozen a.tables.sizes.pes (left (ran a l) r))
    released-same = unfrozen-same a.tables (left (ran a l) r) k low released-words.0 released-words.1

    module _ (q : Request) (o : owner a.tables (left (ran a l) r) q ≡ Ok k) where
      own-only : belongs (only k) a.tables (left (ran a l) r) q ≡ true
      own-only = ap (owned (only k)) o ∙ eq-eqb k.0 k.0 refl

      released-answer : answered a.tables a.memory (left (ran a l) r) q ≡ answered a.tables a.memory (unfrozen a.tables.sizes.pes (left (ran a l) r)) q
      released-answer = answered_agrees (alike_refl a.tables) (held_refl a.memory) released-same q own-only

      pub released-after : Same (only k) a.tables.sizes (after a.tables a.memory (left (ran a l) r) q)
          (after a.tables a.memory (unfrozen a.tables.sizes.pes (left (ran a l) r)) q)
      released-after = after_agrees (alike_refl a.tables) (held_refl a.memory) released-same q own-only

pub released : Released
released = record {
  stop = λ a z l k low. left-stop a z k low l;
  error_record = λ a z l k low. left_record a z k low l;
  release = λ a z l r k low c q o. released-answer a z k low l r c q o;
}
