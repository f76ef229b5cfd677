-- What `by_requester`, `message` and `ask` are proved from: a law to a kind of request. Assumes nothing.
use Rattle.kinds.specs.Lookup.{Owner, Route}
use Rattle.std.specs.Prelude.{Ok}
use mathlib.Core.Path.{◌≡◌, refl, ap, ◌∙◌}
use mathlib.Core.Bool.{true, false}
use mathlib.Core.List.{List}
use Prim.Native.Nat.{ℕ, min}
use Rattle.kinds.specs.Answer.{refuse}
use Rattle.kinds.specs.declared.outcome.Check.TheVariants.{Kept, Ready, Fences}
use Rattle.kinds.specs.Number.{no_word}
use Rattle.kinds.specs.Outcome.{done}
use Rattle.kinds.specs.Words.{at}
use Rattle.kinds.specs.declared.answer.Answer.TheVariants.{Ones, Drop}
use Rattle.kinds.specs.declared.answer.Reason.TheVariants.{BadRequest, MmioStopped, ErrorMessage, BadFirmware}
use Rattle.kinds.specs.declared.number.ByteAddress.{ByteAddress}
use Rattle.kinds.specs.declared.number.PeNumber.{PeNumber}
use Rattle.kinds.specs.declared.outcome.Check.{Check}
use Rattle.kinds.specs.declared.outcome.Effect.TheVariants.{Freeze, Release}
use Rattle.kinds.specs.declared.outcome.Outcome.{Outcome}
use Rattle.kinds.specs.declared.record.Sizes.{Sizes}
use Rattle.kinds.specs.declared.request.DmaRequest.{DmaRequest}
use Rattle.kinds.specs.declared.request.Part.{Part}
use Rattle.kinds.specs.declared.request.Request.{Request}
use Rattle.kinds.specs.declared.request.Request.TheVariants.{Dma, Load, Store, Error, Clear, End, Priority, Fatal, FenceClear, Unnamed}
use Rattle.profile.specs.Firmware.{on_good, ends, prioritized}
use Rattle.profile.specs.Freeze.{stop_word}
use Rattle.profile.specs.Msi.{interrupt_in}
use Rattle.profile.specs.Owner.{of_requester, of_interrupt, of_hit, owner_in}
use Rattle.profile.specs.Step.{formed, dma_asked, accessed, unowned, ask, asked}
use Rattle.profile.specs.Tables.{Live, named}
use Rattle.profile.specs.Windows.{route, ones_of}
use Rattle.mmio.proofs.AccessLaws.{ones-formed}
use Rattle.owners.specs.ByOwner.{by_owner}
use Rattle.owners.proofs.ByOwnerLaws.{asked-case, of_pe_lem}
use Rattle.decide.specs.ByRequester.{dma_of, message_of}

-- `by_requester`
pub by_pe : (c b : ℕ) (e l t : List ℕ) (q : DmaRequest) (o : Owner) {i : Owner} {p : PeNumber} {x : Check} → i ≡ o → i ≡ Ok p
    → x ≡ (dma_asked c b e l (at t (stop_word p)) p q) → x ≡ (by_owner (dma_of c b e l t q) o)
unfolding dma_of
by_pe c b e l t q o found is f = of_pe_lem (dma_of c b e l t q) o found is f

-- `message`
pub message : (r : ℕ) (p : PeNumber) {x : Outcome} {y : Check} → x ≡ done (Freeze (record { reason = ErrorMessage; value = r; word = no_word }) true)
    → y ≡ (Ready p x) → y ≡ (message_of r p)
unfolding message_of
message r p f made = made ∙ ap (λ (u : Outcome). (Ready p u)) f

-- `ask`: what a request of each kind comes to by its owner; n is N, s what is written
module _ (z : Sizes) (b : ℕ) (r e w g : List ℕ) (s : Live) {n : ℕ} (pes : n ≡ z.pes) {y : Request} {x : Check} where
  pub dma-case : {q : DmaRequest} → y ≡ Dma q
      → x ≡ (by_owner (dma_of z.interrupts b e s.interrupts s.state q) (of_requester n z.requesters r q.requester)) → x ≡ (asked z b r e w g s y (owner_in z r w g s.interrupts y))
  unfolding unowned ask owner_in dma_of
  dma-case i f = asked-case z b r e w g s i (λ r. refl) (rw pes at f)

  pub error_case : {q : ℕ} → y ≡ Error q → x ≡ (by_owner (message_of q) (of_requester n z.requesters r q)) → x ≡ (asked z b r e w g s y (owner_in z r w g s.interrupts y))
  unfolding unowned ask owner_in message_of
  error_case i f = asked-case z b r e w g s i (λ r. refl) (rw pes at f)

  pub clear-case : {p : ℕ} {c : Part} → y ≡ Clear p c → x ≡ (by_owner (λ p. Ready p (done (Release c))) (named BadFirmware n p)) → x ≡ (asked z b r e w g s y (owner_in z r w g s.interrupts y))
  unfolding unowned ask owner_in
  clear-case i f = asked-case z b r e w g s i (λ r. refl) (rw pes at f)

  pub end-case : {k : ℕ} → y ≡ End k
      → x ≡ (by_owner (λ p. Ready p (on_good (interrupt_in s.interrupts k) (ends k (interrupt_in s.interrupts k)))) (of_interrupt n z.interrupts s.interrupts k)) → x ≡ (asked z b r e w g s y (owner_in z r w g s.interrupts y))
  unfolding unowned ask owner_in
  end-case i f = asked-case z b r e w g s i (λ r. refl) (rw pes at f)

  pub priority_case : {k v : ℕ} → y ≡ Priority k v
      → x ≡ (by_owner (λ p. Ready p (on_good (interrupt_in s.interrupts k) (prioritized k v (interrupt_in s.interrupts k)))) (of_interrupt n z.interrupts s.interrupts k)) → x ≡ (asked z b r e w g s y (owner_in z r w g s.interrupts y))
  unfolding unowned ask owner_in
  priority_case i f = asked-case z b r e w g s i (λ r. refl) (rw pes at f)

  pub fatal-case : {q : ℕ} → y ≡ Fatal q → x ≡ (by_owner (λ _. Fences true) (of_requester n z.requesters r q)) → x ≡ (asked z b r e w g s y (owner_in z r w g s.interrupts y))
  unfolding unowned ask owner_in
  fatal-case i f = asked-case z b r e w g s i (λ r. refl) (rw pes at f)

  module _ {a : ByteAddress} {v : ℕ} {h : Route} (hit : h ≡ route w g a) where
    pub load-case : {c : ℕ} → y ≡ Load a v → formed y ≡ true → c ≡ ones_of (min v 8)
        → x ≡ (by_owner (λ p. Kept (accessed h p (at s.state (stop_word p)) (Ones MmioStopped c))) (of_hit n h)) → x ≡ (asked z b r e w g s y (owner_in z r w g s.interrupts y))
    unfolding unowned ask owner_in formed
    load-case {c} i good o f =
        let ones : c ≡ ones_of v = o ∙ ones-formed a v (rw i at good) in
        asked-case z b r e w g s i (λ r. refl) (rw (hit, ones, pes) at f)

    pub store-case : y ≡ Store a v → x ≡ (by_owner (λ p. Kept (accessed h p (at s.state (stop_word p)) (Drop MmioStopped))) (of_hit n h)) → x ≡ (asked z b r e w g s y (owner_in z r w g s.interrupts y))
    unfolding unowned ask owner_in
    store-case i f = asked-case z b r e w g s i (λ r. refl) (rw (hit, pes) at f)

-- what belongs to nobody
module _ (z : Sizes) (b : ℕ) (r e w g : List ℕ) (s : Live) {y : Request} {x : Check} where
  pub fence-clear-case : y ≡ FenceClear → x ≡ (Fences false) → x ≡ (asked z b r e w g s y (owner_in z r w g s.interrupts y))
  unfolding unowned asked owner_in
  fence-clear-case i f = f ∙ rw i

  pub unnamed-case : y ≡ Unnamed → x ≡ (Kept (refuse BadRequest)) → x ≡ (asked z b r e w g s y (owner_in z r w g s.interrupts y))
  unfolding unowned asked owner_in
  unnamed-case i f = f ∙ rw i
