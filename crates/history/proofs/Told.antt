-- Theorems of specs/Told.antt.
--     decided-told        THE LAW: of every request, on any tables
--     told-freeze, told-clear     it is a freeze of the same PEs with the same records, and a clear of the same parts
--     told-stop, told_record      so stop word and record by the history are those that are told from the answers
-- Assumes nothing.
use Rattle.kinds.specs.Lookup.{Owner, Found, Translated}
use Rattle.std.specs.Prelude.{◌≡◌, Bool, false, not, ◌&&◌, List, [], ◌∷◌, ℕ, ◌%◌, ltb, eqb, length, Ok, Err}
use Rattle.std.proofs.Math.Path.{refl, sym}
use Rattle.std.proofs.Common.{ap, ◌∙◌}
use Rattle.std.proofs.Math.Option.{none}
use Rattle.kinds.specs.declared.outcome.Check.{Check}
use Rattle.kinds.specs.declared.outcome.Check.TheVariants.{Kept}
use Rattle.kinds.specs.Outcome.{refused}
use Rattle.kinds.proofs.Tests.{cond_cases}
use Rattle.kinds.specs.Words.{at}
use Rattle.kinds.specs.declared.answer.Answer.{Answer}
use Rattle.kinds.specs.declared.answer.Reason.{Reason}
use Rattle.kinds.specs.declared.answer.Reason.TheVariants.{TableLength, BadRequest}
use Rattle.kinds.specs.declared.number.ByteAddress.{ByteAddress}
use Rattle.kinds.specs.declared.number.PageSize.{PageSize}
use Rattle.kinds.specs.declared.number.PeNumber.{PeNumber}
use Rattle.kinds.specs.declared.outcome.Effect.{Effect}
use Rattle.kinds.specs.declared.outcome.Effect.TheVariants.{Keep, Freeze, Release, Interrupt, Fence}
use Rattle.kinds.specs.declared.record.Interrupt as interrupts
use Rattle.kinds.specs.declared.record.Sizes.{Sizes}
use Rattle.kinds.specs.declared.record.TranslationEntry.{TranslationEntry}
use Rattle.kinds.specs.declared.request.AddressClass.{AddressClass}
use Rattle.kinds.specs.declared.request.AddressClass.TheVariants as class
use Rattle.kinds.specs.declared.request.Direction.{Direction}
use Rattle.kinds.specs.declared.request.DmaRequest.{DmaRequest}
use Rattle.kinds.specs.declared.request.Part.{Part}
use Rattle.kinds.specs.declared.request.Part.TheVariants as part
use Rattle.kinds.specs.declared.request.Request.{Request}
use Rattle.kinds.specs.declared.request.Request.TheVariants.{Dma, Load, Store, Error, Clear, End, Priority, Fatal, FenceClear, Unnamed}
use Rattle.profile.specs.Tables.{Tables, Live, lengths, sized}
use Rattle.profile.specs.Freeze.{stop_word, dma_stopped}
use Rattle.profile.specs.Fence.{fence_word, barred, shut}
use Rattle.profile.specs.Entry.{class_of, half, offset, entry_in, page_size, page_of, walks, unwalked}
use Rattle.profile.specs.Walk.{landed, walked_page, by_pages}
use Rattle.profile.proofs.WalkLaws.{landed-cases, unwalked-cases}
use Rattle.profile.specs.Msi.{holding, interrupt_in, interrupt, ranged, presents, announced, delivered, msi}
use Rattle.profile.specs.Firmware.{ends, prioritized}
use Rattle.profile.specs.Owner.{owner_in, owner}
use Rattle.profile.proofs.OwnerLaws.{owner_in-cases}
use Rattle.profile.specs.Step.{formed, installed_to, last_test, outcome_of, by_entry, served, dma_asked, unowned, ask, asked, checked, finish, decided, answered, after}
use Rattle.isolation.specs.View.{Bridge}
use Rattle.history.proofs.HistoryLaws.{any-since, first-since}
use Rattle.history.proofs.Release.{keeps-unfrozen, keeps-uncleared}
use Rattle.history.specs.History.{Step, steps, step_of, history, freeze_by, freeze_of, freezes, clear_by, clears, since, first, frozen_since, stop_of, record_of}
use Rattle.history.specs.Told.{Fits, Freezing, Idle, Spares, freezing, lasting, public_owner, told_dma, told_effect, told_history, told_step}

-- ---- refusals that freeze nobody

refused-fits : (q : Request) (r : Reason) → freezing r ≡ false → Fits q (refused r)
refused-fits (Dma q) r h = rw h
refused-fits (Load x w) r h = refl
refused-fits (Store x w) r h = refl
refused-fits (Error n) r h = refl
refused-fits (Clear p c) r h = refl
refused-fits (End i) r h = refl
refused-fits (Priority i n) r h = refl
refused-fits (Fatal n) r h = refl
refused-fits FenceClear r h = refl
refused-fits Unnamed r h = refl

owner_spares : (z : Sizes) (r w g l : List ℕ) (q : Request) → Spares (owner_in z r w g l q)
owner_spares z r w g l = owner_in-cases z r w g l Spares (λ p h. tt) refl refl refl refl

landed-freezing : (z : PageSize) (d : Direction) (o : ByteAddress) (w : Found) → Freezing (landed z d o w)
landed-freezing = landed-cases Freezing (λ a. tt) (λ w. refl) (λ w. refl)

unwalked-freezing : (e : TranslationEntry) (o : ByteAddress) → Freezing (unwalked e o)
unwalked-freezing = unwalked-cases Freezing (λ a. tt) refl refl

last_test-freezing : (i n : ℕ) (t : Translated) → Freezing t → Freezing (last_test i n t)
unfolding last_test
last_test-freezing i n (Ok x) h = cond_cases Freezing (installed_to i x n) tt refl
last_test-freezing i n (Err e) h = h

outcome_fits : (p : PeNumber) (q : DmaRequest) (t : Translated) (n : ℕ) → Freezing t → Fits (Dma q) (outcome_of p q.address t n)
unfolding outcome_of
outcome_fits p q (Ok x) n h = refl
outcome_fits p q (Err e) n h = rw h

-- ---- MSIs and interrupts

msi-fits : (q : DmaRequest) (c : ℕ) (l : List ℕ) (p : PeNumber) (i : ℕ) (ok : Bool) → Fits (Dma q) (msi c l p q.address i ok)
unfolding msi delivered announced
msi-fits q c l p i ok =
    let e = interrupt_in l i in
    cond_cases (Fits (Dma q)) (ok && ltb i c)
    (cond_cases (Fits (Dma q)) (eqb e.pe p.0)
    (cond_cases (Fits (Dma q)) (ranged e) (cond_cases (λ (a : Answer). Keep ≡ told_dma q.address a) (presents e.priority e.bits) refl refl) refl) refl)
    refl

ends-idle : (i : ℕ) (e : interrupts.Interrupt) → Idle (ends i e)
unfolding ends
ends-idle i e =
    cond_cases Idle (ltb e.bits 2) refl (cond_cases Idle (eqb e.bits 2) refl (cond_cases Idle (eqb e.priority holding) refl refl))

prioritized-idle : (i n : ℕ) (e : interrupts.Interrupt) → Idle (prioritized i n e)
unfolding prioritized
prioritized-idle i n e = cond_cases Idle (eqb e.priority holding && not (eqb n holding) && eqb (e.bits % 2) 1) refl refl

-- ---- every request

module _ (f : Tables) (m : List ℕ) (s : Live) where
  abbrev Ends : Request → Check → Type 0
  Ends q x = Fits q (finish f.installed m x)

  entry-ends : (e : TranslationEntry) (p : PeNumber) (q : DmaRequest) → Ends (Dma q) (by_entry f.installed e p q)
  unfolding by_entry finish by_pages
  entry-ends e p q =
      let o = offset q.address in
      let last : (t : Translated) (n : ℕ) → Freezing t → Fits (Dma q) (outcome_of p q.address (last_test f.installed q.length t) n) =
      λ t n h. outcome_fits p q (last_test f.installed q.length t) n (last_test-freezing f.installed q.length t h) in
      cond_cases (Ends (Dma q)) (walks e o)
      (last (landed (page_size e) q.direction o (walked_page m e (page_of e o)).found) _ (landed-freezing (page_size e) q.direction o (walked_page m e (page_of e o)).found))
      (last (unwalked e o) 0 (unwalked-freezing e o))

  served-ends : (c : AddressClass) (p : PeNumber) (q : DmaRequest) → Ends (Dma q) (served c f.sizes.interrupts f.installed f.entries s.interrupts p q)
  unfolding served finish
  served-ends class.Dma p q = entry-ends (entry_in f.entries p (half q.address)) p q
  served-ends class.Msi32 p q = msi-fits q f.sizes.interrupts s.interrupts p _ _
  served-ends class.Msi64 p q = msi-fits q f.sizes.interrupts s.interrupts p _ _
  served-ends class.Unserved p q = refl

  abbrev ask_on : PeNumber → Request → Check
  ask_on p q = ask f.sizes f.installed f.requesters f.entries f.windows f.segments s p q

  ask-ends : (p : PeNumber) (q : Request) → Ends q (ask_on p q)
  unfolding ask dma_asked finish
  ask-ends p (Dma q) = cond_cases (Ends (Dma q)) (dma_stopped (at s.state (stop_word p))) refl (served-ends (class_of q.address) p q)
  ask-ends p (Load a w) = refl
  ask-ends p (Store a w) = refl
  ask-ends p (Error r) = refl
  ask-ends p (Clear n c) = refl
  ask-ends p (End i) = cond_cases Idle (ranged (interrupt s i)) (ends-idle i (interrupt s i)) refl
  ask-ends p (Priority i n) = cond_cases Idle (ranged (interrupt s i)) (prioritized-idle i n (interrupt s i)) refl
  ask-ends p (Fatal r) = refl
  ask-ends p FenceClear = refl
  ask-ends p Unnamed = refl

  unowned-ends : (q : Request) (r : Reason) → freezing r ≡ false → Ends q (unowned q r)
  unfolding unowned finish
  unowned-ends (Dma q) r h = refused-fits (Dma q) r h
  unowned-ends (Load a w) r h = refl
  unowned-ends (Store a w) r h = refl
  unowned-ends (Error n) r h = refl
  unowned-ends (Clear p c) r h = refl
  unowned-ends (End i) r h = refl
  unowned-ends (Priority i n) r h = refl
  unowned-ends (Fatal n) r h = refl
  unowned-ends FenceClear r h = refl
  unowned-ends Unnamed r h = refl

  shut-ends : (q : Request) → Ends q (Kept (shut q))
  unfolding shut finish
  shut-ends (Dma q) = refl
  shut-ends (Load a w) = refl
  shut-ends (Store a w) = refl
  shut-ends (Error n) = refl
  shut-ends (Clear p c) = refl
  shut-ends (End i) = refl
  shut-ends (Priority i n) = refl
  shut-ends (Fatal n) = refl
  shut-ends FenceClear = refl
  shut-ends Unnamed = refl

  asked-ends : (q : Request) (o : Owner) → Spares o → Ends q (asked f.sizes f.installed f.requesters f.entries f.windows f.segments s q o)
  unfolding asked
  asked-ends q (Ok p) h = ask-ends p q
  asked-ends q (Err r) h = unowned-ends q r h

  pub decided-told : (q : Request) → lasting (decided f m s q).effect ≡ told_effect q (answered f m s q)
  unfolding checked finish
  decided-told q =
      cond_cases (Ends q) (sized f.sizes (lengths f (length m) s))
      (cond_cases (Ends q) (formed q)
      (cond_cases (Ends q) (barred (at s.state (fence_word f.sizes.pes)) q) (shut-ends q)
      (asked-ends q (owner f s q) (owner_spares f.sizes f.requesters f.windows f.segments s.interrupts q)))
      (refused-fits q BadRequest refl))
      (refused-fits q TableLength refl)

-- what an owner and an effect come to, where nothing comes of no effect
module _ {X : Type 0} (g : Owner → Effect → X) (x : X) (idle : (o : Owner) → g o Keep ≡ x) where
  public-owner : (f : Tables) (s : Live) (q : Request) (a : Answer) → g (owner f s q) (told_effect q a) ≡ g (public_owner f q) (told_effect q a)
  unfolding owner_in
  public-owner f s (Dma q) a = refl
  public-owner f s (Load y w) a = idle (owner f s (Load y w)) ∙ sym (idle (public_owner f (Load y w)))
  public-owner f s (Store y w) a = idle (owner f s (Store y w)) ∙ sym (idle (public_owner f (Store y w)))
  public-owner f s (Error r) a = refl
  public-owner f s (Clear p c) a = refl
  public-owner f s (End i) a = idle (owner f s (End i)) ∙ sym (idle (public_owner f (End i)))
  public-owner f s (Priority i n) a = idle (owner f s (Priority i n)) ∙ sym (idle (public_owner f (Priority i n)))
  public-owner f s (Fatal r) a = refl
  public-owner f s FenceClear a = refl
  public-owner f s Unnamed a = refl

module _ (f : Tables) (k : PeNumber) where
  lasting-freeze : (o : Owner) (x : Effect) → freeze_by f k o x ≡ freeze_by f k o (lasting x)
  lasting-freeze (Ok p) Keep = refl
  lasting-freeze (Ok p) (Freeze e b) = refl
  lasting-freeze (Ok p) (Release c) = refl
  lasting-freeze (Ok p) (Interrupt i n b) = refl
  lasting-freeze (Ok p) (Fence b) = refl
  lasting-freeze (Err r) x = refl

  lasting-clear : (c : Part) (o : Owner) (x : Effect) → clear_by c k o x ≡ clear_by c k o (lasting x)
  lasting-clear c (Ok p) Keep = refl
  lasting-clear c (Ok p) (Freeze e b) = refl
  lasting-clear c (Ok p) (Release d) = refl
  lasting-clear c (Ok p) (Interrupt i n b) = refl
  lasting-clear c (Ok p) (Fence b) = refl
  lasting-clear c (Err r) x = refl

  pub told-freeze : (m : List ℕ) (s : Live) (q : Request) → freeze_of f k (step_of f m s q) ≡ freeze_of f k (told_step f q (answered f m s q))
  told-freeze m s q =
      lasting-freeze (owner f s q) (decided f m s q).effect ∙ ap (freeze_by f k (owner f s q)) (decided-told f m s q)
      ∙ public-owner (freeze_by f k) none (keeps-unfrozen f k) f s q (answered f m s q)

  pub told-clear : (m : List ℕ) (s : Live) (q : Request) (c : Part) → clears c k (step_of f m s q) ≡ clears c k (told_step f q (answered f m s q))
  told-clear m s q c =
      lasting-clear c (owner f s q) (decided f m s q).effect ∙ ap (clear_by c k (owner f s q)) (decided-told f m s q)
      ∙ public-owner (clear_by c k) false (keeps-uncleared c k) f s q (answered f m s q)

  -- ---- histories

  -- two histories whose steps are the same freezes and clears of PE k
  abbrev Matched : List Step → List Step → Type 0
  Matched [] [] = Unit {0}
  Matched [] (e ∷ g) = ⊥
  Matched (d ∷ h) [] = ⊥
  Matched (d ∷ h) (e ∷ g) = (freeze_of f k d ≡ freeze_of f k e) × ((c : Part) → clears c k d ≡ clears c k e) × Matched h g

  steps_matched : {S Q : Type 0} (next : S → Q → S) (d e : S → Q → Step)
      → ((s : S) (q : Q) → freeze_of f k (d s q) ≡ freeze_of f k (e s q)) → ((s : S) (q : Q) (c : Part) → clears c k (d s q) ≡ clears c k (e s q))
      → (h g : List Step) → Matched h g → (s : S) (l : List Q) → Matched (steps next d h s l) (steps next e g s l)
  steps_matched next d e u v h g z s [] = z
  steps_matched next d e u v h g z s (q ∷ l) = steps_matched next d e u v (d s q ∷ h) (e s q ∷ g) (u s q, v s q, z) (next s q) l

  frozen_matched : (c : Part) (h g : List Step) → Matched h g → frozen_since c f k h ≡ frozen_since c f k g
  frozen_matched c [] [] z = refl
  frozen_matched c [] (e ∷ g) z = absurd z
  frozen_matched c (d ∷ h) [] z = absurd z
  frozen_matched c (d ∷ h) (e ∷ g) z =
      rw (any-since (clears c k) (freezes f k) d h, any-since (clears c k) (freezes f k) e g, z.1 c, z.0, frozen_matched c h g z.2)

  first_matched : (h g : List Step) → Matched h g
      → first (freeze_of f k) (since (clears part.Record k) h) ≡ first (freeze_of f k) (since (clears part.Record k) g)
  first_matched [] [] z = refl
  first_matched [] (e ∷ g) z = absurd z
  first_matched (d ∷ h) [] z = absurd z
  first_matched (d ∷ h) (e ∷ g) z =
      rw (
        first-since (clears part.Record k) (freeze_of f k) d h,
        first-since (clears part.Record k) (freeze_of f k) e g,
        z.1 part.Record,
        z.0,
        first_matched h g z.2,
      )

module _ (a : Bridge) (l : List Request) (k : PeNumber) where
  told_matched : Matched a.tables k (history a l) (told_history a l)
  told_matched =
      steps_matched a.tables k (after a.tables a.memory) (step_of a.tables a.memory)
      (λ s q. told_step a.tables q (answered a.tables a.memory s q))
      (told-freeze a.tables k a.memory) (told-clear a.tables k a.memory) [] [] tt a.live l

  pub told-stop : stop_of a.tables k (history a l) ≡ stop_of a.tables k (told_history a l)
  told-stop =
      rw (
        frozen_matched a.tables k part.Mmio (history a l) (told_history a l) told_matched,
        frozen_matched a.tables k part.Dma (history a l) (told_history a l) told_matched,
      )

  pub told_record : record_of a.tables k (history a l) ≡ record_of a.tables k (told_history a l)
  told_record = rw (first_matched a.tables k (history a l) (told_history a l) told_matched)
