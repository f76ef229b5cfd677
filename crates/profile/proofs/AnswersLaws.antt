-- Laws of all answers: reasons 12 and 13 are for error records only, 8 and 15 alone name a table word, 18 is the fence's alone, a refusal stops no PE but
-- its own, and reason 1 is for every request alike.
--     shown a             answer a carries neither number 12 nor 13
--     answered-shown      no answer carries them, on any tables
--     worded a            answer a names a table word under 8 and 15 alone
--     answered-worded     so does every answer, on any tables
--     stopped f n s q     the fence stops request q, n being the length of memory: 1 and 2 do not hold, the fence is set, and it stops such a request
--     decided_split       every request is decided by the fence, where it stops it, and else as if there were no fence (unbarred, unbarred_on)
--     answered-fenced     THE LAW OF 18: it is answered exactly where the fence stops a request; stopped-answered, stopped-keeps: with what answer, and
--                         then no word changes
--     decided-calm        no request but a fatal message and a fence clear (`kind`) changes the fence
--     fits a x            effect x goes with answer a: a freeze takes peers where its reason is 12 and the answer has none; else its reason is the
--                         answer's. Its record names the table word that the answer names. The fence is changed where the answer is done
--     decided-fits        so, with answered-shown, WHETHER PEERS ARE TAKEN follows from the reason, on any tables, and the record's TABLE WORD is the
--                         answer's
--     refused-others      a request that is answered with a reason leaves every word of the state of each PE but its owner
--     unsized_answered    on tables that 01's table of lengths does not allow every answer is reason 1, with no word read; unsized_decided: and no effect
--     unsized_keeps       and nothing changes
-- Assumes nothing.
use Rattle.kinds.specs.Lookup.{Owner, Found, Translated, Route}
use Rattle.std.specs.Prelude.{◌≡◌, Bool, cond, not, ◌&&◌, ◌||◌, List, ℕ, ◌*◌, ◌/◌, ◌%◌, ltb, length, Ok, Err, Some, None}
use Rattle.std.proofs.Math.Path.{refl, ap}
use Rattle.std.proofs.Common.{sym, ◌∙◌, eq-eqb}
use Rattle.std.proofs.Math.Bool.{true, false}
use Rattle.std.proofs.Math.Option.{none}
use Rattle.std.proofs.Math.Dec.{eqb}
use Rattle.kinds.specs.Answer.{reason_number, numbered, refuse, is_done}
use Rattle.kinds.specs.declared.outcome.Check.{Check}
use Rattle.kinds.specs.declared.outcome.Check.TheVariants.{Kept, Ready, Walk, Fences}
use Rattle.kinds.specs.Outcome as outcomes
use Rattle.kinds.proofs.Tests.{by_cases, cond_cases, clash, not_true, and_left, and_right, none-some}
use Rattle.kinds.specs.Words.{at}
use Rattle.kinds.specs.declared.answer.Answer.{Answer}
use Rattle.kinds.specs.declared.answer.Answer.TheVariants.{Pass, Msi, Held, Ones, Drop, Refuse, Done}
use Rattle.kinds.specs.declared.answer.Reason.TheVariants.{TableLength, BadRequest, MmioStopped}
use Rattle.kinds.specs.declared.number.ByteAddress.{ByteAddress}
use Rattle.kinds.specs.declared.number.PageSize.{PageSize}
use Rattle.kinds.specs.declared.number.PeNumber.{PeNumber}
use Rattle.kinds.specs.declared.outcome.Effect.{Effect}
use Rattle.kinds.specs.declared.outcome.Effect.TheVariants.{Keep, Freeze, Release, Interrupt, Fence}
use Rattle.kinds.specs.declared.outcome.Outcome.{Outcome}
use Rattle.kinds.specs.declared.record.Interrupt as interrupts
use Rattle.kinds.specs.declared.record.Sizes.{Sizes}
use Rattle.kinds.specs.declared.record.TranslationEntry.{TranslationEntry}
use Rattle.kinds.specs.declared.request.AddressClass.{AddressClass}
use Rattle.kinds.specs.declared.request.AddressClass.TheVariants as class
use Rattle.kinds.specs.declared.request.Direction.{Direction}
use Rattle.kinds.specs.declared.request.DmaRequest.{DmaRequest}
use Rattle.kinds.specs.declared.request.Request.{Request}
use Rattle.kinds.specs.declared.request.Request.TheVariants.{Dma, Load, Store, Error, Clear, End, Priority, Fatal, FenceClear, Unnamed}
use Rattle.profile.specs.Tables.{Tables, Live, lengths, sized}
use Rattle.profile.specs.Freeze.{stop_word, mmio_stopped, dma_stopped}
use Rattle.profile.specs.Fence.{fence_word, barred, shut, kind}
use Rattle.profile.proofs.FenceLaws.{shut-cases}
use Rattle.profile.specs.Entry.{class_of, half, offset, entry_in, page_size, page_of, walks, unwalked}
use Rattle.profile.specs.Walk.{landed, walked_page, by_pages}
use Rattle.profile.specs.Msi.{holding, interrupt_in, interrupt, ranged, presents, announced, delivered, msi}
use Rattle.profile.specs.Firmware.{on_good, ends, prioritized}
use Rattle.profile.specs.Windows.{route, ones_of}
use Rattle.profile.specs.Step.{formed, installed_to, last_test, outcome_of, reached, by_entry, served, dma_asked, accessed, unowned, ask, asked, checked, finish, whole, act, act_by, decided, answered, after}
use Rattle.profile.specs.Agree.{pe_of}
use Rattle.profile.proofs.ActLaws.{calm, whole-calm, beyond, act-others}
use Rattle.profile.specs.Owner.{owner_in, owner}
use Rattle.profile.proofs.OwnerLaws.{owner_in-cases}
use Rattle.profile.proofs.RequestLaws.{unowned-cases}
use Rattle.profile.proofs.WalkLaws.{landed-cases, unwalked-cases}

unfoldable pub shown : Answer → Bool
shown a = not (eqb (numbered a).reason 12) && not (eqb (numbered a).reason 13)

unfoldable pub worded : Answer → Bool
worded a = eqb (numbered a).reason 8 || eqb (numbered a).reason 15 || eqb (numbered a).word 0

-- what holds of every answer that the fence does not give
unfoldable told : Answer → Bool
told a = not (eqb (numbered a).reason 18) && shown a && worded a

abbrev pub fits : Answer → Effect → Bool
fits a Keep = true
fits a (Freeze e b) =
    eqb e.word.0 (numbered a).word
    && cond b (eqb (reason_number e.reason) 12 && eqb (numbered a).reason 0) (eqb (reason_number e.reason) (numbered a).reason)
fits a (Release c) = true
fits a (Interrupt i n b) = true
fits a (Fence b) = is_done a

-- the answers that an outcome, what was checked, a translation, or an owner stands for; of an outcome also that it leaves the fence, if b is false
abbrev outcome_by : (b : Bool) → Outcome → Bool
outcome_by b o = cond b true (calm o.effect) && fits o.answer o.effect && told o.answer

abbrev outcome_shown : Outcome → Bool
outcome_shown o = outcome_by false o

-- a check that changes the fence
abbrev fencing : Check → Bool
fencing (Kept a) = false
fencing (Ready p o) = false
fencing (Walk p e q) = false
fencing (Fences b) = true

abbrev checked_shown : Check → Bool
checked_shown (Kept a) = told a
checked_shown (Ready p o) = outcome_shown o
checked_shown (Walk p e q) = true
checked_shown (Fences b) = true

abbrev translated_shown : Translated → Bool
translated_shown (Ok a) = true
translated_shown (Err e) = told (Refuse e.reason 0 e.word)

abbrev owner_shown : Owner → Bool
owner_shown (Ok p) = true
owner_shown (Err r) = told (refuse r)

either : {A : Type 0} (P : A → Bool) (b : Bool) {x y : A} → P x ≡ true → P y ≡ true → P (cond b x y) ≡ true
either P b = cond_cases (λ x. P x ≡ true) b

neither : {A : Type 0} (P : A → Bool) (b : Bool) {x y : A} → P x ≡ false → P y ≡ false → P (cond b x y) ≡ false
neither P b = cond_cases (λ x. P x ≡ false) b

landed-shown : (z : PageSize) (d : Direction) (o : ByteAddress) (w : Found) → translated_shown (landed z d o w) ≡ true
unfolding told shown worded
landed-shown = landed-cases (λ t. translated_shown t ≡ true) (λ a. refl) (λ w. refl) (λ w. refl)

unwalked-shown : (e : TranslationEntry) (o : ByteAddress) → translated_shown (unwalked e o) ≡ true
unfolding told shown worded
unwalked-shown = unwalked-cases (λ t. translated_shown t ≡ true) (λ a. refl) refl refl

pages-shown : (m : List ℕ) (e : TranslationEntry) (d : Direction) (o : ByteAddress) → translated_shown (by_pages m e d o).result ≡ true
unfolding by_pages
pages-shown m e d o = landed-shown (page_size e) d o (walked_page m e (page_of e o)).found

-- a refusal carries reason and word of the fault, whatever the count, and so does the record
outcome_of-shown : (p : PeNumber) (a : ByteAddress) (t : Translated) (n : ℕ) → translated_shown t ≡ true → outcome_shown (outcome_of p a t n) ≡ true
unfolding outcome_of told shown worded
outcome_of-shown p a (Ok x) n h = refl
outcome_of-shown p a (Err e) n h = rw (h, eq-eqb (reason_number e.reason) (reason_number e.reason) refl, eq-eqb e.word.0 e.word.0 refl)

last_test-shown : (i n : ℕ) (t : Translated) → translated_shown t ≡ true → translated_shown (last_test i n t) ≡ true
unfolding last_test told shown worded
last_test-shown i n (Ok x) h = either translated_shown (installed_to i x n) refl refl
last_test-shown i n (Err e) h = h

reached-shown : (i : ℕ) (p : PeNumber) (q : DmaRequest) (t : Translated) (n : ℕ) → translated_shown t ≡ true → outcome_shown (reached i p q t n) ≡ true
reached-shown i p q t n h = outcome_of-shown p q.address (last_test i q.length t) n (last_test-shown i q.length t h)

announced-shown : (i v p b : ℕ) → told (announced i v p b) ≡ true
unfolding announced told shown worded
announced-shown i v p b = either told (presents p b) refl refl

delivered-shown : (p : PeNumber) (a : ByteAddress) (i : ℕ) (e : interrupts.Interrupt) → outcome_shown (delivered p a i e) ≡ true
unfolding delivered told shown worded
delivered-shown p a i e =
    either outcome_shown (eqb e.pe p.0)
    (either outcome_shown (ranged e) (announced-shown i e.server e.priority e.bits) refl) refl

msi-shown : (c : ℕ) (l : List ℕ) (p : PeNumber) (a : ByteAddress) (i : ℕ) (ok : Bool) → outcome_shown (msi c l p a i ok) ≡ true
unfolding msi told shown worded
msi-shown c l p a i ok = either outcome_shown (ok && ltb i c) (delivered-shown p a i (interrupt_in l i)) refl

ends-shown : (i : ℕ) (e : interrupts.Interrupt) → outcome_shown (ends i e) ≡ true
unfolding ends told shown worded
ends-shown i e =
    either outcome_shown (ltb e.bits 2) refl
    (either outcome_shown (eqb e.bits 2) refl (either outcome_shown (eqb e.priority holding) refl refl))

prioritized-shown : (i n : ℕ) (e : interrupts.Interrupt) → outcome_shown (prioritized i n e) ≡ true
unfolding prioritized told shown worded
prioritized-shown i n e =
    either outcome_shown (eqb e.priority holding && not (eqb n holding) && eqb (e.bits % 2) 1) (announced-shown i e.server n (e.bits / 2 * 2)) refl

on_good-shown : (e : interrupts.Interrupt) (o : Outcome) → outcome_shown o ≡ true → outcome_shown (on_good e o) ≡ true
unfolding told shown worded
on_good-shown e o h = either outcome_shown (ranged e) h refl

accessed-shown : (h : Route) (p : PeNumber) (w : ℕ) (x : Answer) → told x ≡ true → told (accessed h p w x) ≡ true
unfolding accessed told shown worded
accessed-shown (Some i) p w x h = either told (mmio_stopped w) h refl
accessed-shown None p w x h = h

by_entry-shown : (i : ℕ) (e : TranslationEntry) (p : PeNumber) (q : DmaRequest) → checked_shown (by_entry i e p q) ≡ true
unfolding by_entry
by_entry-shown i e p q =
    either checked_shown (walks e (offset q.address)) refl
    (reached-shown i p q (unwalked e (offset q.address)) 0 (unwalked-shown e (offset q.address)))

served-shown : (c : AddressClass) (k i : ℕ) (e l : List ℕ) (p : PeNumber) (q : DmaRequest) → checked_shown (served c k i e l p q) ≡ true
unfolding served told shown worded
served-shown class.Dma k i e l p q = by_entry-shown i (entry_in e p (half q.address)) p q
served-shown class.Msi32 k i e l p q = msi-shown k l p q.address _ _
served-shown class.Msi64 k i e l p q = msi-shown k l p q.address _ _
served-shown class.Unserved k i e l p q = refl

finish-shown : (i : ℕ) (m : List ℕ) (x : Check) → checked_shown x ≡ true → outcome_by (fencing x) (finish i m x) ≡ true
unfolding finish told shown worded
finish-shown i m (Kept a) h = h
finish-shown i m (Ready p o) h = h
finish-shown i m (Walk p e q) h =
    reached-shown i p q (by_pages m e q.direction (offset q.address)).result _ (pages-shown m e q.direction (offset q.address))
finish-shown i m (Fences b) h = refl

-- the refusals that nobody gets
owner-shown : (z : Sizes) (r w g l : List ℕ) (q : Request) → owner_shown (owner_in z r w g l q) ≡ true
unfolding told shown worded
owner-shown z r w g l = owner_in-cases z r w g l (λ o. owner_shown o ≡ true) (λ p h. refl) refl refl refl refl

module _ (z : Sizes) (installed : ℕ) (requesters entries windows segments : List ℕ) (s : Live) where
  ask-shown : (p : PeNumber) (q : Request) → checked_shown (ask z installed requesters entries windows segments s p q) ≡ true
  unfolding ask dma_asked told shown worded
  ask-shown p (Dma q) =
      either checked_shown (dma_stopped (at s.state (stop_word p))) refl (served-shown (class_of q.address) z.interrupts installed entries s.interrupts p q)
  ask-shown p (Load a w) = accessed-shown (route windows segments a) p (at s.state (stop_word p)) (Ones MmioStopped (ones_of w)) refl
  ask-shown p (Store a w) = accessed-shown (route windows segments a) p (at s.state (stop_word p)) (Drop MmioStopped) refl
  ask-shown p (Error r) = refl
  ask-shown p (Clear k c) = refl
  ask-shown p (End i) = on_good-shown (interrupt s i) (ends i (interrupt s i)) (ends-shown i (interrupt s i))
  ask-shown p (Priority i n) = on_good-shown (interrupt s i) (prioritized i n (interrupt s i)) (prioritized-shown i n (interrupt s i))
  ask-shown p (Fatal r) = refl
  ask-shown p FenceClear = refl
  ask-shown p Unnamed = refl

  asked-shown : (q : Request) (o : Owner) → owner_shown o ≡ true → checked_shown (asked z installed requesters entries windows segments s q o) ≡ true
  unfolding asked
  asked-shown q (Ok p) h = ask-shown p q
  asked-shown q (Err r) h = unowned-cases (λ x. checked_shown x ≡ true) q r h refl

  -- all checks but the fence's
  abbrev pub unbarred : (ok : Bool) → Request → Check
  unbarred ok q =
      cond ok
      (cond (formed q) (asked z installed requesters entries windows segments s q (owner_in z requesters windows segments s.interrupts q)) (Kept (refuse BadRequest)))
      (Kept (refuse TableLength))

  unbarred-shown : (ok : Bool) (q : Request) → checked_shown (unbarred ok q) ≡ true
  unfolding told shown worded
  unbarred-shown ok q =
      either checked_shown ok
      (either checked_shown (formed q) (asked-shown q _ (owner-shown z requesters windows segments s.interrupts q)) refl) refl

  -- a request that is no fatal message and no fence clear changes no fence
  served-fencing : (c : AddressClass) (p : PeNumber) (q : DmaRequest) → fencing (served c z.interrupts installed entries s.interrupts p q) ≡ false
  unfolding served by_entry
  served-fencing class.Dma p q = neither fencing (walks (entry_in entries p (half q.address)) (offset q.address)) refl refl
  served-fencing class.Msi32 p q = refl
  served-fencing class.Msi64 p q = refl
  served-fencing class.Unserved p q = refl

  ask-fencing : (p : PeNumber) (q : Request) → kind q ≡ none → fencing (ask z installed requesters entries windows segments s p q) ≡ false
  unfolding ask dma_asked
  ask-fencing p (Dma q) e = neither fencing (dma_stopped (at s.state (stop_word p))) refl (served-fencing (class_of q.address) p q)
  ask-fencing p (Load a w) e = refl
  ask-fencing p (Store a w) e = refl
  ask-fencing p (Error r) e = refl
  ask-fencing p (Clear k c) e = refl
  ask-fencing p (End i) e = refl
  ask-fencing p (Priority i n) e = refl
  ask-fencing p (Fatal r) e = none-some (sym e)
  ask-fencing p FenceClear e = none-some (sym e)
  ask-fencing p Unnamed e = refl

  asked-fencing : (q : Request) (o : Owner) → kind q ≡ none → fencing (asked z installed requesters entries windows segments s q o) ≡ false
  unfolding asked unowned
  asked-fencing q (Ok p) e = ask-fencing p q e
  asked-fencing (Dma q) (Err r) e = refl
  asked-fencing (Load a w) (Err r) e = refl
  asked-fencing (Store a w) (Err r) e = refl
  asked-fencing (Error q) (Err r) e = refl
  asked-fencing (Clear p c) (Err r) e = refl
  asked-fencing (End i) (Err r) e = refl
  asked-fencing (Priority i n) (Err r) e = refl
  asked-fencing (Fatal q) (Err r) e = refl
  asked-fencing FenceClear (Err r) e = none-some (sym e)
  asked-fencing Unnamed (Err r) e = refl

  unbarred-fencing : (ok : Bool) (q : Request) → kind q ≡ none → fencing (unbarred ok q) ≡ false
  unbarred-fencing ok q e = neither fencing ok (neither fencing (formed q) (asked-fencing q _ e) refl) refl

  checked_split : (ok : Bool) (q : Request)
      → checked z installed requesters entries windows segments s ok q
      ≡ cond (ok && formed q && barred (at s.state (fence_word z.pes)) q) (Kept (shut q)) (unbarred ok q)
  unfolding checked
  checked_split false q = refl
  checked_split true q = by_cases (formed q) (λ o. rw o) (λ o. rw o)

-- ---- the fence

abbrev pub stopped : Tables → (memory : ℕ) → Live → Request → Bool
stopped f n s q = sized f.sizes (lengths f n s) && formed q && barred (at s.state (fence_word f.sizes.pes)) q

abbrev pub unbarred_on : Tables → (memory : ℕ) → Live → Request → Check
unbarred_on f n s q =
    unbarred f.sizes f.installed f.requesters f.entries f.windows f.segments s (sized f.sizes (lengths f n s)) q

-- what the fence answers has reason 18 and no table word, and is no answer of a record
shut-shown : (q : Request) → (eqb (numbered (shut q)).reason 18 && shown (shut q) && worded (shut q)) ≡ true
unfolding shown worded
shut-shown q = shut-cases (λ a. (eqb (numbered a).reason 18 && shown a && worded a) ≡ true) q refl (λ w. refl) refl

kept-still : (f : Tables) (s : Live) (o : Owner) → act_by f o Keep s ≡ s
unfolding act_by act whole
kept-still f s (Ok p) = refl
kept-still f s (Err r) = refl

-- answer and effect as if there were no fence
abbrev pub unfenced : Tables → List ℕ → Live → Request → Outcome
unfenced f m s q = finish f.installed m (unbarred_on f (length m) s q)

module _ (f : Tables) (m : List ℕ) (s : Live) (q : Request) where
  pub decided_split : decided f m s q ≡ cond (stopped f (length m) s q) (outcomes.kept (shut q)) (unfenced f m s q)
  unfolding finish
  decided_split =
      rw (checked_split f.sizes f.installed f.requesters f.entries f.windows f.segments s (sized f.sizes (lengths f (length m) s)) q)
      (by_cases (stopped f (length m) s q) (λ o. rw o) (λ o. rw o))

  stopped-decided : stopped f (length m) s q ≡ true → decided f m s q ≡ outcomes.kept (shut q)
  stopped-decided o = decided_split ∙ rw o

  unstopped_decided : stopped f (length m) s q ≡ false → decided f m s q ≡ unfenced f m s q
  unstopped_decided o = decided_split ∙ rw o

  by_fence : (P : Outcome → Bool) → P (outcomes.kept (shut q)) ≡ true → P (unfenced f m s q) ≡ true → P (decided f m s q) ≡ true
  by_fence P x y = by_cases (stopped f (length m) s q) (λ o. ap P (stopped-decided o) ∙ x) (λ o. ap P (unstopped_decided o) ∙ y)

  -- what is known of the answer as if there were no fence, and of its effect
  unfenced-shown : outcome_by (fencing (unbarred_on f (length m) s q)) (unfenced f m s q) ≡ true
  unfenced-shown =
      finish-shown f.installed m (unbarred_on f (length m) s q)
      (unbarred-shown f.sizes f.installed f.requesters f.entries f.windows f.segments s (sized f.sizes (lengths f (length m) s)) q)

  abbrev quiet : Bool
  quiet = cond (fencing (unbarred_on f (length m) s q)) true (calm (unfenced f m s q).effect)

  abbrev fitting : Bool
  fitting = fits (unfenced f m s q).answer (unfenced f m s q).effect

  unfenced-told : told (unfenced f m s q).answer ≡ true
  unfenced-told = and_right (quiet && fitting) (told (unfenced f m s q).answer) unfenced-shown

  unfenced-calm : kind q ≡ none → calm (unfenced f m s q).effect ≡ true
  unfenced-calm e =
      rw (unbarred-fencing f.sizes f.installed f.requesters f.entries f.windows f.segments s (sized f.sizes (lengths f (length m) s)) q e)
      at (and_left quiet fitting (and_left (quiet && fitting) (told (unfenced f m s q).answer) unfenced-shown))

  pub decided-fits : fits (answered f m s q) (decided f m s q).effect ≡ true
  decided-fits =
      by_fence (λ o. fits o.answer o.effect) refl
      (and_right quiet fitting (and_left (quiet && fitting) (told (unfenced f m s q).answer) unfenced-shown))

  pub decided-calm : kind q ≡ none → calm (decided f m s q).effect ≡ true
  decided-calm e = by_fence (λ o. calm o.effect) refl (unfenced-calm e)

  -- the three parts of `told`, and of what the fence answers
  abbrev other : Answer → Bool
  other a = not (eqb (numbered a).reason 18)

  pub answered-shown : shown (answered f m s q) ≡ true
  unfolding told
  answered-shown =
      by_fence (λ o. shown o.answer)
      (and_right (eqb (numbered (shut q)).reason 18) (shown (shut q)) (and_left (eqb (numbered (shut q)).reason 18 && shown (shut q)) (worded (shut q)) (shut-shown q)))
      (let a = (unfenced f m s q).answer in and_right (other a) (shown a) (and_left (other a && shown a) (worded a) unfenced-told))

  pub answered-worded : worded (answered f m s q) ≡ true
  unfolding told
  answered-worded =
      by_fence (λ o. worded o.answer) (and_right (eqb (numbered (shut q)).reason 18 && shown (shut q)) (worded (shut q)) (shut-shown q))
      (let a = (unfenced f m s q).answer in and_right (other a && shown a) (worded a) unfenced-told)

  -- 18 exactly where the fence stops the request
  pub answered-fenced : eqb (numbered (answered f m s q)).reason 18 ≡ stopped f (length m) s q
  unfolding told
  answered-fenced =
      let a = (unfenced f m s q).answer in
      by_cases (stopped f (length m) s q)
      (λ o. rw o (ap (λ (u : Outcome). eqb (numbered u.answer).reason 18) (stopped-decided o)
      ∙ and_left (eqb (numbered (shut q)).reason 18) (shown (shut q)) (and_left (eqb (numbered (shut q)).reason 18 && shown (shut q)) (worded (shut q)) (shut-shown q))))
      (λ o. rw o (ap (λ (u : Outcome). eqb (numbered u.answer).reason 18) (unstopped_decided o)
      ∙ not_true (eqb (numbered a).reason 18) (and_left (other a) (shown a) (and_left (other a && shown a) (worded a) unfenced-told))))

  pub stopped-answered : stopped f (length m) s q ≡ true → answered f m s q ≡ shut q
  stopped-answered o = ap (λ (u : Outcome). u.answer) (stopped-decided o)

  pub stopped-keeps : stopped f (length m) s q ≡ true → after f m s q ≡ s
  stopped-keeps o = ap (λ (u : Outcome). act_by f (owner f s q) u.effect s) (stopped-decided o) ∙ kept-still f s (owner f s q)

-- ---- a refusal

-- an effect that goes with an answer that has a reason changes its PE's words alone
none-beyond : (a : Answer) (x : Effect) → fits a x ≡ true → eqb (numbered a).reason 0 ≡ false → beyond x ≡ false
none-beyond a Keep h r = refl
none-beyond a (Freeze e true) h r =
    clash (and_right (eqb (reason_number e.reason) 12) (eqb (numbered a).reason 0)
    (and_right (eqb e.word.0 (numbered a).word) (eqb (reason_number e.reason) 12 && eqb (numbered a).reason 0) h)) r
none-beyond a (Freeze e false) h r = refl
none-beyond a (Release c) h r = refl
none-beyond a (Interrupt i n b) h r = refl
none-beyond (Pass x p n) (Fence b) h r = clash h refl
none-beyond (Msi n v p) (Fence b) h r = clash h refl
none-beyond (Held n) (Fence b) h r = clash h refl
none-beyond (Ones x v) (Fence b) h r = clash h refl
none-beyond (Drop x) (Fence b) h r = clash h refl
none-beyond (Refuse x n w) (Fence b) h r = clash h refl
none-beyond Done (Fence b) h r = clash refl r

within-calm : (x : Effect) → beyond x ≡ false → calm x ≡ true
within-calm Keep h = refl
within-calm (Freeze e b) h = refl
within-calm (Release c) h = refl
within-calm (Interrupt i n b) h = refl
within-calm (Fence b) h = clash refl h

owner-others : (f : Tables) (s : Live) (i : ℕ) (o : Owner) (x : Effect) → beyond x ≡ false → ¬ (o ≡ Ok (pe_of i))
    → at (act_by f o x s).state i ≡ at s.state i
unfolding act_by
owner-others f s i (Ok p) x h away = act-others f.sizes.pes f.peers p s i (λ e. away (rw e)) x h
owner-others f s i (Err r) x h away = rw (whole-calm f.sizes.pes x (within-calm x h) s)

pub refused-others : (f : Tables) (m : List ℕ) (s : Live) (q : Request) → eqb (numbered (answered f m s q)).reason 0 ≡ false
    → (i : ℕ) → ¬ (owner f s q ≡ Ok (pe_of i)) → at (after f m s q).state i ≡ at s.state i
refused-others f m s q r i away =
    owner-others f s i (owner f s q) (decided f m s q).effect
    (none-beyond (answered f m s q) (decided f m s q).effect (decided-fits f m s q) r) away

-- ---- reason 1

module _ (f : Tables) (m : List ℕ) (s : Live) (q : Request) (bad : sized f.sizes (lengths f (length m) s) ≡ false) where
  pub unsized_decided : decided f m s q ≡ record { answer = refuse TableLength; effect = Keep }
  unfolding checked finish
  unsized_decided =
      ap (λ (b : Bool). finish f.installed m (checked f.sizes f.installed f.requesters f.entries f.windows f.segments s b q)) bad

  pub unsized_answered : answered f m s q ≡ refuse TableLength
  unsized_answered = ap (λ (o : Outcome). o.answer) unsized_decided

  pub unsized_keeps : after f m s q ≡ s
  unsized_keeps = ap (λ (o : Outcome). act_by f (owner f s q) o.effect s) unsized_decided ∙ kept-still f s (owner f s q)
