-- 02, [7]: what the installed size does to a request, on any tables.
--     limited i q o       outcome o of the DMA q, where size i is tested after all else: a pass whose last byte is not below i becomes 17, and any other
--                         outcome stays; limited_by i q o a: by its answer a; limited_in i q o: of any request, where others than DMAs keep theirs
--     decided_at i f m s q    answer and effect on the tables f, with size i in place of their own
--     size_last           THE LAW: under a size i that is not above j, a request is decided as under j and then limited to i. So the size is tested
--                         LAST, and MSI, loads, stores, messages and firmware are UNTOUCHED
--     pass-installed      a DMA that passes ends below the installed size: NOTHING passes above it
-- Assumes nothing.
use Rattle.kinds.specs.Lookup.{Owner, Translated}
use Rattle.std.specs.Prelude.{◌≡◌, Bool, cond, ◌&&◌, List, ℕ, ◌+◌, ◌-◌, ◌≤◌, ◌<◌, ltb, eqb, length, Ok, Err}
use Rattle.std.proofs.Math.Path.{refl, sym}
use Rattle.std.proofs.Common.{ap, arith}
use Rattle.std.proofs.Math.Bool.{true, false}
use borrow.Author.Tests.{ltb-true, ltb-false, le-ltb}
use Rattle.kinds.specs.Answer.{numbered}
use Rattle.kinds.specs.Number.{no_word, last_byte}
use Rattle.kinds.specs.Outcome.{kept, refused, failed, done}
use Rattle.kinds.proofs.Tests.{by_cases, clash}
use Rattle.kinds.specs.Words.{at}
use Rattle.kinds.specs.declared.answer.Answer.{Answer}
use Rattle.kinds.specs.declared.answer.Answer.TheVariants.{Pass, Msi, Held, Ones, Drop, Refuse, Done}
use Rattle.kinds.specs.declared.answer.Reason.{Reason}
use Rattle.kinds.specs.declared.answer.Reason.TheVariants.{TableLength, BadRequest, AboveInstalled}
use Rattle.kinds.specs.declared.number.ByteAddress.{ByteAddress}
use Rattle.kinds.specs.declared.number.PeNumber.{PeNumber}
use Rattle.kinds.specs.declared.outcome.Effect.TheVariants.{Fence}
use Rattle.kinds.specs.declared.outcome.Outcome.{Outcome}
use Rattle.kinds.specs.declared.record.Sizes.{Sizes}
use Rattle.kinds.specs.declared.record.TranslationEntry.{TranslationEntry}
use Rattle.kinds.specs.declared.request.AddressClass.{AddressClass}
use Rattle.kinds.specs.declared.request.AddressClass.TheVariants as class
use Rattle.kinds.specs.declared.request.DmaRequest.{DmaRequest}
use Rattle.kinds.specs.declared.request.Request.{Request}
use Rattle.kinds.specs.declared.request.Request.TheVariants.{Dma, Load, Store, Error, Clear, End, Priority, Fatal, FenceClear, Unnamed}
use Rattle.profile.specs.Tables.{Tables, Live, lengths, sized}
use Rattle.profile.specs.Fence.{fence_word, barred, shut}
use Rattle.profile.proofs.FenceLaws.{shut-cases}
use Rattle.profile.specs.Entry.{class_of, half, offset, entry_in, walks}
use Rattle.profile.specs.Freeze.{stop_word, dma_stopped}
use Rattle.profile.specs.Msi.{interrupt_in, ranged, presents, announced, delivered, msi}
use Rattle.profile.specs.Step.{formed, installed_to, last_test, outcome_of, reached, by_entry, served, dma_asked, ask, asked, checked, finish, decided, answered}
use Rattle.profile.specs.Owner.{owner_in}
use Rattle.profile.proofs.RequestLaws.{unowned-cases}

unfoldable pub limited_by : (installed : ℕ) → DmaRequest → Outcome → Answer → Outcome
limited_by i q o (Pass x p n) = cond (installed_to i x q.length) o (failed AboveInstalled q.address n no_word)
limited_by i q o (Msi n s y) = o
limited_by i q o (Held n) = o
limited_by i q o (Ones r v) = o
limited_by i q o (Drop r) = o
limited_by i q o (Refuse r n w) = o
limited_by i q o Done = o

abbrev pub limited : (installed : ℕ) → DmaRequest → Outcome → Outcome
limited i q o = limited_by i q o o.answer

abbrev pub limited_in : (installed : ℕ) → Request → Outcome → Outcome
limited_in i (Dma q) o = limited i q o
limited_in i (Load a w) o = o
limited_in i (Store a w) o = o
limited_in i (Error r) o = o
limited_in i (Clear p c) o = o
limited_in i (End n) o = o
limited_in i (Priority n y) o = o
limited_in i (Fatal r) o = o
limited_in i FenceClear o = o
limited_in i Unnamed o = o

abbrev pub decided_at : (installed : ℕ) → Tables → List ℕ → Live → Request → Outcome
decided_at i f m s q =
    finish i m (checked f.sizes i f.requesters f.entries f.windows f.segments s (sized f.sizes (lengths f (length m) s)) q)

-- an MSI does not pass
msi-limited : (i : ℕ) (q : DmaRequest) (c : ℕ) (l : List ℕ) (p : PeNumber) (a : ByteAddress) (k : ℕ) (ok : Bool) → limited i q (msi c l p a k ok) ≡ msi c l p a k ok
unfolding limited_by msi delivered announced
msi-limited i q c l p a k ok =
    let e = interrupt_in l k in
    by_cases (ok && ltb k c)
    (λ o. rw o (by_cases (eqb e.pe p.0)
    (λ b. rw b (by_cases (ranged e) (λ r. rw r (by_cases (presents e.priority e.bits) (λ h. rw h) (λ h. rw h))) (λ r. rw r)))
    (λ b. rw b)))
    (λ o. rw o)

-- an outcome that stays where it is a DMA's stays
stays : (i : ℕ) (q : Request) (o : Outcome) → ((d : DmaRequest) → limited i d o ≡ o) → limited_in i q o ≡ o
stays i (Dma q) o h = h q
stays i (Load a w) o h = refl
stays i (Store a w) o h = refl
stays i (Error n) o h = refl
stays i (Clear p c) o h = refl
stays i (End n) o h = refl
stays i (Priority n y) o h = refl
stays i (Fatal n) o h = refl
stays i FenceClear o h = refl
stays i Unnamed o h = refl

-- a refusal, a change of the fence, and what the fence answers
refused-limited : (i : ℕ) (q : Request) (r : Reason) → limited_in i q (refused r) ≡ refused r
unfolding limited_by
refused-limited i q r = stays i q (refused r) (λ d. refl)

fences-limited : (i : ℕ) (q : Request) (b : Bool) → limited_in i q (done (Fence b)) ≡ done (Fence b)
unfolding limited_by
fences-limited i q b = stays i q (done (Fence b)) (λ d. refl)

shut-limited : (i : ℕ) (q : Request) → limited_in i q (kept (shut q)) ≡ kept (shut q)
unfolding limited_by
shut-limited i q = stays i q (kept (shut q)) (λ d. shut-cases (λ a. limited i d (kept a) ≡ kept a) q refl (λ w. refl) refl)

module _ {i j : ℕ} (low : i ≤ j) where
  -- what ends above the larger size ends above the smaller
  above-both : (x : ByteAddress) (n : ℕ) → installed_to j x n ≡ false → installed_to i x n ≡ false
  unfolding installed_to
  above-both x n h = le-ltb (x.0 + (n - 1)) i (omega (arith, low, ltb-false (x.0 + (n - 1)) j h))

  reached-limited : (p : PeNumber) (q : DmaRequest) (t : Translated) (n : ℕ) → reached i p q t n ≡ limited i q (reached j p q t n)
  unfolding limited_by last_test outcome_of
  reached-limited p q (Ok x) n =
      by_cases (installed_to j x q.length)
      (λ h. by_cases (installed_to i x q.length) (λ k. rw (h, k)) (λ k. rw (h, k)))
      (λ h. rw (h, above-both x q.length h))
  reached-limited p q (Err e) n = refl

  module _ (m : List ℕ) where
    by_entry-limited : (e : TranslationEntry) (p : PeNumber) (q : DmaRequest) → finish i m (by_entry i e p q) ≡ limited i q (finish j m (by_entry j e p q))
    unfolding by_entry finish
    by_entry-limited e p q =
        by_cases (walks e (offset q.address)) (λ o. rw o (reached-limited p q _ _)) (λ o. rw o (reached-limited p q _ _))

    served-limited : (c : AddressClass) (k : ℕ) (e l : List ℕ) (p : PeNumber) (q : DmaRequest)
        → finish i m (served c k i e l p q) ≡ limited i q (finish j m (served c k j e l p q))
    unfolding limited_by served finish
    served-limited class.Dma k e l p q = by_entry-limited (entry_in e p (half q.address)) p q
    served-limited class.Msi32 k e l p q = sym (msi-limited i q k l p q.address _ _)
    served-limited class.Msi64 k e l p q = sym (msi-limited i q k l p q.address _ _)
    served-limited class.Unserved k e l p q = refl

    module _ (z : Sizes) (requesters entries windows segments : List ℕ) (s : Live) where
      ask-limited : (p : PeNumber) (q : Request)
          → finish i m (ask z i requesters entries windows segments s p q) ≡ limited_in i q (finish j m (ask z j requesters entries windows segments s p q))
      unfolding limited_by ask dma_asked finish
      ask-limited p (Dma q) =
          by_cases (dma_stopped (at s.state (stop_word p))) (λ o. rw o) (λ o. rw o (served-limited (class_of q.address) _ _ _ p q))
      ask-limited p (Load a w) = refl
      ask-limited p (Store a w) = refl
      ask-limited p (Error r) = refl
      ask-limited p (Clear k c) = refl
      ask-limited p (End n) = refl
      ask-limited p (Priority n y) = refl
      ask-limited p (Fatal r) = refl
      ask-limited p FenceClear = refl
      ask-limited p Unnamed = refl

      asked-limited : (q : Request) (o : Owner)
          → finish i m (asked z i requesters entries windows segments s q o) ≡ limited_in i q (finish j m (asked z j requesters entries windows segments s q o))
      unfolding asked finish
      asked-limited q (Ok p) = ask-limited p q
      asked-limited q (Err r) =
          unowned-cases (λ x. finish i m x ≡ limited_in i q (finish j m x)) q r (sym (refused-limited i q r)) (sym (fences-limited i q false))

      checked-limited : (ok : Bool) (q : Request)
          → finish i m (checked z i requesters entries windows segments s ok q) ≡ limited_in i q (finish j m (checked z j requesters entries windows segments s ok q))
      unfolding checked finish
      checked-limited false q = sym (refused-limited i q TableLength)
      checked-limited true q =
          by_cases (formed q)
          (λ o. rw o (by_cases (barred (at s.state (fence_word z.pes)) q)
          (λ b. rw b (sym (shut-limited i q)))
          (λ b. rw b (asked-limited q (owner_in z requesters windows segments s.interrupts q)))))
          (λ o. rw o (sym (refused-limited i q BadRequest)))

pub size_last : (i j : ℕ) → i ≤ j → (f : Tables) (m : List ℕ) (s : Live) (q : Request) → decided_at i f m s q ≡ limited_in i q (decided_at j f m s q)
size_last i j low f m s q =
    checked-limited low m f.sizes f.requesters f.entries f.windows f.segments s (sized f.sizes (lengths f (length m) s)) q

-- an outcome that is limited to i and passes ends below i
pass-limited : (i : ℕ) (q : DmaRequest) (d : Outcome) {x : ByteAddress} {p : PeNumber} {n : ℕ} → d ≡ limited i q d → d.answer ≡ Pass x p n
    → installed_to i x q.length ≡ true
unfolding limited_by
pass-limited i q d {x = x} own h =
    by_cases (installed_to i x q.length)
    (λ o. o)
    (λ o. clash refl (ap (λ (u : Outcome). eqb (numbered u.answer).name 0) (rw (h, o) at own)))

pub pass-installed : (f : Tables) (m : List ℕ) (s : Live) (q : DmaRequest) {x : ByteAddress} {p : PeNumber} {n : ℕ} → answered f m s (Dma q) ≡ Pass x p n
    → (last_byte x q.length).0 < f.installed
unfolding installed_to
pass-installed f m s q {x = x} h =
    let i = f.installed in
    ltb-true (last_byte x q.length).0 i (pass-limited i q (decided f m s (Dma q)) (size_last i i (omega arith) f m s (Dma q)) h)
