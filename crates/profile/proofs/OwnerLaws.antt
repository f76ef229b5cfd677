-- Laws of whom a request belongs to.
--     owner_in-cases      THE OWNERS: a PE below N, or nobody with 2, 3, 10 or 14
--     owner-below         so a PE that a request belongs to is below N (Below n o: the owner o is below n, or nobody); owner_in-below: by the tables
--     owner_in-reads      of the interrupts the owner depends on the PE words alone
--     owner-keeps         so no request changes what belongs to whom
--     owner_agrees        and on two bridges that agree in what a group sees a request belongs to the same PE, or to nobody with the same refusal
--     missing-nobody      a request whose PE word is in a table too short to hold it belongs to nobody
-- Assumes nothing.
use Rattle.kinds.specs.Lookup.{Owner, Route}
use Rattle.std.specs.Prelude.{◌≡◌, Bool, false, cond, List, ℕ, ◌<◌, ◌≤◌, ltb, length, Ok, Err, Some, None}
use Rattle.std.proofs.Math.Path.{refl}
use Rattle.std.proofs.Math.Bool.{true}
use Rattle.std.proofs.Math.ListN.{get_or-eq_default}
use Rattle.std.proofs.Common.{ltb-true, le-ltb}
use Rattle.kinds.proofs.Tests.{by_cases}
use Rattle.kinds.specs.Words.{no_pe, pe_at}
use Rattle.kinds.specs.declared.answer.Reason.{Reason}
use Rattle.kinds.specs.declared.answer.Reason.TheVariants.{BadRequest, UnknownRequester, NoWindow, BadFirmware}
use Rattle.kinds.specs.declared.number.PeNumber.{PeNumber}
use Rattle.kinds.specs.declared.outcome.Effect.{Effect}
use Rattle.kinds.specs.declared.record.Sizes.{Sizes}
use Rattle.kinds.specs.declared.request.Request.{Request}
use Rattle.kinds.specs.declared.request.Request.TheVariants.{Dma, Load, Store, Error, Clear, End, Priority, Fatal, FenceClear, Unnamed}
use Rattle.profile.specs.Tables.{Tables, Live, named}
use Rattle.profile.specs.Msi.{interrupt_in, interrupt}
use Rattle.profile.specs.Windows.{route}
use Rattle.profile.specs.Step.{act_by}
use Rattle.profile.specs.Owner.{of_requester, of_interrupt, of_hit, owner_in, owner}
use Rattle.profile.specs.Agree.{Same, Alike}
use Rattle.profile.proofs.ActLaws.{whole-keeps, act-keeps}

abbrev pub Below : ℕ → Owner → Type 0
Below n (Ok p) = p.0 < n
Below n (Err r) = Unit {0}

-- a number that is taken for a PE, after a test or, with b true, after none
named-cases : (P : Owner → Type 0) (n : ℕ) → ((p : PeNumber) → p.0 < n → P (Ok p)) → (x : Reason) → P (Err x) → (b : Bool) (k : ℕ)
    → P (cond b (named x n k) (Err x))
unfolding named
named-cases P n pe x h false k = h
named-cases P n pe x h true k = by_cases (ltb k n) (λ o. rw o (pe (record { 0 = k }) (ltb-true k n o))) (λ o. rw o h)

module _ (z : Sizes) (r w g l : List ℕ) where
  module _ (P : Owner → Type 0) (pe : (p : PeNumber) → p.0 < z.pes → P (Ok p)) (unnamed : P (Err BadRequest)) (unknown : P (Err UnknownRequester))
      (lost : P (Err NoWindow)) (bad : P (Err BadFirmware)) where
    requester_cases : (q : ℕ) → P (of_requester z.pes z.requesters r q)
    requester_cases q = named-cases P z.pes pe UnknownRequester unknown (ltb q z.requesters) _

    interrupt-cases : (i : ℕ) → P (of_interrupt z.pes z.interrupts l i)
    interrupt-cases i = named-cases P z.pes pe BadFirmware bad (ltb i z.interrupts) _

    hit_cases : (h : Route) → P (of_hit z.pes h)
    hit_cases (Some h) = named-cases P z.pes pe NoWindow lost true h.pe
    hit_cases None = lost

    pub owner_in-cases : (q : Request) → P (owner_in z r w g l q)
    unfolding owner_in
    owner_in-cases (Dma q) = requester_cases _
    owner_in-cases (Load a n) = hit_cases (route _ _ _)
    owner_in-cases (Store a n) = hit_cases (route _ _ _)
    owner_in-cases (Error q) = requester_cases _
    owner_in-cases (Clear p c) = named-cases P z.pes pe BadFirmware bad true _
    owner_in-cases (End i) = interrupt-cases _
    owner_in-cases (Priority i n) = interrupt-cases _
    owner_in-cases (Fatal q) = requester_cases _
    owner_in-cases FenceClear = bad
    owner_in-cases Unnamed = unnamed

  pub owner_in-below : (q : Request) → Below z.pes (owner_in z r w g l q)
  owner_in-below = owner_in-cases (Below z.pes) (λ p h. h) tt tt tt tt

  -- of the interrupts it depends on the PE words alone
  pub owner_in-reads : (k : List ℕ) → ((i : ℕ) → i < z.interrupts → (interrupt_in l i).pe ≡ (interrupt_in k i).pe) → (q : Request)
      → owner_in z r w g l q ≡ owner_in z r w g k q
  unfolding owner_in
  owner_in-reads k e (Dma q) = refl
  owner_in-reads k e (Load a n) = refl
  owner_in-reads k e (Store a n) = refl
  owner_in-reads k e (Error q) = refl
  owner_in-reads k e (Clear p c) = refl
  owner_in-reads k e (End i) = by_cases (ltb i z.interrupts) (λ o. rw (o, e i (ltb-true i z.interrupts o))) (λ o. rw o)
  owner_in-reads k e (Priority i n) = by_cases (ltb i z.interrupts) (λ o. rw (o, e i (ltb-true i z.interrupts o))) (λ o. rw o)
  owner_in-reads k e (Fatal q) = refl
  owner_in-reads k e FenceClear = refl
  owner_in-reads k e Unnamed = refl

module _ (f : Tables) where
  pub owner-below : (s : Live) (q : Request) → Below f.sizes.pes (owner f s q)
  owner-below s q = owner_in-below f.sizes f.requesters f.windows f.segments s.interrupts q

  acted-keeps : (o : Owner) (e : Effect) (s : Live) (i : ℕ) → (interrupt (act_by f o e s) i).pe ≡ (interrupt s i).pe
  unfolding act_by
  acted-keeps (Ok p) e s i = act-keeps f.sizes.pes f.peers p e s i
  acted-keeps (Err r) e s i = whole-keeps f.sizes.pes e s i

  -- whatever effect is done, at whatever PE
  pub owner-keeps : (o : Owner) (e : Effect) (s : Live) (q : Request) → owner f (act_by f o e s) q ≡ owner f s q
  owner-keeps o e s q =
      owner_in-reads f.sizes f.requesters f.windows f.segments (act_by f o e s).interrupts s.interrupts (λ i h. acted-keeps o e s i) q

module _ {G : PeNumber → Bool} {f g : Tables} (w : Alike G f g) {s t : Live} (r : Same G f.sizes s t) where
  pub owner_agrees : (q : Request) → owner f s q ≡ owner g t q
  owner_agrees q =
      rw (← w.sizes, ← w.requesters, ← w.windows, ← w.segments)
      (owner_in-reads f.sizes f.requesters f.windows f.segments s.interrupts t.interrupts r.interrupt-pe q)

-- ---- tables that are too short

-- a PE word that a table does not have is nobody's, N being at most 65,536
pub missing-nobody : (x : Reason) (n : ℕ) (l : List ℕ) (i : ℕ) → n ≤ no_pe → length l ≤ i → named x n (pe_at l i) ≡ Err x
unfolding named
missing-nobody x n l i h e = rw (get_or-eq_default l no_pe e, le-ltb no_pe n h)
