-- The unwinding theorem: from laws of one request to two machines and two lists of requests. No bridge is named here.
--     lifted              laws of two machines are laws of two that run as they do
-- The theorems are in proofs/Unwind.antt. Assumes nothing.
use Rattle.std.proofs.Common.{sym, ◌∙◌}
use Rattle.isolation.specs.Machine.{Machine, Laws, Runs}

module _ {X S Q A : Type 0} {c d : Machine X Q A} {m n : Machine S Q A} {h : X → S} {I J : X → Type 0} {Match : S → S → Q → Q → Type 0}
    {R : S → S → Type 0} (v : Runs c m h I) (w : Runs d n h J) (laws : Laws m n Match R) where
  abbrev pub Lifted : X → X → Type 0
  Lifted x y = I x × J y × R (h x) (h y)

  -- a way to match that is one of the two other machines, where the invariants hold
  pub lifted : {Matches : X → X → Q → Q → Type 0} → ((x y : X) → I x → J y → (q p : Q) → Matches x y q p → Match (h x) (h y) q p) → Laws c d Matches Lifted
  lifted same = record {
    skip_left = λ {s = x} {t = y} r q o. (v.stays x r.0 q, r.1, rw (v.moves x r.0 q) (laws.skip_left r.2 q (rw (← v.owns x r.0 q) o)));
    skip_right = λ {s = x} {t = y} r q o. (r.0, w.stays y r.1 q, rw (w.moves y r.1 q) (laws.skip_right r.2 q (rw (← w.owns y r.1 q) o)));
    step = λ {s = x} {t = y} r q p a o o'.
        let z = laws.step r.2 q p (same x y r.0 r.1 q p a) (rw (← v.owns x r.0 q) o) (rw (← w.owns y r.1 p) o') in (
          v.answers x r.0 q ∙ z.0 ∙ sym (w.answers y r.1 p),
          (v.stays x r.0 q, w.stays y r.1 p, rw (v.moves x r.0 q, w.moves y r.1 p) z.1),
        );
  }
