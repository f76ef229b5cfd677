-- An interrupt is left waiting below priority 255 only where it was met so. docs/MSI-DIFFERENCES.md says why it matters.
--     waits n b           Q alone is set in state b, and priority n is not 255
--     waits_after x       effect x leaves an interrupt so
--     arrives-waits       an arriving MSI leaves no interrupt so; ends-waits: nor does an end
--     prioritized-waits   a new priority leaves an interrupt so only where it was met so
-- Assumes nothing.
use Rattle.std.specs.Prelude.{◌≡◌, Bool, true, false, not, ◌&&◌, ℕ, ◌+◌, ◌*◌, ◌/◌, ◌%◌, ltb, eqb}
use Rattle.std.proofs.Common.{arith, ltb-false, eqb-true, ne_eqb}
use Rattle.kinds.proofs.Tests.{by_cases, clash, and_left, and_right}
use Rattle.kinds.specs.declared.outcome.Effect.{Effect}
use Rattle.kinds.specs.declared.outcome.Effect.TheVariants as effect
use Rattle.kinds.specs.declared.record.Interrupt.{Interrupt}
use Rattle.profile.specs.Msi.{holding, presents, arrived, arrives}
use Rattle.profile.specs.Firmware.{ends, prioritized}

abbrev pub waits : (priority bits : ℕ) → Bool
waits n b = not (eqb n holding) && eqb b 1

abbrev pub waits_after : Effect → Bool
waits_after effect.Keep = false
waits_after (effect.Freeze r v) = false
waits_after (effect.Release c) = false
waits_after (effect.Interrupt i n b) = waits n b
waits_after (effect.Fence b) = false

arrived-waits : (n b : ℕ) → waits n (arrived n b) ≡ false
unfolding arrived presents
arrived-waits n b =
    by_cases (eqb n holding)
    (λ o. rw o)
    (λ o. rw o (by_cases (ltb b 2)
    (λ p. rw p (ne_eqb (b + 2) 1 (omega arith)))
    (λ p. let z = ltb-false b 2 p in rw p (ne_eqb (b / 2 * 2 + 1) 1 (omega arith)))))

pub arrives-waits : (i : ℕ) (e : Interrupt) → waits_after (arrives i e).effect ≡ false
arrives-waits i e = arrived-waits e.priority e.bits

pub ends-waits : (i : ℕ) (e : Interrupt) → waits_after (ends i e).effect ≡ false
unfolding ends
ends-waits i e =
    by_cases (ltb e.bits 2)
    (λ o. rw o)
    (λ o. rw o (by_cases (eqb e.bits 2)
    (λ p. rw p (by_cases (eqb e.priority holding) (λ q. rw q) (λ q. rw q)))
    (λ p. rw p (by_cases (eqb e.priority holding) (λ q. rw (q, q)) (λ q. rw (q, q))))))

pub prioritized-waits : (i n : ℕ) (e : Interrupt) → waits_after (prioritized i n e).effect ≡ true → waits e.priority e.bits ≡ true
unfolding prioritized
prioritized-waits i n e h =
    by_cases (eqb e.priority holding && not (eqb n holding) && eqb (e.bits % 2) 1)
    (λ t. clash (rw t at h) (arrived-waits n (e.bits / 2 * 2)))
    (λ t. let w : waits n e.bits ≡ true = rw t at h in
    let below = and_left (not (eqb n holding)) (eqb e.bits 1) w in
    let alone = and_right (not (eqb n holding)) (eqb e.bits 1) w in
    let odd : eqb (e.bits % 2) 1 ≡ true = rw (eqb-true e.bits 1 alone) in
    by_cases (eqb e.priority holding)
    (λ o. clash (rw (o, below, odd)) t)
    (λ o. rw o alone))
