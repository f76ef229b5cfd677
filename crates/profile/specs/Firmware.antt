-- 01, 'Firmware', on interrupts. What firmware clears is `released` of Freeze.antt.
--     on_good e o         o where the words of e are in their ranges, else 14; the number and the PE of a good interrupt are tested by `owner`
--     ends i e            the end of an interrupt
--     prioritized i n e   its priority set to n, written first; from 255 to another with Q set, Q is cleared and an MSI is taken as arrived
-- Assumes nothing.
use Rattle.std.specs.Prelude.{cond, not, ◌&&◌, ℕ, ◌*◌, ◌/◌, ◌%◌, ltb, eqb}
use Rattle.kinds.specs.Outcome.{refused, done}
use Rattle.kinds.specs.declared.answer.Answer.TheVariants.{Msi}
use Rattle.kinds.specs.declared.answer.Reason.TheVariants.{BadFirmware}
use Rattle.kinds.specs.declared.outcome.Effect.TheVariants.{Keep}
use Rattle.kinds.specs.declared.outcome.Effect.TheVariants as effect
use Rattle.kinds.specs.declared.outcome.Outcome.{Outcome}
use Rattle.kinds.specs.declared.record.Interrupt.{Interrupt}
use Rattle.profile.specs.Msi.{holding, ranged, arrives}

-- a firmware request of an interrupt, whose number and PE are good: 14 where another word is out of its range
abbrev pub on_good : Interrupt → Outcome → Outcome
on_good e o = cond (ranged e) o (refused BadFirmware)

-- P = 0; P = 1 and Q = 0; both set and priority 255; both set
unfoldable pub ends : ℕ → Interrupt → Outcome
ends i e =
    cond (ltb e.bits 2) (done Keep)
    (cond (eqb e.bits 2) (done (effect.Interrupt i e.priority 0))
    (cond (eqb e.priority holding) (done (effect.Interrupt i e.priority 1))
    (record { answer = Msi i e.server e.priority; effect = effect.Interrupt i e.priority 2 })))

unfoldable pub prioritized : ℕ → (priority : ℕ) → Interrupt → Outcome
prioritized i n e =
    cond (eqb e.priority holding && not (eqb n holding) && eqb (e.bits % 2) 1)
    (arrives i (record { pe = e.pe; server = e.server; priority = n; bits = e.bits / 2 * 2 }))
    (done (effect.Interrupt i n e.bits))
