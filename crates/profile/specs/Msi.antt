-- 01, 'MSI'.
--     interrupt_in l i    the record of interrupt i in the interrupts l; interrupt s i: in what is written
--     stored p i n b l    the interrupts l after PE p wrote priority n and state b of interrupt i
--     holding             255, the priority that holds every MSI; no priority is above it
--     ranged e            server below 2 ^ 24, priority at most 255, state at most 3
--     number32, number64  the number of an MSI: the low five bits of data ORed with address bits 15..4 or 19..4
--     msi_formed d a n    a write (is_write d) of 4 bytes at a multiple of 4
--     presents p b        an arriving MSI is presented: priority below 255 and P = 0. Else it is held
--     arrived p b         2P + Q afterwards: P set where it is presented, Q set where it is held; announced i v p b: the answer, msi or held
--     arrives i e         what an arriving MSI comes to
--     delivered p a i e   an MSI of PE p with number i, whose record is e
--     msi c l p a i ok    an MSI of PE p with number i, of good form or not, in the interrupts l, of which there are c
-- Assumes nothing.
use Rattle.std.specs.Prelude.{Bool, true, false, cond, not, ◌&&◌, List, ℕ, ◌+◌, ◌*◌, ◌/◌, ◌%◌, ◌^◌, leb, ltb, eqb, set}
use Rattle.std.specs.Int.Bits.{bit_or}
use Rattle.kinds.specs.Number.{no_word}
use Rattle.kinds.specs.Outcome.{failed}
use Rattle.kinds.specs.Words.{at, pe_at}
use Rattle.kinds.specs.declared.answer.Answer.{Answer}
use Rattle.kinds.specs.declared.answer.Answer.TheVariants.{Msi, Held}
use Rattle.kinds.specs.declared.answer.Reason.TheVariants.{MsiRefused}
use Rattle.kinds.specs.declared.number.ByteAddress.{ByteAddress}
use Rattle.kinds.specs.declared.number.PeNumber.{PeNumber}
use Rattle.kinds.specs.declared.outcome.Effect.TheVariants as effect
use Rattle.kinds.specs.declared.outcome.Outcome.{Outcome}
use Rattle.kinds.specs.declared.record.Interrupt.{Interrupt}
use Rattle.kinds.specs.declared.request.Direction.{Direction}
use Rattle.kinds.specs.declared.request.Direction.TheVariants.{Read, Write}
use Rattle.profile.specs.Tables.{Live, interrupt_words}

abbrev pub interrupt_in : List ℕ → ℕ → Interrupt
interrupt_in l i = record {
  pe = pe_at l (i * interrupt_words);
  server = at l (i * interrupt_words + 1);
  priority = at l (i * interrupt_words + 2);
  bits = at l (i * interrupt_words + 3);
}

abbrev pub interrupt : Live → ℕ → Interrupt
interrupt s i = interrupt_in s.interrupts i

-- an interrupt is written only by the PE that it belongs to
abbrev pub stored : PeNumber → (i priority bits : ℕ) → List ℕ → List ℕ
stored p i n b l =
    cond (eqb (interrupt_in l i).pe p.0) (set (set l (i * interrupt_words + 2) n) (i * interrupt_words + 3) b) l

abbrev pub holding : ℕ
holding = 255

unfoldable pub ranged : Interrupt → Bool
ranged e = ltb e.server (2 ^ 24) && leb e.priority holding && leb e.bits 3

unfoldable pub number32 : ByteAddress → ℕ → ℕ
number32 a d = bit_or (d % 32) (a.0 / 16 % 2 ^ 12)

unfoldable pub number64 : ByteAddress → ℕ → ℕ
number64 a d = bit_or (d % 32) (a.0 / 16 % 2 ^ 16)

abbrev pub is_write : Direction → Bool
is_write Read = false
is_write Write = true

unfoldable pub msi_formed : Direction → ByteAddress → (length : ℕ) → Bool
msi_formed d a n = is_write d && eqb n 4 && eqb (a.0 % 4) 0

unfoldable pub presents : (priority bits : ℕ) → Bool
presents p b = not (eqb p holding) && ltb b 2

unfoldable pub arrived : (priority bits : ℕ) → ℕ
arrived p b = cond (presents p b) (b + 2) (b / 2 * 2 + 1)

unfoldable pub announced : (i server priority bits : ℕ) → Answer
announced i v p b = cond (presents p b) (Msi i v p) (Held i)

abbrev pub arrives : ℕ → Interrupt → Outcome
arrives i e = record {
  answer = announced i e.server e.priority e.bits;
  effect = effect.Interrupt i e.priority (arrived e.priority e.bits);
}

unfoldable pub delivered : PeNumber → ByteAddress → (i : ℕ) → Interrupt → Outcome
delivered p a i e =
    cond (eqb e.pe p.0) (cond (ranged e) (arrives i e) (failed MsiRefused a 0 no_word)) (failed MsiRefused a 0 no_word)

unfoldable pub msi : (count : ℕ) → List ℕ → PeNumber → ByteAddress → (i : ℕ) → Bool → Outcome
msi c l p a i ok = cond (ok && ltb i c) (delivered p a i (interrupt_in l i)) (failed MsiRefused a 0 no_word)
