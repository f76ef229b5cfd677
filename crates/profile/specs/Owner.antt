-- 01, 'Lent tables', on whom a request belongs to.
--     of_requester n c l r the PE of requester r in the requesters l, c being R and n being N: R or above is unknown, and so is a PE of N or above
--     of_interrupt n c l i the PE of interrupt i in the interrupts l, c being M: below M, its PE word below N
--     of_hit n h          the PE of the window that an address hits
--     owner_in z r w g l q the PE that request q belongs to, or nobody with the refusal that it then gets (3, 10 or 14), by the requesters r, the
--                         windows w, the segments g and the interrupts l. A load or store belongs to the PE of its window, badly formed or not; a
--                         firmware request to the PE that it names, or to the PE of its interrupt. A fence clear names none: it belongs to nobody,
--                         and is obeyed all the same (Step, `unowned`). Words that name no request belong to nobody, and so does a request whose
--                         word is in a table too short to hold it
--     owner f s q         the same of a bridge's tables
-- Assumes nothing.
use Rattle.kinds.specs.Lookup.{Owner, Route}
use Rattle.std.specs.Prelude.{cond, List, ℕ, ltb, Err, Some, None}
use Rattle.kinds.specs.Words.{pe_at}
use Rattle.kinds.specs.declared.answer.Reason.TheVariants.{BadRequest, UnknownRequester, NoWindow, BadFirmware}
use Rattle.kinds.specs.declared.record.Sizes.{Sizes}
use Rattle.kinds.specs.declared.request.Request.{Request}
use Rattle.kinds.specs.declared.request.Request.TheVariants.{Dma, Load, Store, Error, Clear, End, Priority, Fatal, FenceClear, Unnamed}
use Rattle.profile.specs.Tables.{Tables, Live, named}
use Rattle.profile.specs.Msi.{interrupt_in}
use Rattle.profile.specs.Windows.{route}

abbrev pub of_requester : (pes count : ℕ) → List ℕ → ℕ → Owner
of_requester n c l r = cond (ltb r c) (named UnknownRequester n (pe_at l r)) (Err UnknownRequester)

abbrev pub of_interrupt : (pes count : ℕ) → List ℕ → ℕ → Owner
of_interrupt n c l i = cond (ltb i c) (named BadFirmware n (interrupt_in l i).pe) (Err BadFirmware)

abbrev pub of_hit : (pes : ℕ) → Route → Owner
of_hit n (Some h) = named NoWindow n h.pe
of_hit n None = Err NoWindow

unfoldable pub owner_in : Sizes → (requesters windows segments interrupts : List ℕ) → Request → Owner
owner_in z r w g l (Dma q) = of_requester z.pes z.requesters r q.requester
owner_in z r w g l (Load a n) = of_hit z.pes (route w g a)
owner_in z r w g l (Store a n) = of_hit z.pes (route w g a)
owner_in z r w g l (Error q) = of_requester z.pes z.requesters r q
owner_in z r w g l (Clear p c) = named BadFirmware z.pes p
owner_in z r w g l (End i) = of_interrupt z.pes z.interrupts l i
owner_in z r w g l (Priority i n) = of_interrupt z.pes z.interrupts l i
owner_in z r w g l (Fatal q) = of_requester z.pes z.requesters r q
owner_in z r w g l FenceClear = Err BadFirmware
owner_in z r w g l Unnamed = Err BadRequest

abbrev pub owner : Tables → Live → Request → Owner
owner f s q = owner_in f.sizes f.requesters f.windows f.segments s.interrupts q
