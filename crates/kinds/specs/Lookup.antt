-- What is found in the tables before a request is answered.
--     Owner               the PE that a request belongs to, or the refusal that nobody's gets
--     Route               the first open window that covers an address, or none; hit k c: one that gives k as its PE, with PCI address c
--     Found               what a walk ends in: the last table word, or why there is none; frame a w: the last word, at a, has content w; forbidden a,
--                         outside a: the word at a forbids, or is outside memory
--     Translated          the system address, or a fault; fault r a: one with reason r, a being the address of the table word that failed, or no word
-- Assumes nothing.
use Rattle.std.specs.Prelude.{ℕ, Option, Some, Result, Ok, Err}
use Rattle.kinds.specs.declared.answer.Reason.{Reason}
use Rattle.kinds.specs.declared.lookup.Fault.{Fault}
use Rattle.kinds.specs.declared.lookup.Frame.{Frame}
use Rattle.kinds.specs.declared.lookup.Hit.{Hit}
use Rattle.kinds.specs.declared.lookup.WalkError.{WalkError}
use Rattle.kinds.specs.declared.lookup.WalkError.TheVariants.{Forbidden, Outside}
use Rattle.kinds.specs.declared.number.ByteAddress.{ByteAddress}
use Rattle.kinds.specs.declared.number.PeNumber.{PeNumber}

abbrev pub Owner : Type 0
Owner = Result PeNumber Reason

abbrev pub Route : Type 0
Route = Option Hit

abbrev pub hit : (pe : ℕ) → (pci : ByteAddress) → Route
hit k c = Some (record { pe = k; pci = c })

abbrev pub Found : Type 0
Found = Result Frame WalkError

abbrev pub frame : (word : ByteAddress) → (content : ℕ) → Found
frame a w = Ok (record { word = a; content = w })

abbrev pub forbidden : (word : ByteAddress) → Found
forbidden a = Err (Forbidden a)

abbrev pub outside : (word : ByteAddress) → Found
outside a = Err (Outside a)

abbrev pub Translated : Type 0
Translated = Result ByteAddress Fault

abbrev pub fault : Reason → (word : ByteAddress) → Translated
fault r a = Err (record { reason = r; word = a })
