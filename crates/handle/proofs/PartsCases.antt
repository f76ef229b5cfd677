-- The parts of one check of each kind, in one table with one statement over it.
--     PartsCase           a check, and its parts: its PE, whether it is an answer, its outcome as far as it is known
--     parts_cases         an answer, an outcome of PE 2, a walk of PE 3, and the fence set
--     parts_hold          THE STATEMENT: each has the parts of its row
-- Assumes nothing.
use Rattle.std.specs.Prelude.{◌≡◌, refl, Bool, true, false, List, [], ◌∷◌, map, ℕ}
use Rattle.kinds.specs.Outcome.{kept, done}
use Rattle.kinds.specs.declared.answer.Answer.TheVariants.{Held, Done}
use Rattle.kinds.specs.declared.number.PeNumber.{PeNumber}
use Rattle.kinds.specs.declared.outcome.Check.{Check}
use Rattle.kinds.specs.declared.outcome.Check.TheVariants.{Kept, Ready, Walk, Fences}
use Rattle.kinds.specs.declared.outcome.Effect.TheVariants.{Keep, Release, Fence}
use Rattle.kinds.specs.declared.outcome.Outcome.{Outcome}
use Rattle.kinds.specs.declared.request.Direction.TheVariants.{Read}
use Rattle.kinds.specs.declared.request.Part.TheVariants.{Dma}
use Rattle.handle.specs.Parts.{pe_of, is_kept, known}

pub record PartsCase : Type 0 where
  pub check : Check
  pub pe : PeNumber
  pub kept : Bool
  pub outcome : Outcome

abbrev has : Check → (pe : ℕ) → Bool → Outcome → PartsCase
has x p b o = record { check = x; pe = record { 0 = p }; kept = b; outcome = o }

unfoldable pub parts_cases : List PartsCase
parts_cases =
    has (Kept (Held 7)) 0 true (kept (Held 7))
    ∷ has (Ready (record { 0 = 2 }) (done (Release Dma))) 2 false (done (Release Dma))
    ∷ has (Walk (record { 0 = 3 }) (record { base = 0x1000; levels = 1; table = 1; page = 1 })
    (record { requester = 9; direction = Read; address = record { 0 = 0x2000 }; length = 4; «data» = 0 })) 3 false (done Keep)
    ∷ has (Fences true) 0 false (done (Fence true))
    ∷ []

pub parts_hold : map (λ c. record { check = c.check; pe = pe_of c.check; kept = is_kept c.check; outcome = known c.check }) parts_cases ≡ parts_cases
unfolding parts_cases
parts_hold = refl
