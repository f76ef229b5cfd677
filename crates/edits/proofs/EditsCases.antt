-- Edits and invalidates on the bridge without a cache, in numbers.
--     met                 `Case.plain` with PE 2's table at 0x2000, of which page 3 may be read; memory has 2,600 words
--     Row, rows           an operation, its answer, and all that is left; rows_hold: THE STATEMENT over them
--     list_hold           a list: a DMA goes by the word that the edit before it wrote
--     owners_hold         the PE that an invalidate belongs to
--     reached             PE 2's walk can read word 1027, so that an edit of it is its own; refused-free: AN EDIT THAT IS 2 IS NOBODY'S
--     Placed, places      operations on that bridge and their places, PE 2 being the group; places_hold: THE STATEMENT over them
--     below_hold, class_hold, walks_hold  the parts of the test of reach
-- Assumes nothing.
use Rattle.std.specs.Prelude.{◌≡◌, refl, Bool, true, false, List, [], ◌∷◌, map, ℕ, ◌-◌, ◌≤◌, ◌^◌, eqb, length, set, replicate, Ok, Err}
use mathlib.Core.List.Memᴰ
use Rattle.std.proofs.Math.Option.{Option, none, some}
use Rattle.std.proofs.Common.{arith}
use Rattle.kinds.specs.Answer.{refuse}
use Rattle.kinds.specs.Has.{has}
use Rattle.kinds.proofs.Tests.{by_cases}
use Rattle.kinds.specs.declared.answer.Answer.{Answer}
use Rattle.kinds.specs.declared.answer.Answer.TheVariants.{Done}
use Rattle.kinds.specs.declared.answer.Reason.TheVariants.{TableLength, BadRequest, TableWord, BadFirmware}
use Rattle.kinds.specs.declared.number.ByteAddress.{ByteAddress}
use Rattle.kinds.specs.declared.number.PeNumber.{PeNumber}
use Rattle.kinds.specs.declared.request.AddressClass.TheVariants.{Dma, Msi32, Msi64, Unserved}
use Rattle.kinds.specs.declared.request.Operation.{Operation}
use Rattle.kinds.specs.declared.request.Operation.TheVariants.{Plain, Edit, Invalidate}
use Rattle.kinds.specs.declared.request.Request.TheVariants.{Error, Fatal, FenceClear}
use Rattle.kinds.specs.declared.request.Scope.TheVariants as scope
use Rattle.profile.proofs.Case.{state_row, calm, endpoints, fencing, idle, states, plain, empty, words, read, pass, refuse_at}
use Rattle.profile.specs.Fence.{FatalMessage, Cleared}
use Rattle.profile.proofs.Opened.{opened}
use Rattle.profile.specs.Tables.{Tables, Live}
use Rattle.isolation.specs.Isolation.{Place, Own, Other}
use Rattle.isolation.specs.Machine.{replies}
use Rattle.edits.specs.Edits.{Bare, scope_owner, bare_answer, bare_after, owns, bare_machine, event, place_on}
use Rattle.edits.specs.Reach.{is_dma, some_below, reads_at, in_reach}
use Rattle.edits.proofs.ReachLaws.{reads_reach, reach_in}

abbrev pub to : ℕ → ByteAddress
to a = record { 0 = a }

unfoldable pub memory : List ℕ
memory = words 0x2018 0x9001 empty

abbrev pub held : Live → Bare
held s = record { memory = memory; live = s }

abbrev pub met : Bare
met = held idle

-- every PE stopped, and the bridge fenced
abbrev pub shut : Live
shut = fencing 1 (endpoints 4 (state_row 3 0 0)) (2 ∷ 5 ∷ 6 ∷ 0 ∷ [])

-- a state that lacks a word
abbrev pub cut : Live
cut = record { state = replicate 16 0; interrupts = idle.interrupts }

pub record Row : Type 0 where
  pub met : Bare
  pub operation : Operation
  pub answer : Answer
  pub left : Bare

abbrev pub keeps : Live → Operation → Answer → Row
keeps s q a = record { met = held s; operation = q; answer = a; left = held s }

abbrev pub edited : Live → (word value : ℕ) → Row
edited s k v = record { met = held s; operation = Edit k v; answer = Done; left = record { memory = set memory k v; live = s } }

unfoldable pub rows : List Row
rows =
    -- the first word and the last; stopped and fenced; 2; 1 before 2
    edited idle 0 7
    ∷ edited idle 2599 (2 ^ 64 - 1)
    ∷ edited shut 1027 0
    ∷ keeps idle (Edit 2600 7) (refuse BadRequest)
    ∷ keeps cut (Edit 0 7) (refuse TableLength)
    ∷ keeps cut (Edit 2600 7) (refuse TableLength)
    -- an invalidate writes nothing; 14; 1 before 14
    ∷ keeps idle (Invalidate scope.All) Done
    ∷ keeps shut (Invalidate (scope.Pe 3)) Done
    ∷ keeps idle (Invalidate (scope.Address 3 (to 0))) Done
    ∷ keeps idle (Invalidate (scope.Pe 4)) (refuse BadFirmware)
    ∷ keeps idle (Invalidate (scope.Address 4 (to 0))) (refuse BadFirmware)
    ∷ keeps cut (Invalidate scope.All) (refuse TableLength)
    ∷ keeps cut (Invalidate (scope.Pe 4)) (refuse TableLength)
    -- requests
    ∷ keeps idle (Plain (read 5 0x3ABC 4)) (pass 0x9ABC 2 1)
    ∷ keeps cut (Plain (read 5 0x3ABC 4)) (refuse TableLength)
    ∷ record { met = met; operation = Plain (Error 5); answer = Done; left = held (states calm calm (state_row 3 12 5) calm) }
    ∷ []

pub rows_hold : map (λ r. record { met = r.met; operation = r.operation; answer = bare_answer plain r.met r.operation; left = bare_after plain r.met r.operation }) rows ≡ rows
unfolding opened memory rows
rows_hold = refl

-- PE 2 is the group
abbrev pub only2 : PeNumber → Bool
only2 p = eqb p.0 2

pub list_hold : replies (bare_machine only2 plain) met
    (Plain (read 5 0x3ABC 4) ∷ Edit 1027 0x8001 ∷ Plain (read 5 0x3ABC 4) ∷ Invalidate (scope.Pe 2) ∷ Edit 1027 0 ∷ Plain (read 5 0x3ABC 4) ∷ []) ≡
    pass 0x9ABC 2 1 ∷ Done ∷ pass 0x8ABC 2 1 ∷ Done ∷ Done ∷ refuse_at TableWord 1 0x2018 ∷ []
unfolding opened memory
list_hold = refl

pub owners_hold : map (scope_owner 4) (scope.All ∷ scope.Pe 0 ∷ scope.Pe 3 ∷ scope.Pe 4 ∷ scope.Address 3 (to 7) ∷ scope.Address 4 (to 7) ∷ []) ≡
    Err BadFirmware ∷ Ok (record { 0 = 0 }) ∷ Ok (record { 0 = 3 }) ∷ Err BadFirmware ∷ Ok (record { 0 = 3 }) ∷ Err BadFirmware ∷ []
unfolding opened
owners_hold = refl

-- ---- places

pub reached : owns only2 plain met (Edit 1027 7) ≡ true
reached =
    reads_reach (record {
      pe = record { 0 = 2 };
      member = refl;
      below = omega arith;
      address = to 0x3ABC;
      dma = unfold opened in refl;
      word = unfold opened memory in Memᴰ.head refl;
    })

pub refused-free : (G : PeNumber → Bool) (f : Tables) (s : Bare) (k v : ℕ) → length s.memory ≤ k → owns G f s (Edit k v) ≡ false
refused-free G f s k v h = by_cases (in_reach G f s.memory k) (λ o. absurd (let z = reach_in G f s.memory k o in omega arith)) (λ o. o)

pub edit-places : (place_on (bare_machine only2 plain) met (Edit 1027 7) ≡ some (Own (Edit 1027 7))) × (place_on (bare_machine only2 plain) met (Edit 2600 7) ≡ none)
edit-places = (rw reached, rw (refused-free only2 plain met 2600 7 (unfold memory in omega arith)))

pub record Placed : Type 0 where
  pub operation : Operation
  pub place : Option (Place Operation)

abbrev pub owned : Operation → Placed
owned q = record { operation = q; place = some (Own q) }

abbrev pub free : Operation → Placed
free q = record { operation = q; place = none }

unfoldable pub places : List Placed
places =
    owned (Plain (read 5 0x3ABC 4))
    ∷ owned (Plain (Fatal 5))
    ∷ free (Plain (read 1 0x3ABC 4))
    ∷ free (Plain (Error 1))
    ∷ record { operation = Plain (Fatal 1); place = some (Other FatalMessage) }
    ∷ record { operation = Plain FenceClear; place = some (Other Cleared) }
    -- a fatal message that is 3
    ∷ free (Plain (Fatal 8))
    ∷ owned (Invalidate (scope.Pe 2))
    ∷ owned (Invalidate (scope.Address 2 (to 7)))
    ∷ free (Invalidate (scope.Pe 1))
    ∷ free (Invalidate (scope.Address 1 (to 7)))
    ∷ free (Invalidate scope.All)
    ∷ []

pub places_hold : map (λ p. record { operation = p.operation; place = place_on (bare_machine only2 plain) met p.operation }) places ≡ places
unfolding opened memory places
places_hold = refl

-- an invalidate that is 14 is nobody's, though the group has that number; an edit is no event, whatever it is answered
pub free_hold : (owns (λ p. true) plain met (Invalidate (scope.Pe 4)) ∷ owns (λ p. true) plain met (Invalidate (scope.Address 4 (to 0))) ∷ [] ≡ false ∷ false ∷ [])
    × (event Done (Edit 0 0) ∷ event Done (Invalidate scope.All) ∷ [] ≡ none ∷ none ∷ [])
unfolding opened
free_hold = (refl, refl)

-- ---- the parts of the test of reach

pub below_hold : map (some_below (λ i. eqb i 3)) (0 ∷ 3 ∷ 4 ∷ 5 ∷ []) ≡ false ∷ false ∷ true ∷ true ∷ []
unfolding some_below
below_hold = refl

pub class_hold : map is_dma (Dma ∷ Msi32 ∷ Msi64 ∷ Unserved ∷ []) ≡ true ∷ false ∷ false ∷ false ∷ []
class_hold = refl

-- another word, another PE, and an address of the same page of another class
pub walks_hold : reads_at plain memory 1027 2 0x3ABC ∷ reads_at plain memory 1026 2 0x3ABC ∷ reads_at plain memory 1027 1 0x3ABC
    ∷ reads_at plain memory 1027 2 0x1000000000003ABC ∷ [] ≡ true ∷ false ∷ false ∷ false ∷ []
unfolding opened has reads_at memory
walks_hold = refl
