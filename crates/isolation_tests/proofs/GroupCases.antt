-- Tests and owners as numbers, worked out.
--     flags_hold          a test that holds is 1, another 0
--     owners_hold         PE 255 is 255, nobody is 65,536
--     owners n, operations_hold   an invalidate of PE 3 of 4, by PE and by address, is PE 3's; one of PE 4, one for all and an edit are nobody's, and so is all with 257 PEs
-- Assumes nothing.
use Rattle.std.specs.Prelude.{◌≡◌, refl, true, false, List, [], ◌∷◌, map, ℕ, Ok, Err}
use Rattle.kinds.specs.declared.answer.Reason.TheVariants.{BadFirmware}
use Rattle.kinds.specs.declared.request.Operation.TheVariants.{Edit, Invalidate}
use Rattle.kinds.specs.declared.request.Scope.TheVariants.{All, Pe, Address}
use Rattle.profile.specs.Tables.{named}
use Rattle.isolation_tests.specs.Group.{flag, owner_number, owner_number_in, operation_number_in}

pub flags_hold : (flag true ∷ flag false ∷ []) ≡ 1 ∷ 0 ∷ []
unfolding flag
flags_hold = refl

pub owners_hold : (owner_number (Ok (record { 0 = 255 })) ∷ owner_number (Err BadFirmware) ∷ []) ≡ 255 ∷ 65536 ∷ []
unfolding owner_number
owners_hold = refl

-- the owners of an invalidate of PE 3 and of PE 4, by PE, of PE 3 by address, of one for all, and of an edit, with n PEs
unfoldable pub owners : ℕ → List ℕ
unfolding owner_number owner_number_in operation_number_in named
owners n =
    map (operation_number_in (record { pes = n; interrupts = 0; requesters = 1 }) [] [] [] [])
    (Invalidate (Pe 3) ∷ Invalidate (Pe 4) ∷ Invalidate (Address 3 (record { 0 = 0x1000 })) ∷ Invalidate All ∷ Edit 3 0 ∷ [])

pub operations_hold : (owners 4 ∷ owners 257 ∷ [])
    ≡ (3 ∷ 65536 ∷ 3 ∷ 65536 ∷ 65536 ∷ []) ∷ (65536 ∷ 65536 ∷ 65536 ∷ 65536 ∷ 65536 ∷ []) ∷ []
unfolding owners
operations_hold = refl
