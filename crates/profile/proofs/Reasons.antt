-- Every answer, every reason and both records, each neighbouring pair of checks, and the limits of each rule, on concrete bridges: one table with one
-- statement over it. The rows stand by kind of request in DmaCases, WalkCases, InstalledCases, MsiCases, AccessCases, FreezeCases and
-- FenceCases; whom a request belongs to is the table of OwnerCases.
--     reasons             all of them
--     reasons_hold        THE STATEMENT: the definition gives each row's answer, and leaves what the row says
-- Assumes nothing.
use Rattle.std.specs.Prelude.{◌≡◌, refl, List, ◌++◌, map}
use Rattle.profile.proofs.Case.{Case, given, stated}
use Rattle.profile.proofs.DmaCases.{dma_cases}
use Rattle.profile.proofs.WalkCases.{walk_cases}
use Rattle.profile.proofs.InstalledCases.{installed_cases}
use Rattle.profile.proofs.MsiCases.{msi_cases, last_interrupts}
use Rattle.profile.proofs.AccessCases.{access_cases}
use Rattle.profile.proofs.FenceCases.{fence_cases}
use Rattle.profile.proofs.FreezeCases.{freeze_cases}

-- the largest table is computed last
unfoldable pub reasons : List Case
unfolding dma_cases walk_cases installed_cases msi_cases access_cases freeze_cases fence_cases last_interrupts
reasons = dma_cases ++ walk_cases ++ installed_cases ++ msi_cases ++ access_cases ++ freeze_cases ++ fence_cases ++ last_interrupts

pub reasons_hold : map given reasons ≡ map stated reasons
unfolding given stated reasons
reasons_hold = refl
