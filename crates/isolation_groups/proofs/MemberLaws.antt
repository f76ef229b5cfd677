-- What membership says of a number.
--     member_below        a member is below 256
-- Assumes nothing.
use Rattle.std.specs.Prelude.{◌≡◌, refl, true, List, ℕ, ◌<◌, ltb}
use Rattle.std.proofs.Common.{ltb-true}
use Rattle.kinds.proofs.Tests.{by_cases, clash}
use Rattle.profile.specs.Tables.{most_pes}
use Rattle.isolation_groups.specs.Member.{member_of}

pub member_below : (g : List ℕ) (n : ℕ) → member_of g n ≡ true → n < most_pes
unfolding member_of
member_below g n h = by_cases (ltb n most_pes) (λ o. ltb-true n most_pes o) (λ o. clash (rw o at h) refl)
