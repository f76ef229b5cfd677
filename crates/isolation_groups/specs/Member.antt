-- A group of PEs as a bit vector, as a peer vector is.
--     member_of g n       number n is that of a member: below 256, and bit n mod 64 of word n div 64 of g is set
--     group g             the same as demand 3 has a group: a test of PEs
-- Assumes nothing.
use Rattle.std.specs.Prelude.{Bool, false, cond, List, ℕ, ltb}
use Rattle.kinds.specs.Words.{bit_of}
use Rattle.kinds.specs.declared.number.PeNumber.{PeNumber}
use Rattle.profile.specs.Tables.{most_pes}

unfoldable pub member_of : List ℕ → ℕ → Bool
member_of g n = cond (ltb n most_pes) (bit_of g n) false

abbrev pub group : List ℕ → PeNumber → Bool
group g p = member_of g p.0
