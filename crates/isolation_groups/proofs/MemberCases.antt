-- Groups as bit vectors, worked out.
--     four, full          a vector with the bits 0, 63, 64 and 255; five words with every bit
--     members_hold        these bits are the members 0, 63, 64 and 255; the numbers beside them are none
--     full_hold           255 is a member where every bit is set, 256 is none
-- Assumes nothing.
use Rattle.std.specs.Prelude.{◌≡◌, refl, true, false, List, [], ◌∷◌, map, ℕ, ◌+◌, ◌-◌, ◌^◌, replicate}
use Rattle.isolation_groups.specs.Member.{member_of}

abbrev four : List ℕ
four = (1 + 2 ^ 63) ∷ 1 ∷ 0 ∷ 2 ^ 63 ∷ []

abbrev full : List ℕ
full = replicate 5 (2 ^ 64 - 1)

pub members_hold : map (member_of four) (0 ∷ 1 ∷ 63 ∷ 64 ∷ 65 ∷ 254 ∷ 255 ∷ 256 ∷ []) ≡ true ∷ false ∷ true ∷ true ∷ false ∷ false ∷ true ∷ false ∷ []
unfolding member_of
members_hold = refl

pub full_hold : map (member_of full) (255 ∷ 256 ∷ []) ≡ true ∷ false ∷ []
unfolding member_of
full_hold = refl
