-- Laws of reason 1.
--     limits-pes, limits-interrupts       what the tests of N, M and R say of N and of M
--     sized-pes           where nothing is off the table of 01, N is within its limit
--     pes_fit             so N has 16 bits
--     sized_is            reason 1 by the three lists of its tests
-- Assumes nothing.
use Rattle.std.specs.Prelude.{◌≡◌, Bool, true, ◌&&◌, ◌++◌, ◌≤◌}
use Rattle.std.proofs.Math.Path.{ap, sym}
use Rattle.std.proofs.Common.{arith, Fits, w16}
use Rattle.std.proofs.Common.{◌∙◌}
use borrow.Author.Tests.{leb-true}
use Rattle.kinds.specs.Tests.{all}
use Rattle.kinds.proofs.Tests.{all_true, all_append}
use Rattle.kinds.specs.declared.record.Sizes.{Sizes}
use Rattle.kinds.specs.declared.record.Lengths.{Lengths}
use Rattle.profile.specs.Tables.{most_pes, most_interrupts, limits, dma_lengths, other_lengths, sized}

pub limits-pes : (z : Sizes) → all (limits z) ≡ true → z.pes ≤ most_pes
limits-pes z o = leb-true z.pes most_pes (all_true (limits z) 1 o)

pub limits-interrupts : (z : Sizes) → all (limits z) ≡ true → z.interrupts ≤ most_interrupts
limits-interrupts z o = leb-true z.interrupts most_interrupts (all_true (limits z) 2 o)

module _ (z : Sizes) (l : Lengths) where
  pub sized-pes : sized z l ≡ true → z.pes ≤ most_pes
  unfolding sized
  sized-pes o = leb-true z.pes most_pes (all_true (limits z ++ dma_lengths z l ++ other_lengths z l) 1 o)

  pub pes_fit : {b : Bool} → b ≡ sized z l → b ≡ true → Fits w16 z.pes
  pes_fit e o = omega (arith, sized-pes (sym e ∙ o))

  pub sized_is : sized z l ≡ (all (limits z) && all (dma_lengths z l) && all (other_lengths z l))
  unfolding sized
  sized_is =
      all_append (limits z ++ dma_lengths z l) (other_lengths z l)
      ∙ ap (λ (b : Bool). b && all (other_lengths z l)) (all_append (limits z) (dma_lengths z l))
