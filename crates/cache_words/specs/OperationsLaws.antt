-- Which operations a caller can bring as words.
--     Sendable x          of a DMA the data are below 2 ^ 32; each other operation can be brought
-- The theorems are in proofs/OperationsLaws.antt. Assumes nothing.
use Rattle.std.specs.Prelude.{[], ◌∷◌}
use Rattle.kinds.specs.declared.request.Operation.{Operation}
use Rattle.kinds.specs.declared.request.Operation.TheVariants.{Plain, Edit, Invalidate}
use Rattle.request_words.specs.Layout.{Brought}

-- a DMA that a caller can bring: its data are below 2 ^ 32
abbrev pub Sendable : Operation → Type 0
Sendable (Plain q) = Brought (q ∷ [])
Sendable (Edit k v) = Unit {0}
Sendable (Invalidate x) = Unit {0}
