-- `cache_sweeps::sweep` meets its contract. The invariant: by each test that the closure is, the turns so far. Assumes nothing.
use mathlib.Core.Path.{refl, ap, sym, ◌∙◌}
use native.Mathlib.Omega.{arith}
use lib.ListN.{length}
use Rattle.kinds.specs.Turns.{turns}
use Rattle.cache_sweeps.specs.Turn.{cleared}
use Rattle.cache_sweeps.proofs.SweepLaws as laws
use Rattle.cache_sweeps.proofs.TurnLaws.{length_cleared}
use Rattle.cache_sweeps.proofs.sweep.Goals as goal
use Rattle.cache_sweeps.proofs.sweep.Goals.{then-is_dropped, else-is_dropped}

pub loop-slot-init : goal.loop-slot-init
loop-slot-init g c = (refl, λ d p. unfold turns in refl)

pub loop-slot-preserved : goal.loop-slot-preserved
loop-slot-preserved g c = elim c.if-is_dropped.branch [
  | then-is_dropped w ↦ (
    ap length (w.cache-is ∙ w.empty.ensures) ∙ length_cleared _ _ _ ∙ c.loop-slot.invariant.0,
    λ d p. laws.turn-next d _ _ (c.loop-slot.invariant.1 d p) (laws.turn_is d _ _ (sym w.if-is_dropped.true ∙ c.is_dropped.ensures d p) (w.cache-is ∙ w.empty.ensures)),
  )
  | else-is_dropped w ↦ (
    ap length w.cache-is ∙ c.loop-slot.invariant.0,
    λ d p. laws.turn-next d _ _ (c.loop-slot.invariant.1 d p) (laws.turn_is d _ _ (sym w.if-is_dropped.false ∙ c.is_dropped.ensures d p) (unfold cleared in w.cache-is)),
  )
]

pub returns : goal.returns
returns g c = λ d p. laws.turn_last d _ _ (c.loop-slot.invariant.1 d p) c.loop-slot.invariant.0 (omega arith)
