-- `bridge::cached_run::cached_run` meets its contract. The invariant: what is written and the answer words are those after the first k operations. Assumes nothing.
use Rattle.std.proofs.Common.{rules, refl}
use Rattle.bridge.proofs.CachedLaws as laws
use Rattle.bridge.proofs.RunLaws as run
use Rattle.bridge.proofs.cached_run.cached_run.Goals as goal

pub loop-k-init : goal.loop-k-init
loop-k-init c = (refl, refl, refl, search rules, search laws.none_served)

pub loop-k-preserved : goal.loop-k-preserved
loop-k-preserved c = (
  search rules,
  search rules,
  search rules,
  search rules,
  let n = c.count_of-count in
      laws.one_served _ _ _ _ n.result c.loop-k.k c.loop-k-test.true (run.requests_fit _ _ n.ensures) (run.answers_fit _ _ n.ensures) c.loop-k.invariant.2 c.loop-k.invariant.4
      c.operation_at-operation.ensures c.operate-answer.ensures.operated c.write_answer.ensures,
)

pub returns-clause-ran : goal.returns-clause-ran
returns-clause-ran c = laws.all_served _ _ _ _ c.count_of-count.ensures c.loop-k-test.false c.loop-k.auto.k-end c.loop-k.invariant.4
