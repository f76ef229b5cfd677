-- `bridge::run::run` meets its contract. The invariant: state, interrupts and answer words are those after the first k requests. Assumes nothing.
use Rattle.std.proofs.Common.{rules, refl}
use Rattle.bridge.proofs.RunLaws as laws
use Rattle.bridge.proofs.run.run.Goals as goal

pub loop-k-init : goal.loop-k-init
loop-k-init c = (refl, search rules, search laws.none_ran)

pub loop-k-preserved : goal.loop-k-preserved
loop-k-preserved c = (
  search rules,
  search rules,
  let n = c.count_of-count in
      laws.one_ran _ _ _ _ _ n.result c.loop-k.k c.loop-k-test.true (laws.requests_fit _ _ n.ensures) (laws.answers_fit _ _ n.ensures) c.loop-k.invariant.0 c.loop-k.invariant.2
      c.request_at-request.ensures c.handle-answer.ensures.handled c.write_answer.ensures,
)

pub returns-clause-ran : goal.returns-clause-ran
returns-clause-ran c = laws.all_ran _ _ _ _ _ c.count_of-count.ensures c.loop-k-test.false c.loop-k.auto.k-end c.loop-k.invariant.2
