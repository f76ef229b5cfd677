-- `isolation_tests::closed::any_outsider_lists` meets its contract. The invariant: none of the numbers passed is found. Assumes nothing.
use borrow.Author.Rules.{rules}
use Rattle.isolation_groups.proofs.AnyLaws.{any_found, any_next, any-done}
use Rattle.isolation_tests.proofs.closed.any_outsider_lists.Goals as goal

pub returns-then-outsider_lists : goal.returns-then-outsider_lists
returns-then-outsider_lists c = search any_found

pub loop-pe-preserved : goal.loop-pe-preserved
loop-pe-preserved c = search (rules, any_next)

pub returns : goal.returns
returns c = search any-done
