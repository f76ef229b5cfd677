-- `isolation_tests::closed::lists_member` meets its contract. The invariant: none of the numbers passed is found. Assumes nothing.
use borrow.Author.Rules.{rules}
use Rattle.isolation_groups.proofs.AnyLaws.{any_found, any_next, any-done}
use Rattle.isolation_tests.proofs.closed.lists_member.Goals as goal

pub returns-then-member_listed : goal.returns-then-member_listed
returns-then-member_listed c = search any_found

pub loop-k-preserved : goal.loop-k-preserved
loop-k-preserved c = search (rules, any_next)

pub returns : goal.returns
returns c = search any-done
