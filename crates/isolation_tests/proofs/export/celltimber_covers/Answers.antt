-- `isolation_tests::export::celltimber_covers` meets its contract. Assumes nothing.
use Rattle.isolation_tests.proofs.Laws as laws
use Rattle.isolation_tests.proofs.export.celltimber_covers.Goals as goal

pub returns-then-not-is_coverable : goal.returns-then-not-is_coverable
returns-then-not-is_coverable c = search laws.not_covered

pub returns : goal.returns
returns c = search laws.covered
