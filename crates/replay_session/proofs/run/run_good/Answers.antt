-- `replay_session::run::run_good` meets its contract. Assumes nothing.
use Rattle.replay_session.proofs.LineLaws as laws
use Rattle.replay_session.proofs.run.run_good.Goals as goal

pub returns-in-Size-clause-ran : goal.returns-in-Size-clause-ran
returns-in-Size-clause-ran c = search laws.ran_size

pub returns-in-Set-clause-ran : goal.returns-in-Set-clause-ran
returns-in-Set-clause-ran c = search laws.ran_set

pub returns-in-Request-clause-ran : goal.returns-in-Request-clause-ran
returns-in-Request-clause-ran c = search laws.ran-request
