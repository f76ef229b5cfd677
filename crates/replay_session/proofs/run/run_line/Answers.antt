-- `replay_session::run::run_line` meets its contract. Assumes nothing.
use Rattle.replay_session.proofs.LineLaws as laws
use Rattle.replay_session.proofs.run.run_line.Goals as goal

pub returns-in-Err-clause-ran : goal.returns-in-Err-clause-ran
returns-in-Err-clause-ran c = search laws.ran-bad
