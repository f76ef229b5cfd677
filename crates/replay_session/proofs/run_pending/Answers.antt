-- `replay_session::run_pending` meets its contract. Assumes nothing.
use Rattle.replay_session.proofs.EndLaws as laws
use Rattle.replay_session.proofs.run_pending.Goals as goal

pub close_line-requires : goal.close_line-requires
close_line-requires c = c.requires

pub returns-clause-ran : goal.returns-clause-ran
returns-clause-ran c = search laws.ran_pending
