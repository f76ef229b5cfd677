-- `replay_session::close_line` meets its contract. Assumes nothing.
use Rattle.replay_session.proofs.OutputLaws as laws
use Rattle.replay_session.proofs.close_line.Goals as goal

pub returns-in_err-numbers : goal.returns-in_err-numbers
returns-in_err-numbers c = laws.closed_none _ _ _ _ c.in_err-numbers.was c.from_residual.ensures.0

pub returns-in-Some : goal.returns-in-Some
returns-in-Some c = laws.closed_says _ _ _ _ c.in_ok-numbers.was c.in-Some.is c.put_answer-end.ensures c.after_line.ensures

pub returns-in-None : goal.returns-in-None
returns-in-None c = laws.closed_silent _ _ _ _ c.in_ok-numbers.was c.in-None.is c.after_line-in-None.ensures
