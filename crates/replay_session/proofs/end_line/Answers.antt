-- `replay_session::end_line` meets its contract. Assumes nothing.
use Rattle.replay_session.proofs.EndLaws as laws
use Rattle.replay_session.proofs.end_line.Goals as goal

pub returns-then-has_room-clause-ended : goal.returns-then-has_room-clause-ended
returns-then-has_room-clause-ended c = search laws.ended_ran

pub returns-else-has_room-clause-ended : goal.returns-else-has_room-clause-ended
returns-else-has_room-clause-ended c = search laws.ended_full
