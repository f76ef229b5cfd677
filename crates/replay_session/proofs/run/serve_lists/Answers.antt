-- `replay_session::run::serve_lists` meets its contract. Assumes nothing.
use Rattle.replay_session.proofs.RequestLaws.{requested}
use Rattle.replay_session.proofs.run.serve_lists.Goals as goal

pub returns : goal.returns
returns c = search requested
