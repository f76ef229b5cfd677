-- `cache_handle::operate` meets its contract. Assumes nothing.
use Rattle.cache_handle.proofs.OperateLaws as laws
use Rattle.cache_handle.proofs.operate.Goals as goal

pub returns-in-Plain-clause-operated : goal.returns-in-Plain-clause-operated
returns-in-Plain-clause-operated c = search laws.plainly
