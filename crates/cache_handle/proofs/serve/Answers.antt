-- `cache_handle::serve` meets its contract. Assumes nothing.
use Rattle.cache_handle.proofs.OperateLaws as laws
use Rattle.cache_handle.proofs.serve.Goals as goal

pub returns-in-Kept-clause-served : goal.returns-in-Kept-clause-served
returns-in-Kept-clause-served c = search laws.served_kept

pub returns-in-Ready-clause-served : goal.returns-in-Ready-clause-served
returns-in-Ready-clause-served c = search laws.served_ready

pub returns-in-Walk-clause-served : goal.returns-in-Walk-clause-served
returns-in-Walk-clause-served c = search laws.served_walk

pub returns-in-Fences-clause-served : goal.returns-in-Fences-clause-served
returns-in-Fences-clause-served c = search laws.served_fences
