-- `cache_handle::maintain` meets its contract. Assumes nothing.
use Rattle.cache_handle.proofs.OperateLaws as laws
use Rattle.cache_handle.proofs.maintain.Goals as goal

pub returns-in-Err : goal.returns-in-Err
returns-in-Err c = search laws.unfit

pub returns-in-Plain : goal.returns-in-Plain
returns-in-Plain c = search laws.nothing_named

pub returns-in-Edit : goal.returns-in-Edit
returns-in-Edit c = search laws.edited

pub returns-in-Invalidate : goal.returns-in-Invalidate
returns-in-Invalidate c = search laws.invalidated
