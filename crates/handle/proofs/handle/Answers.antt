-- `handle::handle` meets its contract. Assumes nothing.
use Rattle.handle.proofs.HandleLaws as laws
use Rattle.handle.proofs.handle.Goals as goal

pub returns-in-Kept-clause-handled : goal.returns-in-Kept-clause-handled
returns-in-Kept-clause-handled c = search laws.handled_kept

pub returns-in-Ready-clause-handled : goal.returns-in-Ready-clause-handled
returns-in-Ready-clause-handled c = search laws.handled_ready

pub returns-in-Walk-clause-handled : goal.returns-in-Walk-clause-handled
returns-in-Walk-clause-handled c = search laws.handled_walk

pub returns-in-Fences-clause-handled : goal.returns-in-Fences-clause-handled
returns-in-Fences-clause-handled c = search laws.handled_fences
