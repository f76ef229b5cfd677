-- `replay_tables::set_in` meets its contract. Assumes nothing.
use Rattle.replay_tables.proofs.SetLaws as laws
use Rattle.replay_tables.proofs.set_in.Goals as goal

pub returns-in-Requesters-clause-set : goal.returns-in-Requesters-clause-set
returns-in-Requesters-clause-set c = search laws.set_requesters

pub returns-in-Entries-clause-set : goal.returns-in-Entries-clause-set
returns-in-Entries-clause-set c = search laws.set_entries

pub returns-in-Memory-clause-set : goal.returns-in-Memory-clause-set
returns-in-Memory-clause-set c = search laws.set_memory

pub returns-in-Peers-clause-set : goal.returns-in-Peers-clause-set
returns-in-Peers-clause-set c = search laws.set_peers

pub returns-in-Interrupts-clause-set : goal.returns-in-Interrupts-clause-set
returns-in-Interrupts-clause-set c = search laws.set_interrupts

pub returns-in-Windows-clause-set : goal.returns-in-Windows-clause-set
returns-in-Windows-clause-set c = search laws.set_windows

pub returns-in-Segments-clause-set : goal.returns-in-Segments-clause-set
returns-in-Segments-clause-set c = search laws.set_segments

pub returns-in-State-clause-set : goal.returns-in-State-clause-set
returns-in-State-clause-set c = search laws.set_state
