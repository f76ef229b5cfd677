-- `cache_edits::drop_named` meets its contract. Assumes nothing.
use Rattle.cache_edits.proofs.EditLaws as laws
use Rattle.cache_edits.proofs.drop_named.Goals as goal

pub returns-in-Address : goal.returns-in-Address
returns-in-Address c = search laws.page_named
