-- `text_fields::name::Table::in_text` meets its contract. Assumes nothing.
use Rattle.replay_text.specs.Field.{is}
use Rattle.replay_text.specs.Word.{find}
use Rattle.text_fields.proofs.NameLaws as laws
use Rattle.text_fields.proofs.name.TableFieldValue.in_text.Goals as goal

pub returns-then-same-2 : goal.returns-then-same-2
unfolding find is
returns-then-same-2 c = search laws.named

pub returns-then-same-3 : goal.returns-then-same-3
unfolding find is
returns-then-same-3 c = search laws.named

pub returns-then-same-4 : goal.returns-then-same-4
unfolding find is
returns-then-same-4 c = search laws.named

pub returns-then-same-5 : goal.returns-then-same-5
unfolding find is
returns-then-same-5 c = search laws.named

pub returns-then-same-6 : goal.returns-then-same-6
unfolding find is
returns-then-same-6 c = search laws.named

pub returns-then-same-7 : goal.returns-then-same-7
unfolding find is
returns-then-same-7 c = search laws.named

pub returns-then-same-8 : goal.returns-then-same-8
unfolding find is
returns-then-same-8 c = search laws.named

pub returns-else-same-8 : goal.returns-else-same-8
returns-else-same-8 c = search laws.unnamed depth 12
