-- `text_fields::Fields::next` meets its contract. Assumes nothing.
use Rattle.text_fields.proofs.FieldsLaws as laws
use Rattle.text_fields.proofs.Fields.next.Goals as goal

pub returns-in_err-text-clause-value : goal.returns-in_err-text-clause-value
returns-in_err-text-clause-value g c = laws.next_none _ _ (laws.text_bad _ _ c.text.ensures c.ok_or.ensures.value c.in_err-text.was) c.from_residual.ensures.0

pub returns-clause-value : goal.returns-clause-value
returns-clause-value g c = laws.next_some _ _ (laws.text_ok _ c.text.ensures c.ok_or.ensures.value c.in_ok-text.was) c.in_text.ensures c.ok_or-2.ensures.value
