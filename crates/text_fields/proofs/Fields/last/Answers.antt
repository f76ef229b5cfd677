-- `text_fields::Fields::last` meets its contract. Assumes nothing.
use Rattle.text_fields.proofs.FieldsLaws as laws
use Rattle.text_fields.proofs.Fields.last.Goals as goal

pub returns-in_err-value : goal.returns-in_err-value
returns-in_err-value g c = laws.last_bad _ _ c.next.ensures.value c.in_err-value.was c.from_residual.ensures.0

pub returns-in-Some : goal.returns-in-Some
returns-in-Some g c = laws.last_more _ _ c.next.ensures.left c.self.view_is c.in-Some.is

pub returns-in-None : goal.returns-in-None
returns-in-None g c = laws.last_good _ _ c.next.ensures.value c.next.ensures.left c.in_ok-value.was c.self.view_is c.in-None.is
