-- `text_fields::Fields::text` meets its contract. Assumes nothing.
use Rattle.text_fields.proofs.FieldsLaws as laws
use Rattle.text_fields.proofs.Fields.text.Goals as goal

pub returns-in-Some : goal.returns-in-Some
returns-in-Some c = laws.text_then c.self.view_is c.in_ok-line.was c.tab_in.ensures c.in-Some.is

pub returns-in-None : goal.returns-in-None
returns-in-None c = laws.text_last c.self.view_is c.in_ok-line.was c.tab_in.ensures c.in-None.is
