-- `decide::pass_checks` meets its contract. Assumes nothing.
use Rattle.decide.proofs.DecideLaws as laws
use Rattle.decide.proofs.pass_checks.Goals as goal

pub returns-in_err-pes : goal.returns-in_err-pes
returns-in_err-pes c = laws.not_settled c.args.tables.now _ _ _ c.pes_by_lengths.ensures _ c.in_err-pes.was c.from_residual.ensures.1

pub returns-then-not-is_formed : goal.returns-then-not-is_formed
returns-then-not-is_formed c = laws.unformed c.args.tables.now _ _ _ c.pes_by_lengths.ensures c.in_ok-pes.was c.is_formed.ensures c.if-not-is_formed.true

pub returns : goal.returns
returns c = laws.asked_on c.args.tables.now _ _ _ c.pes_by_lengths.ensures c.in_ok-pes.was c.is_formed.ensures c.if-not-is_formed.false c.is_fenced.ensures c.ask.ensures
