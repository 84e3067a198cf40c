use Rattle.utxo_rules.proofs.Ends.{accepted_late, refused_late}
use Rattle.utxo_rules.proofs.rules.check_late.Goals as goal

pub returns-clause-accepted : goal.returns-clause-accepted
returns-clause-accepted g c = accepted_late g.S.SigScheme.verifies c.args.utxo.now c.args.checked.now c.check_spending.result c.check_spending.ensures

pub returns-clause-refused : goal.returns-clause-refused
returns-clause-refused g c = refused_late g.S.SigScheme.verifies c.args.utxo.now c.args.checked.now c.check_spending.result c.check_spending.ensures
