use Rattle.utxo_rules.specs.View.{params_of}
use Rattle.utxo_rules.proofs.Ends.{refused_early, passed_early}
use Rattle.utxo_rules.proofs.Explained.{is_early}
use Rattle.utxo_rules.proofs.rules.check_early.Goals as goal

pub returns-clause-refused : goal.returns-clause-refused
returns-clause-refused c = refused_early (params_of c.args.params.now) c.args.utxo.now c.args.slot c.args.tx.now c.check_parts.result c.check_parts.ensures.first

pub returns-clause-passed : goal.returns-clause-passed
returns-clause-passed c = passed_early (params_of c.args.params.now) c.args.utxo.now c.args.slot c.args.tx.now c.check_parts.result c.check_parts.ensures.first

pub returns-clause-early : goal.returns-clause-early
returns-clause-early c = is_early (params_of c.args.params.now) c.args.utxo.now c.args.slot c.args.tx.now c.check_parts.result c.check_parts.ensures.first
