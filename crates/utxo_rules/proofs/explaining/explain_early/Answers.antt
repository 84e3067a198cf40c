use Rattle.utxo_rules.specs.View.{params_of, reason_of}
use Rattle.utxo_rules.proofs.Explained.{early_found}
use Rattle.utxo_rules.proofs.explaining.explain_early.Goals as goal

pub returns-in-Err : goal.returns-in-Err
returns-in-Err c =
    early_found (params_of c.args.params.now) c.args.utxo.now c.args.slot c.args.tx.now (reason_of c.in-Err.reason) c.early_detail.result c.in-Err.ensures.refused c.early_detail.ensures
