use Rattle.std.specs.Prelude.{OnOk}
use Rattle.std.proofs.Common.{subst}
use Rattle.std.proofs.lemmas.Result.{on_ok_weaker}
use Rattle.utxo_rules.specs.View.{params_of}
use Rattle.utxo_rules.specs.Check.{PassesEarly}
use Rattle.mempool.specs.Contents.{Waiting}
use Rattle.mempool.proofs.waiting.Waiting.judge_early.Goals as goal

pub returns-clause-passed : goal.returns-clause-passed
returns-clause-passed g c =
    subst (λ (w : Waiting). OnOk c.check_early.result (PassesEarly g.S.SigScheme.verifies (params_of c.args.params.now) w.unspent c.args.slot c.args.tx.now)) c.self.view_is
    (on_ok_weaker c.check_early.result (λ passed. passed g.S.SigScheme.verifies) c.check_early.ensures.passed)
