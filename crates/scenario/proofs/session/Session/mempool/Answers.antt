use Rattle.std.proofs.Common.{◌∙◌, ap, ◌++◌}
use Rattle.scenario.specs.Print.{mempool_text}
use Rattle.chain_core.specs.Held.{network_held}
use Rattle.scenario.proofs.SubmissionLines.{mempool_acted}
use Rattle.scenario.proofs.session.Session.mempool.Goals as goal

pub returns-in-Ok : goal.returns-in-Ok
returns-in-Ok g c = λ s holds.
    mempool_acted (network_held c.args.self.now.core g.S.SigScheme.verifies) s c.print_mempool.new.line.items c.args.self.now holds
    (c.in-Ok.ensures s.names holds.names ∙ (ap (λ bs. bs ++ mempool_text s.names.of_txs c.mempool.result.now.waiting.txs) c.new-line.ensures.items ∙ ap (mempool_text s.names.of_txs) c.mempool.ensures))
