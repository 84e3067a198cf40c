use Rattle.std.proofs.Common.{rules}
use Rattle.std.specs.Prelude.{IfErr}
use Rattle.model.specs.Ledger.{network_of}
use Rattle.chain_core.specs.Reopening.{IsReopenFault}
use Rattle.chain_core.proofs.ForCallers.{again_of}
use Rattle.flushing.proofs.restart.Restart.core.Goals as goal

pub returns-in_err-made-clause-again : goal.returns-in_err-made-clause-again
returns-in_err-made-clause-again g c =
    let told : IfErr c.from_residual.result (IsReopenFault (network_of c.args.self.genesis g.S.SigScheme.verifies) c.args.self.blocks) = search rules in
    again_of c.args.self.genesis g.S.SigScheme.verifies c.args.self.blocks c.from_residual.result told
