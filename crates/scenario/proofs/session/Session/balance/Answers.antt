use Rattle.tx.specs.View.{address_of}
use Rattle.script.specs.PartView.{owner_of}
use Rattle.chain_core.specs.Held.{network_held}
use Rattle.scenario.proofs.AnswerLines.{balance_acted}
use Rattle.scenario.proofs.session.Session.balance.Goals as goal

pub returns-in-Ok : goal.returns-in-Ok
returns-in-Ok g c = λ s holds.
    balance_acted (network_held c.args.self.now.core g.S.SigScheme.verifies) s (owner_of c.args.owner) (address_of c.args.address.now) c.utxo.result.now c.in-Ok.lines.items c.args.self.now holds c.utxo.ensures c.in-Ok.ensures
