use Rattle.chain_core.specs.Held.{network_held}
use Rattle.scenario.proofs.UtxoLines.{utxo_acted}
use Rattle.scenario.proofs.session.Session.utxo.Goals as goal

pub returns-in-Ok : goal.returns-in-Ok
returns-in-Ok g c = λ s holds.
    utxo_acted (network_held c.args.self.now.core g.S.SigScheme.verifies) s c.utxo-utxo.result.now c.len.result c.coin.result c.fees.result c.new-line.result.items c.print_utxo.new.line.items c.args.self.now holds
    c.utxo-utxo.ensures c.fees.ensures.fees c.len.ensures c.coin.ensures c.new-line.ensures.items c.in-Ok.ensures
