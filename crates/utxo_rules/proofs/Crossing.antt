-- Unspent outputs may go to another thread.
use denote.Param.Send.{IsSend, sendable}
use Rattle.std.proofs.Crossing.{crosses}
use Rattle.persistent_map.proofs.tree.Tree.TheLaws.TheKnot as tree
use Rattle.utxo_rules.specs.contracts.utxo.Utxo as Utxo

pub Utxo-send : IsSend (Utxo.the_field).row
Utxo-send = search (crosses, tree.crosses, sendable) depth 60 fits 20000
