-- A mempool may go to another thread, whatever the scheme of signatures.
use denote.RattleType.{RattleType}
use denote.Param.Send.{IsSend, sendable}
use Rattle.std.proofs.Crossing.{crosses}
use Rattle.indexmap.proofs.map.IndexMap.TheSendSync as map
use Rattle.utxo_rules.proofs.ForCallers.{Utxo-send}
use Rattle.witness_pool.specs.declared.scheme.SigScheme.{Ghosts}
use Rattle.witness_pool.proofs.ForCallers.{CheckedTx-send, CheckedTx-sync}
use Rattle.mempool.specs.contracts.waiting.Waiting as Waiting
use Rattle.mempool.specs.contracts.mempool.Mempool as Mempool

module _ (S : RattleType) (scheme : Ghosts S.Denot) where
  waiting_send : IsSend (Waiting.the_field S scheme).row
  waiting_send =
      let s = CheckedTx-send S scheme in
      let y = CheckedTx-sync S scheme in
      let u = Utxo-send in
      search (map.the_send, crosses, sendable) depth 20

  pub Mempool-send : IsSend (Mempool.the_field S scheme).row
  Mempool-send = let w = waiting_send in search (crosses, sendable) depth 20
