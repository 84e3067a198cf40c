-- Transactions with their verdicts may cross threads, whatever the scheme of their signatures. A type whole, as it has
-- its parts, since a `search` that goes down through them runs out of steps.
use denote.RattleType.{RattleType}
use denote.Param.Send.{IsSend, IsSync, sendable}
use Rattle.std.proofs.Crossing.{crosses}
use Rattle.timelock.proofs.timelock.Timelocks.TheLaws.TheKnot as timelocks
use Rattle.timelock.specs.contracts.script.Script as Script
use Rattle.tx.proofs.body.Body.TheSendSync as body
use Rattle.tx.specs.contracts.tx.Tx as Tx
use Rattle.witness_pool.specs.declared.scheme.SigScheme.{Ghosts}
use Rattle.witness_pool.specs.contracts.checked_tx.CheckedTx as CheckedTx

script_send : IsSend (Script.the_field).row
script_send = search (crosses, timelocks.crosses, sendable) depth 60 fits 20000

script_sync : IsSync (Script.the_field).row
script_sync = search (crosses, timelocks.crosses, sendable) depth 60 fits 20000

tx_send : IsSend (Tx.the_field).row
tx_send = let s = script_send in let b = body.the_field_send in search (crosses, sendable) depth 20

tx_sync : IsSync (Tx.the_field).row
tx_sync = let y = script_sync in let b = body.the_field_sync in search (crosses, sendable) depth 20

module _ (S : RattleType) (scheme : Ghosts S.Denot) where
  pub CheckedTx-send : IsSend (CheckedTx.the_field S scheme).row
  CheckedTx-send = let t = tx_send in search (crosses, sendable) depth 20

  pub CheckedTx-sync : IsSync (CheckedTx.the_field S scheme).row
  CheckedTx-sync = let t = tx_sync in search (crosses, sendable) depth 20
