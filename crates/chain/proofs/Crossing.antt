-- A chain and an index may go to another thread, whatever the scheme of signatures.
use denote.RattleType.{RattleType}
use denote.Param.Send.{IsSend, sendable}
use Rattle.std.proofs.Crossing.{crosses}
use Rattle.witness_pool.specs.declared.scheme.SigScheme.{Ghosts}
use Rattle.block.proofs.ForCallers.{CheckedBlock-send}
use Rattle.http_server.proofs.log.Log.TheSendSync as log
use Rattle.chain.specs.contracts.chain.Chain as Chain
use Rattle.chain.specs.contracts.index.HashIndex as HashIndex

pub HashIndex-send : IsSend (HashIndex.the_field).row
HashIndex-send = search (log.the_send, crosses, sendable) depth 20

module _ (S : RattleType) (scheme : Ghosts S.Denot) where
  pub Chain-send : IsSend (Chain.the_field S scheme).row
  Chain-send = let b = CheckedBlock-send S scheme in search (log.the_send, crosses, sendable) depth 20
