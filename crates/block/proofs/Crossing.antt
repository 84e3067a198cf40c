-- Blocks may cross threads, whatever the scheme of their signatures. A type whole, as it has its parts, since a `search`
-- that goes down through them runs out of steps.
use denote.RattleType.{RattleType}
use denote.Param.Send.{IsSend, IsSync, sendable}
use Rattle.std.proofs.Crossing.{crosses}
use Rattle.witness_pool.specs.declared.scheme.SigScheme.{Ghosts}
use Rattle.witness_pool.proofs.ForCallers.{CheckedTx-send, CheckedTx-sync}
use Rattle.block.proofs.block.Block.TheSendSync as block
use Rattle.block.specs.contracts.checked_block.CheckedBlock as CheckedBlock
use Rattle.block.specs.contracts.seen.Seen as Seen

module _ (S : RattleType) (scheme : Ghosts S.Denot) where
  pub CheckedBlock-send : IsSend (CheckedBlock.the_field S scheme).row
  CheckedBlock-send =
      let t = CheckedTx-send S scheme in
      let y = CheckedTx-sync S scheme in
      let b = block.the_send in
      search (crosses, sendable) depth 20

  pub CheckedBlock-sync : IsSync (CheckedBlock.the_field S scheme).row
  CheckedBlock-sync =
      let t = CheckedTx-send S scheme in
      let y = CheckedTx-sync S scheme in
      let b = block.the_sync in
      search (crosses, sendable) depth 20

  pub Seen-send : IsSend (Seen.the_field S scheme).row
  Seen-send = let b = CheckedBlock-send in search (crosses, sendable) depth 20
