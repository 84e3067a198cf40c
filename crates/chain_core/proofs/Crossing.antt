-- What a core holds and what it answers may go to another thread, whatever the scheme of signatures. A type whole, as it
-- has its parts, since a `search` that goes down through them runs out of steps.
use denote.RattleType.{RattleType}
use denote.Param.Send.{IsSend, sendable}
use Rattle.std.proofs.Crossing.{crosses}
use Rattle.std.proofs.collections.BTreeMap.TheSendSync as map
use Rattle.std.proofs.collections.BTreeSet.TheSendSync as set
use Rattle.std.proofs.collections.LinkedList.TheSendSync as list
use Rattle.utxo_rules.proofs.ForCallers.{Utxo-send}
use Rattle.mempool.proofs.ForCallers.{Mempool-send}
use Rattle.mempool.proofs.reply.SubmitReply.TheSendSync as submitted
use Rattle.utxo_rules.proofs.params.Params.TheSendSync as params
use Rattle.genesis.proofs.genesis.Genesis.TheSendSync as genesis
use Rattle.followers.proofs.followers.Followers.TheSendSync as followers
use Rattle.block.proofs.tip.Tip.TheSendSync as tip
use Rattle.block.proofs.block.Block.TheSendSync as block
use Rattle.utxo_rules.specs.contracts.diff.Diff as Diff
use Rattle.ledger.specs.contracts.ledger_state.LedgerState as LedgerState
use Rattle.ledger.specs.contracts.block_diff.BlockDiff as BlockDiff
use Rattle.ledgerdb.specs.contracts.ledger_db.LedgerDb as LedgerDb
use Rattle.witness_pool.specs.declared.scheme.SigScheme.{Ghosts}
use Rattle.block.proofs.ForCallers.{CheckedBlock-send}
use Rattle.chain.proofs.ForCallers.{Chain-send, HashIndex-send}
use Rattle.blockstore.specs.contracts.live_block.LiveBlock as LiveBlock
use Rattle.blockstore.specs.contracts.stored_block.StoredBlock as StoredBlock
use Rattle.blockstore.specs.contracts.shelf.Shelf as Shelf
use Rattle.blockstore.specs.contracts.reach.Reach as Reach
use Rattle.blockstore.specs.contracts.store.BlockStore as BlockStore
use Rattle.chain_core.specs.contracts.chain_db.ChainDb as ChainDb
use Rattle.chain_core.specs.contracts.node_core.Core as Core
use Rattle.chain_core.specs.contracts.follower.Instruction as Instruction
use Rattle.chain_core.specs.contracts.event.Reply as Reply

state_send : IsSend (LedgerState.the_field).row
state_send =
    let u = Utxo-send in
    let p = params.the_field_send in
    let t = tip.the_field_send in
    search (crosses, sendable) depth 20

diff_send : IsSend (Diff.the_field).row
diff_send = search (crosses, sendable) depth 60 fits 20000

block_diff_send : IsSend (BlockDiff.the_field).row
block_diff_send =
    let d = diff_send in
    let t = tip.the_field_send in
    search (crosses, sendable) depth 20

db_send : IsSend (LedgerDb.the_field).row
db_send =
    let l = state_send in
    let d = block_diff_send in
    search (list.the_send, crosses, sendable) depth 20

reach_send : IsSend (Reach.the_field).row
reach_send = search (map.the_send, crosses, sendable) depth 20

module _ (S : RattleType) (scheme : Ghosts S.Denot) where
  live_send : IsSend (LiveBlock.the_field S scheme).row
  live_send =
      let b = CheckedBlock-send S scheme in
      let t = block.the_send in
      search (crosses, sendable) depth 20

  stored_send : IsSend (StoredBlock.the_field S scheme).row
  stored_send = let b = live_send in search (crosses, sendable) depth 20

  shelf_send : IsSend (Shelf.the_field S scheme).row
  shelf_send = let s = stored_send in search (map.the_send, set.the_send, crosses, sendable) depth 20

  store_send : IsSend (BlockStore.the_field S scheme).row
  store_send =
      let s = shelf_send in
      let t = tip.the_field_send in
      let r = reach_send in
      search (crosses, sendable) depth 20

  chain_db_send : IsSend (ChainDb.the_field S scheme).row
  chain_db_send =
      let c = Chain-send S scheme in
      let i = HashIndex-send in
      let s = store_send in
      let d = db_send in
      let m = Mempool-send S scheme in
      search (crosses, sendable) depth 20

  pub Core-send : IsSend (Core.the_field S scheme).row
  Core-send =
      let b = CheckedBlock-send S scheme in
      let d = chain_db_send in
      let g = genesis.the_send in
      let f = followers.the_send in
      search (crosses, sendable) depth 20

  instruction_send : IsSend (Instruction.the_field S scheme).row
  instruction_send = let b = CheckedBlock-send S scheme in search (crosses, sendable) depth 20

  pub Reply-send : IsSend (Reply.the_field S scheme).row
  Reply-send =
      let i = instruction_send in
      let s = submitted.the_field_send in
      search (crosses, sendable) depth 40 fits 20000
