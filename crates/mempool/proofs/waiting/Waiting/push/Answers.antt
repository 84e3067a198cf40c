use Rattle.std.proofs.Common.{ap, ◌∙◌}
use Rattle.std.specs.Arc.{arc_value}
use Rattle.model.specs.Transaction.{transaction_id_of, size_of}
use Rattle.model.specs.Utxo.{utxo_after}
use Rattle.mempool.specs.Contents.{Waiting}
use Rattle.mempool.proofs.Ids.{pushed_txs, pushed_ids, pushed_bytes}
use Rattle.mempool.proofs.waiting.Waiting.push.Goals as goal

-- each transaction stands at its identifier still
pub invariant_of-self-2 : goal.invariant_of-self-2
invariant_of-self-2 g c = record {
  ids = pushed_ids c.self.inside c.args.self.now c.id-id.result c.self.view_is c.self.invariant c.args.tx c.insert.new.self.entries (c.id-id.ensures.is ∙ ap transaction_id_of (c.tx-3.ensures ∙ c.deref-3.ensures)) c.requires c.in_ok-insert.ensures.entries;
  bytes = pushed_bytes c.self.inside c.args.self.now c.id-id.result c.self.view_is c.self.invariant c.args.tx c.insert.new.self.entries (c.id-id.ensures.is ∙ ap transaction_id_of (c.tx-3.ensures ∙ c.deref-3.ensures)) c.requires c.in_ok-insert.ensures.entries c.size.result c.in-Some.bytes (c.size.ensures ∙ ap size_of (c.tx.ensures ∙ c.deref.ensures)) c.in-Some.ensures.1;
}

pub returns-clause-ok : goal.returns-clause-ok
returns-clause-ok g c =
    let txs = pushed_txs c.self.inside c.args.self.now c.id-id.result c.self.view_is c.self.invariant c.args.tx c.insert.new.self.entries (c.id-id.ensures.is ∙ ap transaction_id_of (c.tx-3.ensures ∙ c.deref-3.ensures)) c.requires c.in_ok-insert.ensures.entries in
    let unspent = c.in_ok-apply.ensures.ok ∙ ap (λ u. utxo_after u c.tx-2.result.now) c.in_ok-after.ensures ∙ ap (utxo_after c.self.inside.unspent) (c.tx-2.ensures ∙ c.deref-2.ensures)
    ∙ ap (λ (v : Waiting). utxo_after v.unspent (arc_value c.args.tx)) c.self.view_is in
    λ i. record { txs = txs i; unspent = unspent i }
