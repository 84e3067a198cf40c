use Rattle.std.proofs.Common.{◌++◌, ap, sym, ◌∙◌, map}
use Rattle.model.specs.Cbor.{array_of, text_of}
use Rattle.model.specs.Transaction.{item_of_transaction}
use Rattle.model.specs.Block.{item_of_transactions}
use Rattle.cbor.proofs.ForCallers.{map_twice}
use Rattle.mempool.specs.Contents.{Waiting}
use Rattle.mempool.specs.Taking.{taken_tx}
use Rattle.mempool.proofs.picking.Picked.body_text.Goals as goal

pub returns-clause-text : goal.returns-clause-text
returns-clause-text g c =
    let opened = ap (λ bs. bs ++ text_of (array_of (map (λ x. item_of_transaction (taken_tx x)) c.deref.result.now))) c.in_ok-text.ensures.items in
    let same = ap (λ xs. text_of (array_of (map (λ x. item_of_transaction (taken_tx x)) xs))) c.deref.ensures.value in
    let twice = ap (λ is. text_of (array_of is)) (sym (map_twice item_of_transaction taken_tx c.self.inside.txs.items)) in
    c.in_ok-write_list_array.ensures.ok ∙ (opened ∙ (same ∙ (twice ∙ ap (λ (w : Waiting). text_of (item_of_transactions w.txs)) c.self.view_is)))
