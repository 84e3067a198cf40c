use Rattle.std.proofs.Common.{[], ◌∷◌, ◌+◌, ◌++◌, ap, sym, subst, ◌∙◌, rules, map}
use Rattle.std.specs.Arc.{arc_value}
use Rattle.std.proofs.lemmas.List.{map-append}
use Rattle.model.specs.Transaction.{size_of}
use Rattle.model.specs.Utxo.{utxo_after}
use Rattle.mempool.specs.Contents.{Waiting}
use Rattle.mempool.specs.Taking.{taken_tx}
use Rattle.mempool.specs.Picking.{AreMeasured, IsRoomFor}
use Rattle.mempool.proofs.Offers.{one_measured, few_enough}
use Rattle.mempool.proofs.picking.Picked.take.Goals as goal

pub overflow_add-size : goal.overflow_add-size
overflow_add-size g c =
    let view = ap (λ (w : Waiting). w.txs) c.self.view_is in
    let few = few_enough (map taken_tx c.self.inside.txs.items) c.self.inside.size (arc_value c.args.tx) c.size.result c.self.invariant (subst (λ txs. IsRoomFor txs (arc_value c.args.tx)) (sym view) c.requires) (c.size.ensures ∙ ap size_of (c.tx.ensures ∙ c.deref.ensures)) in
    search (rules, few)

pub invariant_of-self-in_err-push : goal.invariant_of-self-in_err-push
invariant_of-self-in_err-push g c = subst (λ xs. AreMeasured (map taken_tx xs) c.self.inside.size) (sym c.in_err-push.ensures.items) c.self.invariant

pub invariant_of-self-2 : goal.invariant_of-self-2
invariant_of-self-2 g c =
    let view = ap (λ (w : Waiting). w.txs) c.self.view_is in
    let after = ap (map taken_tx) c.in_ok-push.ensures.items ∙ map-append taken_tx c.self.inside.txs.items (record { tx = c.args.tx } ∷ []) in
    subst (λ txs. AreMeasured txs (c.self.inside.size + c.size.result)) (sym after)
    (one_measured (map taken_tx c.self.inside.txs.items) c.self.inside.size (arc_value c.args.tx) c.size.result c.self.invariant (subst (λ txs. IsRoomFor txs (arc_value c.args.tx)) (sym view) c.requires) (c.size.ensures ∙ ap size_of (c.tx.ensures ∙ c.deref.ensures)))

pub returns : goal.returns
returns g c =
    let view = ap (λ (w : Waiting). w.txs) c.self.view_is in
    let after = ap (map taken_tx) c.in_ok-push.ensures.items ∙ map-append taken_tx c.self.inside.txs.items (record { tx = c.args.tx } ∷ []) in
    let txs = after ∙ ap (λ ts. ts ++ arc_value c.args.tx ∷ []) view in
    let unspent = c.in_ok-apply.ensures.ok ∙ ap (utxo_after c.self.inside.unspent) (c.tx-2.ensures ∙ c.deref-2.ensures) ∙ ap (λ (w : Waiting). utxo_after w.unspent (arc_value c.args.tx)) c.self.view_is in
    λ i. record { txs = txs i; unspent = unspent i }
