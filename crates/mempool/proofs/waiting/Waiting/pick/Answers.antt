use Rattle.std.proofs.Common.{◌≡◌, [], ap, ◌∙◌, map}
use Rattle.std.specs.Arc.{arc_value}
use Rattle.model.specs.Utxo.{Utxo}
use Rattle.mempool.specs.Contents.{Waiting}
use Rattle.utxo_rules.specs.View.{params_of}
use Rattle.mempool.proofs.Offers.{none_picked, more_picked, all_picked}
use Rattle.mempool.proofs.waiting.Waiting.pick.Goals as goal

pub loop-tx-init : goal.loop-tx-init
loop-tx-init g c =
    let opened = c.new-taken.ensures ∙ ap (λ (u : Utxo). record { txs = []; unspent = u }) c.in_ok-try_clone.ensures in
    let rest : map arc_value c.into_iter-tx-iterator.result ≡ c.args.self.now.txs = ap (map arc_value) (c.into_iter-tx-iterator.ensures.into_iter_gives ∙ c.values-tx-items.ensures.rest) ∙ ap (λ (w : Waiting). w.txs) c.self.view_is in
    none_picked g.S.SigScheme.verifies (params_of c.args.params.now) c.args.slot c.args.unspent.now c.args.self.now.txs c.new-taken.result c.into_iter-tx-iterator.result opened rest

pub loop-tx-preserved : goal.loop-tx-preserved
loop-tx-preserved g c = more_picked g.S.SigScheme.verifies (params_of c.args.params.now) c.args.slot c.args.unspent.now c.args.self.now.txs c.loop-tx.taken c.offer.new.self c.in-Some.tx.now c.next.new.self c.loop-tx.tx-iterator c.in-Some.ensures.steps c.loop-tx.invariant c.in_ok-offer.ensures

pub returns : goal.returns
returns g c = all_picked g.S.SigScheme.verifies (params_of c.args.params.now) c.args.slot c.args.unspent.now c.args.self.now.txs c.loop-tx.taken c.loop-tx.tx-iterator c.in-None.ensures.steps.0 c.loop-tx.invariant
