use Rattle.std.proofs.Common.{[], ap, ◌∙◌, subst, sym}
use Rattle.std.specs.Map.{values_of}
use Rattle.model.specs.Utxo.{Utxo}
use Rattle.utxo_rules.specs.View.{params_of}
use Rattle.mempool.specs.Contents.{Waiting}
use Rattle.mempool.proofs.Passing.{IsPartPassed, none_passed, more_passed, next_new, all_passed}
use Rattle.mempool.proofs.waiting.Waiting.resync.Goals as goal

pub loop-tx-init : goal.loop-tx-init
loop-tx-init g c =
    let v = g.S.SigScheme.verifies in
    let params = params_of c.args.params.now in
    let entries = c.self.inside.txs.entries in
    let empty = c.in_ok-kept.ensures ∙ ap (λ (u : Utxo). record { txs = []; unspent = u }) c.in_ok-unspent.ensures in
    let base = none_passed v params c.args.slot c.args.unspent.now c.in_ok-kept.kept entries empty c.self.invariant.ids c.len.ensures.unique in
    subst (IsPartPassed v params c.args.slot c.args.unspent.now c.args.self.now.txs c.in_ok-kept.kept) (sym (c.into_iter-tx-iterator.ensures.into_iter_gives ∙ c.values-tx-items.ensures.rest))
    (subst (λ all. IsPartPassed v params c.args.slot c.args.unspent.now all c.in_ok-kept.kept (values_of entries)) (ap (λ (w : Waiting). w.txs) c.self.view_is) base)

pub keep-requires : goal.keep-requires
keep-requires g c = next_new g.S.SigScheme.verifies (params_of c.args.params.now) c.args.slot c.args.unspent.now c.args.self.now.txs c.loop-tx.kept c.in-Some.tx.now c.next.new.self c.loop-tx.tx-iterator c.in-Some.ensures.steps c.loop-tx.invariant

pub loop-tx-preserved : goal.loop-tx-preserved
loop-tx-preserved g c = more_passed g.S.SigScheme.verifies (params_of c.args.params.now) c.args.slot c.args.unspent.now c.args.self.now.txs c.loop-tx.kept c.keep.new.self c.in-Some.tx.now c.next.new.self c.loop-tx.tx-iterator c.in-Some.ensures.steps c.loop-tx.invariant c.in_ok-keep.ensures

pub returns : goal.returns
returns g c = all_passed g.S.SigScheme.verifies (params_of c.args.params.now) c.args.slot c.args.unspent.now c.args.self.now.txs c.loop-tx.kept c.loop-tx.tx-iterator c.in-None.ensures.steps.0 c.loop-tx.invariant
