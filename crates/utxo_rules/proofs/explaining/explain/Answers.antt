use Rattle.std.proofs.Common.{Some, subst}
use Rattle.std.specs.Option.{option_map}
use Rattle.model.specs.Transaction.{Transaction}
use Rattle.model.specs.Explaining.{IsDetail}
use Rattle.utxo_rules.specs.View.{params_of}
use Rattle.utxo_rules.specs.Check.{PassesEarly}
use Rattle.utxo_rules.specs.DetailView.{detail_of}
use Rattle.utxo_rules.proofs.Explained.{if_ok}
use Rattle.utxo_rules.proofs.OneDetail.{only_told}
use Rattle.utxo_rules.proofs.explaining.explain.Goals as goal

pub returns-in-Some-clause-told : goal.returns-in-Some-clause-told
returns-in-Some-clause-told g c =
    let verifies = g.S.SigScheme.verifies in
    subst (λ (t : Transaction). IsDetail verifies (params_of c.args.params.now) c.args.utxo.now c.args.slot t (detail_of c.in-Some.detail)) c.tx.ensures (c.in-Some.ensures verifies)

pub returns-in-Some-clause-only : goal.returns-in-Some-clause-only
returns-in-Some-clause-only g c = only_told g.S.SigScheme.verifies (params_of c.args.params.now) c.args.utxo.now c.args.slot c.args.checked.now (Some (detail_of c.in-Some.detail)) (returns-in-Some-clause-told g c)

pub returns-in-None-clause-told : goal.returns-in-None-clause-told
returns-in-None-clause-told g c =
    let verifies = g.S.SigScheme.verifies in
    let params = params_of c.args.params.now in
    let early = subst (PassesEarly verifies params c.args.utxo.now c.args.slot) c.tx.ensures (c.in-None.ensures verifies) in
    if_ok c.explain_late.result (λ found told. told params c.args.slot early) c.explain_late.ensures

pub returns-in-None-clause-only : goal.returns-in-None-clause-only
returns-in-None-clause-only g c =
    if_ok c.explain_late.result (λ found told. only_told g.S.SigScheme.verifies (params_of c.args.params.now) c.args.utxo.now c.args.slot c.args.checked.now (option_map detail_of found) told) (returns-in-None-clause-told g c)
