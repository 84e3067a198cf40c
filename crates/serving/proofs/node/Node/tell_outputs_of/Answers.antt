use Rattle.std.proofs.Common.{List, map, ap, ◌∙◌}
use Rattle.model.specs.Utxo.{Utxo}
use Rattle.serving.specs.declared.unspent.Unspent.{Unspent}
use Rattle.serving.specs.UtxoTelling.{pairs_of, unspent_of}
use Rattle.serving.specs.UnspentView.{unspent_view}
use Rattle.serving.proofs.Telling.{asked_so, looked, replies_so}
use Rattle.serving.proofs.node.Node.tell_outputs_of.Goals as goal

pub returns-in-Ok-clause-ok : goal.returns-in-Ok-clause-ok
returns-in-Ok-clause-ok g c =
    let asked = c.in_ok-utxo.ensures.utxo in
    let found = ap (λ (us : List Unspent). map unspent_view us) c.deref.ensures.value ∙ c.in-Ok.ensures in
    replies_so c.tell_unspent.ensures
    (λ outcome told. record {
      unspent = map unspent_view c.deref.result.now;
      told = told;
      so = asked_so asked (λ s h. (h.0, h.1, found ∙ ap (λ (utxo : Utxo). map unspent_of (pairs_of utxo (map (λ address. address.items) c.args.addresses.now))) h.2));
    }) (λ _none. looked asked)
