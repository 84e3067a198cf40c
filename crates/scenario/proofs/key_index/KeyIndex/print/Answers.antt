use Rattle.std.proofs.Common.{◌≡◌, ◌++◌, ◌∙◌, ℕ, List, [], map, take, ap, refl, subst, sym, append_assoc, append-nil}
use Rattle.std.proofs.lemmas.List.{take_all}
use Rattle.model.specs.Transaction.{Address, Output}
use Rattle.tx.specs.View.{address_of}
use Rattle.script.specs.declared.request.KeyAddress.{KeyAddress}
use Rattle.script.specs.Names.{Named}
use Rattle.script.specs.Line.{OwnedByKey}
use Rattle.script.specs.RequestView.{key_address_of}
use Rattle.scenario.specs.Balances.{outputs_of_address, IsBalanceText}
use Rattle.scenario.specs.Indexes.{AreBalancesText}
use Rattle.scenario.proofs.IndexLines.{balances_more, same_of_address, view_more}
use Rattle.scenario.proofs.key_index.KeyIndex.print.Goals as goal

pub loop-key-init : goal.loop-key-init
loop-key-init c = ([], refl, sym (append-nil c.args.line.now.items))

pub loop-key-preserved : goal.loop-key-preserved
loop-key-preserved c =
    let utxo = c.args.self.now.index.last.tables.outputs in
    let (text, are, behind) = c.loop-key.invariant in
    let key = c.key-item.result in
    let more = c.in_ok-lines.lines.items in
    let address = address_of key.address in
    let outputs : outputs_of_address address c.outputs-outputs.result.now ≡ outputs_of_address address utxo = same_of_address address c.outputs-outputs.result.now utxo c.outputs-outputs.ensures in
    let printed : IsBalanceText (outputs_of_address address c.outputs-outputs.result.now) (OwnedByKey c.deref.result.now) more = c.in_ok-lines.ensures in
    let named : IsBalanceText (outputs_of_address address c.outputs-outputs.result.now) (OwnedByKey key.name.items) more = subst (λ (n : List ℕ). IsBalanceText (outputs_of_address address c.outputs-outputs.result.now) (OwnedByKey n) more) c.deref.ensures.value printed in
    let told : IsBalanceText (outputs_of_address address utxo) (OwnedByKey key.name.items) more = subst (λ (os : List Output). IsBalanceText os (OwnedByKey key.name.items) more) outputs named in
    let keys = map key_address_of (take c.loop-key.key-index c.deref-key-items.result.now) in
    let all = view_more key_address_of c.deref-key-items.result.now c.loop-key.key-index key c.loop-key-test.true c.key-item.is in (
      text ++ more,
      subst (λ (ks : List (Named Address)). AreBalancesText utxo ks (text ++ more)) (sym all) (balances_more utxo keys (key_address_of key) text more are told),
      c.in_ok-extend_from_slice.ensures.items ∙ ap (λ (l : List ℕ). c.loop-key.line.items ++ l) c.deref-in-loop-key.ensures.value ∙ ap (λ (l : List ℕ). l ++ more) behind ∙ append_assoc c.args.line.now.items text more,
    )

pub returns : goal.returns
returns c =
    let utxo = c.args.self.now.index.last.tables.outputs in
    let (text, are, behind) = c.loop-key.invariant in
    let whole : take c.loop-key.key-index c.deref-key-items.result.now ≡ c.args.self.now.keys.items = take_all c.loop-key.key-index c.deref-key-items.result.now c.loop-key-test.false ∙ c.deref-key-items.ensures.value in
    (text, subst (λ (ks : List KeyAddress). AreBalancesText utxo (map key_address_of ks) text) whole are, behind)
