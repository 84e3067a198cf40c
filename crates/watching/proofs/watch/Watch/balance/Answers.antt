use Rattle.std.proofs.Common.{◌≡◌, List, length, sym, ap, ◌∙◌}
use Rattle.std.specs.FinMap as finite
use Rattle.std.proofs.lemmas.List.{length-map}
use Rattle.model.specs.Transaction.{Input, Output}
use Rattle.tx.specs.View.{address_of}
use Rattle.utxo_rules.specs.Entries.{pairs_of}
use Rattle.watching.specs.Balances.{outputs_with}
use Rattle.watching.proofs.Owning.{ok_map}
use Rattle.watching.proofs.watch.Watch.balance.Goals as goal

pub returns-clause-counted : goal.returns-clause-counted
returns-clause-counted c =
    let all = c.args.self.now.last.tables.outputs in
    let held = c.outputs.result.now in
    let many : finite.len held ≡ length (outputs_with (address_of c.args.address.now) all) =
    finite.len-entries held ∙ ap (λ (ps : List (Input × Output)). length ps) c.outputs.ensures
    ∙ sym (length-map (pairs_of (address_of c.args.address.now) (finite.entries all)) (λ (p : Input × Output). p.1)) in
    ok_map c.balance.result (λ totals. totals.values ≡ finite.len held) (λ totals. totals.values ≡ length (outputs_with (address_of c.args.address.now) all)) (λ totals is. is ∙ many) c.balance.ensures.counted
