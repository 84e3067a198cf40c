use Rattle.std.proofs.Common.{ℕ, Bool, not, is_some, List, map, refl, sym, ap, ◌∙◌}
use Rattle.std.specs.List.{list_all}
use Rattle.model.specs.Transaction.{Input, Output, transaction_id_of}
use Rattle.model.specs.Utxo.{output_at, pairs_from}
use Rattle.tx.specs.View.{output_of}
use Rattle.utxo_rules.proofs.Pairs.{place_passes, place_fails, places_pass}
use Rattle.utxo_rules.proofs.conditions.has_free_places.Goals as goal

pub loop-index-init : goal.loop-index-init
loop-index-init c = refl

pub returns-then-not-is_free : goal.returns-then-not-is_free
returns-then-not-is_free c =
    let test : Input → Bool = λ input. not (is_some (output_at c.args.utxo.now input)) in
    let outputs = c.outputs-outputs.result.now in
    place_fails c.id-id.result.bytes test outputs c.loop-index.index c.index-outputs-index.result c.loop-index-test.true c.index-outputs-index.is (sym c.if-not-is_free.ensures) c.loop-index.invariant
    ∙ ap (λ (id : List ℕ). list_all (λ p. test p.0) (pairs_from id 0 (map output_of outputs))) c.id-id.ensures.is
    ∙ ap (λ (os : List Output). list_all (λ p. test p.0) (pairs_from (transaction_id_of c.args.tx.now) 0 os)) c.outputs-outputs.ensures

pub loop-index-preserved : goal.loop-index-preserved
loop-index-preserved c =
    let test : Input → Bool = λ input. not (is_some (output_at c.args.utxo.now input)) in
    place_passes c.id-id.result.bytes test c.outputs-outputs.result.now c.loop-index.index c.index-outputs-index.result c.loop-index-test.true c.index-outputs-index.is (sym c.if-not-is_free.ensures) c.loop-index.invariant

pub returns : goal.returns
returns c =
    let test : Input → Bool = λ input. not (is_some (output_at c.args.utxo.now input)) in
    let outputs = c.outputs-outputs.result.now in
    places_pass c.id-id.result.bytes test outputs c.loop-index.index c.loop-index-test.false c.loop-index.invariant
    ∙ ap (λ (id : List ℕ). list_all (λ p. test p.0) (pairs_from id 0 (map output_of outputs))) c.id-id.ensures.is
    ∙ ap (λ (os : List Output). list_all (λ p. test p.0) (pairs_from (transaction_id_of c.args.tx.now) 0 os)) c.outputs-outputs.ensures
