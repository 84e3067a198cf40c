use Rattle.std.proofs.Common.{ℕ, Bool, not, is_some, List, map, refl, sym, ap, subst, ◌∙◌, arith}
use Rattle.std.specs.List.{list_all}
use Rattle.model.specs.Transaction.{Input, Output, transaction_id_of}
use Rattle.model.specs.Utxo.{output_at, place, pairs_from}
use Rattle.tx.specs.View.{output_of}
use Rattle.model.specs.Explaining.{IsFailingAt}
use Rattle.utxo_rules.proofs.Finding.{seen_at, seen_length, new_pair_at, pairs_count_as, next_passes_at, all_pass_before}
use Rattle.utxo_rules.proofs.firsts.taken_place.Goals as goal

pub returns-then-not-is_free : goal.returns-then-not-is_free
returns-then-not-is_free c = λ verifies params slot.
    let i = c.loop-index.index in
    let o = output_of c.index-outputs-index.result in
    let test : Input × Output → Bool = λ p. not (is_some (output_at c.args.utxo.now p.0)) in
    let id = c.id-id.result.bytes in
    let outputs = map output_of c.outputs-outputs.result.now in
    let there = new_pair_at id outputs i o (seen_at output_of c.outputs-outputs.result.now i c.index-outputs-index.result c.loop-index-test.true c.index-outputs-index.is) in
    let first : IsFailingAt test (pairs_from id 0 outputs) i (place id i, o) = record { there = there; fails = sym c.if-not-is_free.ensures; first = c.loop-index.invariant } in
    let of_id = subst (λ (is : List ℕ). IsFailingAt test (pairs_from is 0 outputs) i (place id i, o)) c.id-id.ensures.is first in
    (refl, ((place id i, o), subst (λ (os : List Output). IsFailingAt test (pairs_from (transaction_id_of c.args.tx.now) 0 os) i (place id i, o)) c.outputs-outputs.ensures of_id))

pub loop-index-preserved : goal.loop-index-preserved
loop-index-preserved c =
    let i = c.loop-index.index in
    let o = output_of c.index-outputs-index.result in
    let test : Input × Output → Bool = λ p. not (is_some (output_at c.args.utxo.now p.0)) in
    let id = c.id-id.result.bytes in
    let outputs = map output_of c.outputs-outputs.result.now in
    let there = new_pair_at id outputs i o (seen_at output_of c.outputs-outputs.result.now i c.index-outputs-index.result c.loop-index-test.true c.index-outputs-index.is) in
    next_passes_at test (pairs_from id 0 outputs) i (place id i, o) there (sym c.if-not-is_free.ensures) c.loop-index.invariant

pub returns : goal.returns
returns c = λ verifies params slot.
    let test : Input × Output → Bool = λ p. not (is_some (output_at c.args.utxo.now p.0)) in
    let id = c.id-id.result.bytes in
    let outputs = map output_of c.outputs-outputs.result.now in
    let count = pairs_count_as id 0 outputs in
    let seen = seen_length output_of c.outputs-outputs.result.now in
    let whole = all_pass_before test (pairs_from id 0 outputs) c.loop-index.index (omega (arith, count, seen, c.loop-index-test.false)) c.loop-index.invariant in
    ap (λ (os : List Output). list_all test (pairs_from (transaction_id_of c.args.tx.now) 0 os)) (sym c.outputs-outputs.ensures)
    ∙ ap (λ (is : List ℕ). list_all test (pairs_from is 0 outputs)) (sym c.id-id.ensures.is) ∙ whole
