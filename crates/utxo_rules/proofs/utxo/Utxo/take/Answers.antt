use Rattle.std.proofs.Common.{◌≡◌, Some, IsSome, ap, subst, ◌∙◌}
use Rattle.std.specs.Arc.{arc_value}
use Rattle.std.specs.Option.{option_map}
use Rattle.std.specs.FinMap as finite
use Rattle.model.specs.Transaction.{Input, Output, input_cmp}
use Rattle.model.specs.Utxo.{Utxo}
use Rattle.model.proofs.Results.{on_err}
use Rattle.model.proofs.Unspent.{inputs_total, inputs_same}
use Rattle.tx.specs.View.{input_of}
use Rattle.persistent_map.proofs.ForCallers.{get_of, remove_of}
use Rattle.utxo_rules.proofs.Coins.{taken_counted}
use Rattle.utxo_rules.proofs.utxo.Utxo.take.Goals as goal
use Rattle.utxo_rules.proofs.utxo.Utxo.take.Goals.{in-None, in-Some}

pub overflow_sub-self : goal.overflow_sub-self
overflow_sub-self c =
    (taken_counted c.of-place.result c.self.inside.map c.remove.new.self c.self.inside.coin c.coin_at.result (option_map arc_value c.in_ok-taken.taken)
    c.self.invariant.0 c.self.invariant.1 c.coin_at.ensures c.in_ok-taken.ensures.found c.in_ok-taken.ensures.ok).0

pub invariant_of-self-2 : goal.invariant_of-self-2
invariant_of-self-2 c = (
  c.in_ok-taken.ensures.rise,
  (taken_counted c.of-place.result c.self.inside.map c.remove.new.self c.self.inside.coin c.coin_at.result (option_map arc_value c.in_ok-taken.taken)
      c.self.invariant.0 c.self.invariant.1 c.coin_at.ensures c.in_ok-taken.ensures.found c.in_ok-taken.ensures.ok).1,
)

pub returns-clause-found : goal.returns-clause-found
returns-clause-found c =
    let pair : Output → Input × Output = λ o. (input_of c.args.input.now, o) in
    let found : option_map arc_value c.in_ok-taken.taken ≡ finite.get c.args.self.now (input_of c.args.input.now) =
    c.in_ok-taken.ensures.found ∙ get_of input_cmp c.self.inside.map c.of-place.result c.in_ok-taken.ensures.rose
    ∙ ap (λ (m : Utxo). finite.get m c.of-place.result) c.self.view_is ∙ ap (λ (i : Input). finite.get c.args.self.now i) c.of-place.ensures in
    elim c.match-taken.branch [
      | in-None w ↦ rw w.result-is (ap (option_map pair) (rw w.in-None.is at found))
      | in-Some w ↦
          let there : Some (arc_value w.in-Some.unspent) ≡ finite.get c.args.self.now (input_of c.args.input.now) = rw w.in-Some.is at found in
          rw w.result-is (ap (λ (i : Input). Some (i, arc_value w.in-Some.unspent)) c.of-place.ensures ∙ ap (option_map pair) there)
    ]

pub returns-clause-ok : goal.returns-clause-ok
returns-clause-ok c =
    let call = c.in_ok-taken.ensures in
    let whole : finite.from_sorted {R = input_cmp} c.remove.new.self ≡ finite.remove c.args.self.now (input_of c.args.input.now) =
    ap (finite.from_sorted {R = input_cmp}) call.ok
    ∙ remove_of input_cmp inputs_total inputs_same c.self.inside.map c.of-place.result call.rose
    ∙ ap (λ (m : Utxo). finite.remove m c.of-place.result) c.self.view_is
    ∙ ap (λ (i : Input). finite.remove c.args.self.now i) c.of-place.ensures in
    elim c.match-taken.branch [ in-None w ↦ rw w.result-is whole | in-Some w ↦ rw w.result-is whole ]

pub returns-in_err-taken-clause-there : goal.returns-in_err-taken-clause-there
returns-in_err-taken-clause-there c =
    let same : finite.get c.args.self.now c.of-place.result ≡ finite.get c.args.self.now (input_of c.args.input.now) =
    ap (λ (i : Input). finite.get c.args.self.now i) c.of-place.ensures in
    let there = subst IsSome (get_of input_cmp c.self.inside.map c.of-place.result c.in_err-taken.ensures.rose ∙ ap (λ (m : Utxo). finite.get m c.of-place.result) c.self.view_is ∙ same) c.in_err-taken.ensures.there in
    on_err c.from_residual.result _ there
