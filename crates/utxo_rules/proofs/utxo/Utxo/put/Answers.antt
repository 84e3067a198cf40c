use Rattle.std.proofs.Common.{ap, ◌∙◌}
use Rattle.std.specs.Arc.{arc_value}
use Rattle.std.specs.Option.{option_map}
use Rattle.std.specs.FinMap as finite
use Rattle.model.specs.Transaction.{input_cmp}
use Rattle.model.specs.Utxo.{Utxo}
use Rattle.model.proofs.Unspent.{inputs_total}
use Rattle.persistent_map.proofs.ForCallers.{insert_of}
use Rattle.utxo_rules.proofs.Coins.{put_counted}
use Rattle.utxo_rules.proofs.utxo.Utxo.put.Goals as goal

pub overflow_sub-self : goal.overflow_sub-self
overflow_sub-self c =
    (put_counted c.args.place (arc_value c.args.unspent) c.self.inside.map c.insert.new.self c.self.inside.coin c.coin_of.result c.in-Some.more c.coin_at.result (option_map arc_value c.in_ok-old.old)
    c.self.invariant.0 c.self.invariant.1 c.coin_of.ensures c.in-Some.ensures.1 c.coin_at.ensures c.in_ok-old.ensures.found c.in_ok-old.ensures.ok).0

pub invariant_of-self-2 : goal.invariant_of-self-2
invariant_of-self-2 c = (
  c.in_ok-old.ensures.rise,
  (put_counted c.args.place (arc_value c.args.unspent) c.self.inside.map c.insert.new.self c.self.inside.coin c.coin_of.result c.in-Some.more c.coin_at.result (option_map arc_value c.in_ok-old.old)
      c.self.invariant.0 c.self.invariant.1 c.coin_of.ensures c.in-Some.ensures.1 c.coin_at.ensures c.in_ok-old.ensures.found c.in_ok-old.ensures.ok).1,
)

pub returns-clause-ok : goal.returns-clause-ok
returns-clause-ok c =
    let call = c.in_ok-old.ensures in
    let kept = arc_value c.args.unspent in
    ap (finite.from_sorted {R = input_cmp}) call.ok
    ∙ insert_of input_cmp inputs_total c.self.inside.map c.args.place kept call.rose
    ∙ ap (λ (m : Utxo). finite.insert m c.args.place kept) c.self.view_is
