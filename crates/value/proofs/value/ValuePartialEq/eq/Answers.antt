use Rattle.model.specs.Value.{item_of_value}
use Rattle.value.proofs.Sameness.{IsSameness, value_sameness, same_coin, other_coin}
use Rattle.value.proofs.value.ValuePartialEq.eq.Goals as goal

-- both clauses at once, where the coins are the same
means : (c : goal.After-eq) → IsSameness item_of_value c.eq.result c.args.self.now c.args.other.now
means c =
    value_sameness c.args.self.now c.args.other.now c.self.inside.coin c.other.inside.coin c.self.inside.assets.items c.other.inside.assets.items c.eq.result c.self.view_is c.other.view_is c.self.invariant.has_text c.other.invariant.has_text
    (same_coin c.self.inside.coin c.other.inside.coin c.eq.result _ c.if-self-other.true c.eq.ensures)

pub returns-then-self-other-clause-exact : goal.returns-then-self-other-clause-exact
returns-then-self-other-clause-exact c = (means c).0

pub returns-then-self-other-clause-same : goal.returns-then-self-other-clause-same
returns-then-self-other-clause-same c = (means c).1

pub returns-else-self-other-clause-exact : goal.returns-else-self-other-clause-exact
returns-else-self-other-clause-exact c =
    (value_sameness c.args.self.now c.args.other.now c.self.inside.coin c.other.inside.coin c.self.inside.assets.items c.other.inside.assets.items _ c.self.view_is c.other.view_is c.self.invariant.has_text c.other.invariant.has_text
    (other_coin c.self.inside.coin c.other.inside.coin _ c.if-self-other.false)).0
