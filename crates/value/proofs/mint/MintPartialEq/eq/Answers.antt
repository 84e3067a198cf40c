use Rattle.model.specs.Value.{item_of_number, item_of_assets}
use Rattle.value.proofs.Sameness.{IsSameness, mint_sameness}
use Rattle.value.proofs.mint.MintPartialEq.eq.Goals as goal

-- both clauses at once
means : (c : goal.After-eq) → IsSameness (item_of_assets item_of_number) c.eq.result c.args.self.now c.args.other.now
means c = mint_sameness c.args.self.now c.args.other.now c.eq.result c.self.inside.policies.items c.other.inside.policies.items c.self.view_is c.other.view_is c.self.invariant.has_text c.other.invariant.has_text c.eq.ensures

pub returns-clause-exact : goal.returns-clause-exact
returns-clause-exact c = (means c).0

pub returns-clause-same : goal.returns-clause-same
returns-clause-same c = (means c).1
