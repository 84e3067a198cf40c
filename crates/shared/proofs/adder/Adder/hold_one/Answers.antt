use Rattle.std.proofs.Common.{◌≡◌, None, is_some, not, sym, ap, ◌∙◌, subst}
use Rattle.shared.specs.Starts.{network_from}
use Rattle.shared.specs.Adding.{Adding, IsInStep}
use Rattle.shared.proofs.Adders.{held_some, none_held, added_none, taken_on}
use Rattle.shared.proofs.adder.Adder.hold_one.Goals as goal

pub returns-then-is_none-clause-added : goal.returns-then-is_none-clause-added
returns-then-is_none-clause-added g c =
    let network = network_from g.B.Room.start g.S.SigScheme.verifies in
    let step : IsInStep c.args.self.now = subst IsInStep c.self.view_is c.self.invariant.in_step in
    let test : is_some c.args.self.now.held ≡ not c.is_none.result = ap (λ (a : Adding). is_some a.held) (sym c.self.view_is) ∙ (held_some c.self.inside.held ∙ c.is_none.ensures) in
    taken_on network c.args.self.now c.args.self.now c.take.new.self (added_none network c.args.self.now step) (none_held c.args.self.now.held c.is_none.result test c.if-is_none.true) c.take.ensures

pub returns-else-is_none-clause-added : goal.returns-else-is_none-clause-added
returns-else-is_none-clause-added g c =
    added_none (network_from g.B.Room.start g.S.SigScheme.verifies) c.args.self.now (subst IsInStep c.self.view_is c.self.invariant.in_step)
