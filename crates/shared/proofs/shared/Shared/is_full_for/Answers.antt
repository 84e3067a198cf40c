use Rattle.std.proofs.Common.{rules, ◌↔◌, subst}
use Rattle.std.specs.Prelude.{IsTrue}
use Rattle.model.specs.Ledger.{Network}
use Rattle.model.specs.History.{IsFullFor}
use Rattle.shared.specs.Starts.{network_from}
use Rattle.shared.specs.Meeting.{IsInformed}
use Rattle.shared.specs.Standing.{IsCoreOf}
use Rattle.shared.proofs.Asking.{told_after}
use Rattle.shared.proofs.shared.Shared.is_full_for.Goals as goal

pub returns : goal.returns
returns g c =
    let core : IsCoreOf g.S.SigScheme.verifies g.B.Room.start c.tell.new.self c.core.result.now = search rules in
    let informed : IsInformed (network_from g.B.Room.start g.S.SigScheme.verifies) c.tell.new.self c.args.caller.now c.tell.new.caller = search rules in
    told_after g.S.SigScheme.verifies g.B.Room.start c.tell.new.self c.core.result.now c.args.caller.now c.tell.new.caller _ core informed
    (λ s network stands. subst (λ (n : Network). IsTrue c.is_full_for.result ↔ IsFullFor n s c.args.size) network (c.is_full_for.ensures s stands))
