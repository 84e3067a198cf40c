use Rattle.std.proofs.Common.{rules, ◌≡◌, length, subst}
use Rattle.model.specs.Ledger.{Network}
use Rattle.model.specs.History.{live_of}
use Rattle.shared.specs.Starts.{network_from}
use Rattle.shared.specs.Meeting.{IsInformed}
use Rattle.shared.specs.Standing.{IsCoreOf}
use Rattle.shared.proofs.Asking.{told_after}
use Rattle.shared.proofs.shared.Shared.live_blocks.Goals as goal

pub returns : goal.returns
returns g c =
    let core : IsCoreOf g.S.SigScheme.verifies g.B.Room.start c.tell.new.self c.core.result.now = search rules in
    let informed : IsInformed (network_from g.B.Room.start g.S.SigScheme.verifies) c.tell.new.self c.args.caller.now c.tell.new.caller = search rules in
    told_after g.S.SigScheme.verifies g.B.Room.start c.tell.new.self c.core.result.now c.args.caller.now c.tell.new.caller _ core informed
    (λ s network stands. subst (λ (n : Network). c.live_blocks.result ≡ length (live_of n s)) network (c.live_blocks.ensures s stands))
