use Rattle.std.proofs.Common.{rules, ap, ◌∙◌, List}
use Rattle.model.specs.Block.{Block}
use Rattle.model.specs.Chain.{genesis_tip, tip_after, tip_point}
use Rattle.shared.specs.Starts.{network_from}
use Rattle.shared.specs.Meeting.{IsInformed}
use Rattle.shared.specs.Standing.{IsCoreOf}
use Rattle.shared.proofs.Asking.{told_after}
use Rattle.shared.proofs.shared.Shared.chain_tip.Goals as goal

pub returns : goal.returns
returns g c =
    let core : IsCoreOf g.S.SigScheme.verifies g.B.Room.start c.tell.new.self c.core-core.result.now = search rules in
    let informed : IsInformed (network_from g.B.Room.start g.S.SigScheme.verifies) c.tell.new.self c.args.caller.now c.tell.new.caller = search rules in
    told_after g.S.SigScheme.verifies g.B.Room.start c.tell.new.self c.core-core.result.now c.args.caller.now c.tell.new.caller _ core informed
    (λ s network stands. (c.tip.ensures.tip ∙ ap tip_point stands.chain, c.slot.ensures ∙ ap (λ (bs : List Block). (tip_after genesis_tip bs).slot) stands.chain))
