use Rattle.std.proofs.Common.{rules, ap, ◌∙◌, List}
use Rattle.model.specs.Block.{Block}
use Rattle.chain_core.specs.Numbers.{block_numbered}
use Rattle.shared.specs.Starts.{network_from}
use Rattle.shared.specs.Meeting.{IsInformed}
use Rattle.shared.specs.Standing.{IsCoreOf}
use Rattle.shared.proofs.Asking.{told_after}
use Rattle.shared.proofs.shared.Shared.block.Goals as goal

pub returns-clause-block : goal.returns-clause-block
returns-clause-block g c =
    let core : IsCoreOf g.S.SigScheme.verifies g.B.Room.start c.tell.new.self c.core.result.now = search rules in
    let informed : IsInformed (network_from g.B.Room.start g.S.SigScheme.verifies) c.tell.new.self c.args.caller.now c.tell.new.caller = search rules in
    told_after g.S.SigScheme.verifies g.B.Room.start c.tell.new.self c.core.result.now c.args.caller.now c.tell.new.caller _ core informed
    (λ s network stands. c.in_ok-found.ensures ∙ (c.block.ensures ∙ ap (λ (bs : List Block). block_numbered bs c.args.number) stands.chain))
