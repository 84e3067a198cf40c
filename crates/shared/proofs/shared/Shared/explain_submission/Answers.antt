use Rattle.std.proofs.Common.{rules, subst}
use Rattle.std.specs.Option.{option_map}
use Rattle.model.specs.Ledger.{Network}
use Rattle.model.specs.Asked.{ExplainsSubmission}
use Rattle.utxo_rules.specs.DetailView.{detail_of}
use Rattle.shared.specs.Starts.{network_from}
use Rattle.shared.specs.Meeting.{IsInformed}
use Rattle.shared.specs.Standing.{IsCoreOf}
use Rattle.shared.proofs.Asking.{told_after}
use Rattle.shared.proofs.shared.Shared.explain_submission.Goals as goal

pub returns-clause-told : goal.returns-clause-told
returns-clause-told g c =
    let core : IsCoreOf g.S.SigScheme.verifies g.B.Room.start c.tell.new.self c.core.result.now = search rules in
    let informed : IsInformed (network_from g.B.Room.start g.S.SigScheme.verifies) c.tell.new.self c.args.caller.now c.tell.new.caller = search rules in
    told_after g.S.SigScheme.verifies g.B.Room.start c.tell.new.self c.core.result.now c.args.caller.now c.tell.new.caller _ core informed
    (λ s network stands. subst (λ (n : Network). ExplainsSubmission n s c.args.bytes.now (option_map detail_of c.in_ok-found.found)) network (c.in_ok-found.ensures.told s stands))
