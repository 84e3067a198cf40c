use Rattle.std.proofs.Common.{rules, ◌≡◌, ◌∙◌, List, Some, subst}
use Rattle.model.specs.Block.{Block}
use Rattle.model.specs.Ledger.{Network, ledger_of}
use Rattle.shared.specs.Starts.{network_from}
use Rattle.shared.specs.Meeting.{IsInformed}
use Rattle.shared.specs.Standing.{IsCoreOf}
use Rattle.shared.proofs.Asking.{told_after}
use Rattle.shared.proofs.shared.Shared.utxo.Goals as goal

pub returns-clause-utxo : goal.returns-clause-utxo
returns-clause-utxo g c =
    let core : IsCoreOf g.S.SigScheme.verifies g.B.Room.start c.tell.new.self c.core.result.now = search rules in
    let informed : IsInformed (network_from g.B.Room.start g.S.SigScheme.verifies) c.tell.new.self c.args.caller.now c.tell.new.caller = search rules in
    let found = c.utxo.ensures in
    let same : c.in_ok-utxo.utxo ≡ found.0.utxo = c.in_ok-utxo.ensures ∙ found.2 in
    told_after g.S.SigScheme.verifies g.B.Room.start c.tell.new.self c.core.result.now c.args.caller.now c.tell.new.caller _ core informed
    (λ s network stands. (found.0, subst (λ (x : Network × List Block). ledger_of x.0 x.1 ≡ Some found.0) (λ i. (network i, stands.chain i)) found.1, same))
