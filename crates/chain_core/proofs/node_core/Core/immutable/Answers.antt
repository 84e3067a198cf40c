use Rattle.std.proofs.Common.{◌≡◌, subst}
use Rattle.model.specs.Chain.{BeginsWith, immutable_length, immutable_part}
use Rattle.chain.specs.Chained.{chain_of}
use Rattle.chain_core.specs.Held.{Held, network_held}
use Rattle.chain_core.specs.Inside.{held}
use Rattle.chain_core.proofs.OpenedOn.{begins_opened}
use Rattle.chain_core.proofs.node_core.Core.immutable.Goals as goal

pub returns-clause-count : goal.returns-clause-count
returns-clause-count g c =
    let verifies = g.S.SigScheme.verifies in
    let now = held c.self.inside in
    subst (λ (h : Held). c.immutable.result ≡ immutable_length (network_held h verifies) h.chain) c.self.view_is (c.immutable.ensures.immutable (network_held now verifies) c.self.invariant.whole)

pub returns-clause-opened : goal.returns-clause-opened
returns-clause-opened g c =
    let verifies = g.S.SigScheme.verifies in
    let now = held c.self.inside in
    subst (λ (h : Held). BeginsWith (immutable_part (network_held h verifies) h.chain) h.opened) c.self.view_is (begins_opened (network_held now verifies) (chain_of c.self.inside.chain_db.chain) c.self.invariant.whole.settled.opened)
