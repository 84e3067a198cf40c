use Rattle.std.proofs.Common.{◌≡◌, Some, subst}
use Rattle.std.specs.Prelude.{IsTrue, ◌↔◌}
use Rattle.model.specs.Follower.{Follower, follower_of}
use Rattle.model.specs.History.{State}
use Rattle.chain.specs.Chained.{chain_of}
use Rattle.chain_core.specs.Held.{Held, Stands}
use Rattle.chain_core.proofs.FollowerCalls.{open_beside}
use Rattle.chain_core.proofs.node_core.Core.is_open.Goals as goal

pub returns : goal.returns
returns g c =
    let a = c.self.inside in
    subst (λ (h : Held). (s : State) → Stands h s → IsTrue c.is_open.result ↔ ((f : Follower) × (follower_of s.followers c.args.id.number ≡ Some f))) c.self.view_is
    (λ s stands. open_beside (chain_of a.chain_db.chain) a.followers s.followers c.args.id.number c.is_open.result stands.followers c.is_open.ensures)
