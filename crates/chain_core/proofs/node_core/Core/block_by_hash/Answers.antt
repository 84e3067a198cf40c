use Rattle.std.proofs.Common.{◌≡◌, ◌⊎◌, Contains, subst}
use Rattle.std.specs.Prelude.{MatchOption}
use Rattle.model.specs.Block.{block_hash_of}
use Rattle.model.specs.History.{State, live_of}
use Rattle.chain_core.specs.Held.{Held, Stands, network_held}
use Rattle.chain_core.specs.Inside.{held}
use Rattle.model.specs.Chain.{NoneHas}
use Rattle.chain_core.proofs.Arrivals.{state_of}
use Rattle.chain_core.proofs.PastHashes.{whole_indexed}
use Rattle.chain_core.proofs.node_core.Core.block_by_hash.Goals as goal

pub returns : goal.returns
returns g c =
    let v = g.S.SigScheme.verifies in
    let a = c.self.inside in
    subst (λ (h : Held). (s : State) → Stands h s → MatchOption c.block_with.result (NoneHas s.chain c.args.hash.bytes × NoneHas (live_of (network_held h v) s) c.args.hash.bytes) (λ b. (Contains s.chain b.now ⊎ Contains (live_of (network_held h v) s) b.now) × (block_hash_of b.now ≡ c.args.hash.bytes))) c.self.view_is
    (λ s stands. c.block_with.ensures (network_held (held a) v) s c.self.invariant.whole (state_of (network_held (held a) v) a.chain_db a.followers s stands))

pub block_with-requires : goal.block_with-requires
block_with-requires g c = whole_indexed (network_held (held c.self.inside) g.S.SigScheme.verifies) c.self.inside.chain_db c.self.invariant.whole
