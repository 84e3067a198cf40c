use Rattle.std.proofs.Common.{ℕ, List, take, subst}
use Rattle.std.specs.Prelude.{IfOk, OnErr}
use Rattle.std.proofs.lemmas.Result.{IfOk-weaker}
use Rattle.model.specs.Block.{Block}
use Rattle.model.specs.Genesis.{Genesis}
use Rattle.model.specs.Ledger.{network_on}
use Rattle.model.specs.History.{State}
use Rattle.model.specs.Asked.{IsWhyOf, IsPlaceOf, Beside}
use Rattle.std.proofs.lemmas.Result.{on_err_weaker}
use Rattle.chain.specs.Chained.{chain_of}
use Rattle.chain_core.specs.ChainDbs.{IsWhole, HasState}
use Rattle.chain_core.specs.Held.{Held, Stands, network_held}
use Rattle.chain_core.specs.Inside.{held}
use Rattle.chain_core.specs.Ways.{why_of}
use Rattle.chain_core.proofs.Arrivals.{state_of}
use Rattle.chain_core.proofs.node_core.Core.why.Goals as goal

pub why_in-requires : goal.why_in-requires
why_in-requires g c = record { whole = (network_held (held c.self.inside) g.S.SigScheme.verifies, c.self.invariant.whole) }

pub returns-clause-why : goal.returns-clause-why
returns-clause-why g c =
    let v = g.S.SigScheme.verifies in
    let a = c.self.inside in
    let opened = take a.chain_db.opened (chain_of a.chain_db.chain) in
    subst (λ (h : Held). IfOk c.why_in.result (λ why. (s : State) → Stands h s → IsWhyOf (network_held h v) s c.args.hash.bytes (why_of why))) c.self.view_is
    (IfOk-weaker c.why_in.result (λ why. (genesis : Genesis) (opened : List Block) (s : State) → IsWhole (network_on genesis v opened) a.chain_db → HasState (network_on genesis v opened) a.chain_db s → IsWhyOf (network_on genesis v opened) s c.args.hash.bytes (why_of why))
    (λ why. (s : State) → Stands (held a) s → IsWhyOf (network_held (held a) v) s c.args.hash.bytes (why_of why))
    (λ why is s stands. is a.genesis opened s c.self.invariant.whole (state_of (network_held (held a) v) a.chain_db a.followers s stands))
    c.why_in.ensures.why)

pub returns-clause-memory : goal.returns-clause-memory
returns-clause-memory g c =
    let v = g.S.SigScheme.verifies in
    let a = c.self.inside in
    subst (λ (h : Held). OnErr c.why_in.result ((s : State) → Stands h s → (number : ℕ) × IsPlaceOf (network_held h v) s c.args.hash.bytes (Beside number))) c.self.view_is
    (on_err_weaker c.why_in.result
    (λ is s stands. is (network_held (held a) v) s c.self.invariant.whole (state_of (network_held (held a) v) a.chain_db a.followers s stands))
    c.why_in.ensures.memory)
