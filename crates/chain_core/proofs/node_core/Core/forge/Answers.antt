use Rattle.std.proofs.Common.{List, take, subst}
use Rattle.std.proofs.lemmas.Result.{IfOk-weaker, IfErr-weaker}
use Rattle.model.specs.Block.{Block, SpellsBlock}
use Rattle.model.specs.Genesis.{Genesis, IsGenesis}
use Rattle.model.specs.Ledger.{network_on}
use Rattle.model.specs.History.{State}
use Rattle.model.specs.Forging.{ArrivesNext}
use Rattle.chain.specs.Chained.{chain_of}
use Rattle.chain_core.specs.ChainDbs.{IsWhole}
use Rattle.chain_core.specs.Held.{Held, Stands, network_held}
use Rattle.chain_core.specs.Inside.{held}
use Rattle.chain_core.specs.ForgedBlocks.{IsForgedAs, IsForgeFault}
use Rattle.chain_core.proofs.ForgedTexts.{put_on_next}
use Rattle.chain_core.proofs.node_core.Core.forge.Goals as goal

pub returns-clause-forged : goal.returns-clause-forged
returns-clause-forged g c =
    let v = g.S.SigScheme.verifies in
    let a = c.self.inside in
    IfOk-weaker c.forge.result
    (λ f. (genesis : Genesis) (opened : List Block) → IsGenesis genesis → IsWhole (network_on genesis v opened) a.chain_db → IsForgedAs (network_on genesis v opened) (chain_of a.chain_db.chain) a.chain_db.mempool.waiting.txs c.args.slot f.bytes.items f.point)
    (λ f. IsForgedAs (network_held c.args.self.now v) c.args.self.now.chain c.args.self.now.mempool c.args.slot f.bytes.items f.point)
    (λ f p. subst (λ (h : Held). IsForgedAs (network_held h v) h.chain h.mempool c.args.slot f.bytes.items f.point) c.self.view_is (p a.genesis (take a.chain_db.opened (chain_of a.chain_db.chain)) c.supply-supply.ensures.ranges c.self.invariant.whole))
    c.forge.ensures.forged

pub returns-clause-fault : goal.returns-clause-fault
returns-clause-fault g c =
    let v = g.S.SigScheme.verifies in
    let a = c.self.inside in
    IfErr-weaker c.forge.result
    (λ e. (genesis : Genesis) (opened : List Block) → IsWhole (network_on genesis v opened) a.chain_db → IsForgeFault (network_on genesis v opened) (chain_of a.chain_db.chain) c.args.slot e)
    (λ e. IsForgeFault (network_held c.args.self.now v) c.args.self.now.chain c.args.slot e)
    (λ e p. subst (λ (h : Held). IsForgeFault (network_held h v) h.chain c.args.slot e) c.self.view_is (p a.genesis (take a.chain_db.opened (chain_of a.chain_db.chain)) c.self.invariant.whole))
    c.forge.ensures.fault

pub returns-clause-arrives : goal.returns-clause-arrives
returns-clause-arrives g c =
    let v = g.S.SigScheme.verifies in
    let a = c.self.inside in
    IfOk-weaker c.forge.result
    (λ f. (genesis : Genesis) (opened : List Block) → IsGenesis genesis → IsWhole (network_on genesis v opened) a.chain_db → IsForgedAs (network_on genesis v opened) (chain_of a.chain_db.chain) a.chain_db.mempool.waiting.txs c.args.slot f.bytes.items f.point)
    (λ f. (s : State) → Stands c.args.self.now s → (b : Block) → SpellsBlock b f.bytes.items → ArrivesNext (network_held c.args.self.now v) s b f.bytes.items)
    (λ f p. put_on_next (network_held (held a) v) a.chain_db a.followers c.args.self.now c.args.slot f.bytes.items f.point c.supply-supply.ensures.ranges c.self.invariant.whole c.len-live.ensures.read c.self.view_is (p a.genesis (take a.chain_db.opened (chain_of a.chain_db.chain)) c.supply-supply.ensures.ranges c.self.invariant.whole))
    c.forge.ensures.forged
