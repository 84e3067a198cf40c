use Rattle.std.proofs.Common.{subst}
use Rattle.model.specs.Chain.{IsOpening}
use Rattle.model.specs.Ledger.{network_on}
use Rattle.model.proofs.Candidates.{valid_of_state}
use Rattle.chain_core.specs.ChainDbs.{IsWhole}
use Rattle.chain_core.specs.Held.{Held, network_held}
use Rattle.chain_core.specs.Steps.{IsReached}
use Rattle.chain_core.proofs.Reached.{held_open, reached_at_start}
use Rattle.chain_core.proofs.node_core.Core.on.Goals as goal

pub invariant_of-result : goal.invariant_of-result
invariant_of-result g c =
    let verifies = g.S.SigScheme.verifies in
    let genesis = c.args.genesis in
    let chain = c.args.on.chain.items in
    let network = network_on genesis verifies chain in
    let opens : IsOpening network = record { valid = valid_of_state network chain c.args.on.state (c.requires.state chain); spelled = c.requires.spelled } in
    let made = c.in_ok-chain_db.ensures in
    let is = held_open genesis chain c.in_ok-chain_db.chain_db c.new.result made.opened made.chain made.blocks made.mempool c.new.ensures in
    record {
      opens = subst (λ (h : Held). IsOpening (network_held h verifies)) is opens;
      whole = subst (λ (h : Held). IsWhole (network_on genesis verifies h.opened) c.in_ok-chain_db.chain_db) is made.whole;
      reached = subst (λ (h : Held). IsReached (network_held h verifies) h) is (reached_at_start network opens);
    }
