use Rattle.std.proofs.Common.{List, length, map, sum, ap, subst, ◌≡◌, ◌∙◌, Some}
use Rattle.std.specs.FinMap as finite
use Rattle.std.specs.Option.{option_map}
use Rattle.model.specs.Transaction.{Transaction, size_of}
use Rattle.model.specs.Block.{Block}
use Rattle.model.specs.Ledger.{Ledger}
use Rattle.model.specs.Chain.{genesis_tip, tip_after, immutable_length}
use Rattle.model.specs.Mempool.{utxo_of}
use Rattle.followers.specs.Places.{open_count}
use Rattle.chain_core.specs.Held.{Held, network_held}
use Rattle.chain_core.proofs.FollowerCalls.{as_many_open}
use Rattle.chain_core.proofs.node_core.Core.census.Goals as goal

pub returns : goal.returns
returns g c = λ s stands.
    let h = c.args.self.now in
    let network = network_held h g.S.SigScheme.verifies in
    let txs = c.mempool-mempool.ensures ∙ stands.mempool in
    let ledger = c.utxo.ensures in
    record {
      height = c.height.ensures ∙ ap (λ (x : List Block). length x) stands.chain;
      slot = c.slot.ensures ∙ ap (λ (x : List Block). (tip_after genesis_tip x).slot) stands.chain;
      immutable = c.immutable.ensures.count ∙ ap (λ (x : List Block). immutable_length network x) stands.chain;
      live = c.live_blocks.ensures s stands;
      waiting = c.len.ensures ∙ ap (λ (x : List Transaction). length x) txs;
      waiting_bytes = c.bytes.ensures ∙ ap (λ (x : List Transaction). sum (map size_of x)) txs;
      outputs = (
        ledger.0.utxo,
        subst (λ (x : List Block). utxo_of network x ≡ Some ledger.0.utxo) stands.chain (ap (option_map (λ (l : Ledger). l.utxo)) ledger.1),
        c.len-2.ensures ∙ ap finite.len ledger.2,
      );
      followers = c.count.ensures ∙ (ap (λ (x : Held). open_count x.followers) c.self.view_is ∙ as_many_open h.chain h.followers s.followers stands.followers);
    }
