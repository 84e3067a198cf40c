-- A legal history leads to every core.
use Rattle.std.proofs.Common.{◌≡◌, ℕ, ◌+◌, List, [], ◌∷◌, ◌++◌, ◌∙◌, length, Some, map, take, refl, sym, ap, subst, arith}
use Rattle.std.proofs.lemmas.List.{take_all}
use Rattle.std.specs.List.{AllByRecursion}
use Rattle.std.specs.Prelude.{Contains}
use Rattle.model.specs.Block.{Block, IsBlock}
use Rattle.model.specs.Transaction.{Transaction}
use Rattle.model.specs.Genesis.{Genesis, supply_of}
use Rattle.model.specs.Chain.{IsOpening}
use Rattle.model.specs.Utxo.{coin_of, outputs_of}
use Rattle.model.specs.Signature.{Verifies}
use Rattle.model.specs.Ledger.{Network, Ledger, ledger_of}
use Rattle.model.specs.History.{State, opening, Event, Reply, Entry, ChainTheorem}
use Rattle.model.proofs.Lists.{all_of_member, all_weaker}
use Rattle.model.proofs.LegalHistories.{legal_sound, HasItsText}
use Rattle.model.proofs.LedgerSteps.{supply_kept}
use Rattle.model.proofs.ToldChains.{run_on, theorem_of_legal}
use Rattle.blockstore.specs.Stored.{Stored, blocks_of}
use Rattle.followers.specs.Places.{Places}
use Rattle.chain.specs.Chained.{chain_of}
use Rattle.chain_core.specs.declared.chain_db.ChainDb.{ChainDb}
use Rattle.chain_core.specs.ChainDbs.{IsWhole}
use Rattle.chain_core.specs.Held.{Held, Stands, opening_held, held_of, network_held}
use Rattle.chain_core.specs.Steps.{Steps, IsReached}
use Rattle.chain_core.proofs.Runs.{opening_stands}

pub reached_at_start : (network : Network) → IsOpening network → IsReached network (opening_held network.genesis network.opened)
reached_at_start network opens = record { history = []; state = opening network; legal = refl; stands = opening_stands network opens }

-- ---- a core that is opened

-- what it holds
pub held_open : {S : Type 0} (genesis : Genesis) (chain : List Block) (a : ChainDb S) (followers : Places) → a.opened ≡ length chain → (chain_of a.chain) ≡ chain → a.store.blocks ≡ [] → a.mempool.waiting.txs ≡ [] → followers ≡ []
    → opening_held genesis chain ≡ held_of genesis (take a.opened (chain_of a.chain)) (blocks_of a.store) (chain_of a.chain) a.mempool.waiting.txs followers
held_open genesis chain a followers opened is blocks mempool nobody =
    let whole : chain ≡ take a.opened (chain_of a.chain) = sym (ap (λ (n : ℕ). take n (chain_of a.chain)) opened ∙ (ap (λ (bs : List Block). take (length chain) bs) is ∙ take_all (length chain) chain (omega arith))) in
    λ i. held_of genesis (whole i) (map (λ (x : Stored). x.block) (sym blocks i)) (sym is i) (sym mempool i) (sym nobody i)

-- ---- a core of another chain

-- the chain that was opened on is the beginning of the chain
pub opened_is : {S : Type 0} (network : Network) (a : ChainDb S) → IsWhole network a → network.opened ≡ take a.opened (chain_of a.chain)
opened_is network a whole = sym (ap (λ n. take n (chain_of a.chain)) whole.opened ∙ whole.settled.opened)

-- so a step leads to what is held then
pub steps_on : (verifies : Verifies) (now : Held) (event : Event) (reply : Reply) (genesis : Genesis) (was opened live chain : List Block) (txs : List Transaction) (followers : Places) → was ≡ opened
    → Steps verifies now event reply (held_of genesis was live chain txs followers) → Steps verifies now event reply (held_of genesis opened live chain txs followers)
steps_on verifies now event reply genesis was opened live chain txs followers same steps = subst (λ (o : List Block). Steps verifies now event reply (held_of genesis o live chain txs followers)) same steps

-- and so once another event was answered
pub reached_on : (verifies : Verifies) (old now new : Held) (event : Event) (reply : Reply) → old ≡ now → IsReached (network_held old verifies) old → Steps verifies now event reply new → IsReached (network_held old verifies) new
reached_on verifies old now new event reply view reached steps =
    let from : Steps verifies old event reply new = subst (λ (h : Held). Steps verifies h event reply new) (sym view) steps in
    let on = from reached.state reached.stands in
    record {
      history = reached.history ++ record { event = event; reply = reply } ∷ [];
      state = on.0;
      legal = run_on (network_held old verifies) (opening (network_held old verifies)) reached.history reached.state (record { event = event; reply = reply }) on.0 reached.legal on.1;
      stands = on.2;
    }

-- where nothing changed
pub reached_still : {S : Type 0} (network : Network) (old new : ChainDb S) (followers : Places) → (chain_of new.chain) ≡ (chain_of old.chain) → new.store ≡ old.store → new.mempool ≡ old.mempool
    → IsReached network (held_of network.genesis network.opened (blocks_of old.store) (chain_of old.chain) old.mempool.waiting.txs followers) → IsReached network (held_of network.genesis network.opened (blocks_of new.store) (chain_of new.chain) new.mempool.waiting.txs followers)
reached_still network old new followers chain store mempool =
    subst (IsReached network) (λ i. held_of network.genesis network.opened (blocks_of (sym store i)) (sym chain i) ((sym mempool i).waiting.txs) followers)

-- what is promised of every core
pub theorem_reached : (verifies : Verifies) (held now : Held) → held ≡ now → IsOpening (network_held held verifies) → IsReached (network_held held verifies) held → (history : List Entry) × (s : State) × ChainTheorem (network_held now verifies) history s × Stands now s
theorem_reached verifies held now view opens reached = subst (λ (h : Held). (history : List Entry) × (s : State) × ChainTheorem (network_held h verifies) history s × Stands h s) view
    (reached.history, reached.state, theorem_of_legal (network_held held verifies) reached.history reached.state opens reached.legal, reached.stands)

pub supply_reached : (verifies : Verifies) (held : Held) → IsOpening (network_held held verifies) → IsReached (network_held held verifies) held → (ledger : Ledger) → ledger_of (network_held held verifies) held.chain ≡ Some ledger → coin_of (outputs_of ledger.utxo) + ledger.fees ≡ supply_of held.genesis
supply_reached verifies held opens reached ledger is =
    let network = network_held held verifies in
    let sound = legal_sound network reached.history reached.state opens reached.legal in
    let spelled : AllByRecursion IsBlock reached.state.chain = all_weaker (Contains reached.state.kept) IsBlock reached.state.chain (λ b member. (all_of_member HasItsText reached.state.kept b sound.spelled member).shape) sound.members in
    supply_kept network held.chain ledger (subst (AllByRecursion IsBlock) (sym reached.stands.chain) spelled) is
