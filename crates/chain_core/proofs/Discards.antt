-- A block beside the chain is discarded, from what its parts promise.
use Rattle.std.proofs.Common.{◌≡◌, ◌≢◌, ◌⊎◌, ℕ, Bool, true, false, List, [], Contains, refl, sym, ap, subst, ◌∙◌, inl, inr}
use Rattle.std.specs.List.{AllByRecursion}
use Rattle.std.proofs.lemmas.List.{length-map}
use Rattle.model.specs.Block.{Block, block_hash_of}
use Rattle.model.specs.Ledger.{Network}
use Rattle.model.specs.Chain.{NoneHas}
use Rattle.model.specs.History.{State, live_of, Reply, HasBeside, without_hash, Discard, Discarded, NotBeside, Step}
use Rattle.model.specs.Asked.{Beside, IsPlaceOf}
use Rattle.model.proofs.Lists.{all_of_member, all_weaker, all_both}
use Rattle.model.proofs.Discarding.{left_without}
use Rattle.followers.specs.Places.{Places}
use Rattle.blockstore.specs.Stored.{Stored, Store, IsSet, blocks_of}
use Rattle.blockstore.specs.Answers.{IsRid}
use Rattle.blockstore.specs.Live.{LosesLive}
use Rattle.ledgerdb.specs.Values.{Database}
use Rattle.chainsel.specs.Ready.{IsSettled}
use Rattle.chainsel.proofs.ForCallers.{settled_without}
use Rattle.chain.specs.Chained.{chain_of}
use Rattle.chain_core.specs.declared.chain_db.ChainDb.{ChainDb}
use Rattle.chain_core.specs.declared.finding.Place.{Place}
use Rattle.chain_core.specs.declared.finding.Place.TheVariants as places
use Rattle.chain_core.specs.Asking.{place_of}
use Rattle.chain_core.specs.ChainDbs.{IsWhole, HasState, IsDiscarded}
use Rattle.chain_core.specs.Held.{Held, Stands, held_of, network_held}
use Rattle.chain_core.specs.Steps.{Steps}
use Rattle.chain_core.proofs.Arrivals.{at_rest, rests, state_of}

-- a block that is beside the chain, and what is left without it
pub discarded : {S : Type 0} (network : Network) (old : ChainDb S) (store : Store) (db : Database) (s : State) (hash : List ℕ) (number : ℕ) → IsWhole network old → HasState network old s → IsPlaceOf network s hash (Beside number)
    → IsRid old.store hash store → LosesLive old.store hash store → IsSet store → db ≡ record old.db { sides = [] } → IsDiscarded network s hash (record old { store = store; db = db })
discarded network old store db s hash number whole has beside rid loses set emptied = record {
  beside = record { block = beside.1.block; live = beside.1.member; hash_is = beside.1.hash_is; apart = beside.0 };
  live = loses network s.kept s.chain has.live;
  whole = record {
    gone = whole.gone;
    settled = subst (IsSettled network (chain_of old.chain) store) (sym emptied)
        (settled_without network (chain_of old.chain) old.store store old.db hash whole.settled rid set.distinct (subst (λ (bs : List Block). NoneHas bs hash) (sym has.chain) beside.0));
    k = ap (λ (d : Database). d.k) emptied ∙ whole.k;
    capacity = rid.capacity ∙ whole.capacity;
    mempool = whole.mempool;
    past = whole.past;
    opened = whole.opened;
  };
}

-- where the block's place is another, none of its hash is beside the chain
pub not_beside : (network : Network) (s : State) (hash : List ℕ) (place : Place) → IsPlaceOf network s hash (place_of place) → ((number : ℕ) → place ≢ places.Beside number) → HasBeside network s hash → ⊥
not_beside network s hash (places.Chain number) is other has = all_of_member (λ b. block_hash_of b ≢ hash) s.chain is.block has.apart is.member is.hash_is
not_beside network s hash (places.Beside number) is other has = other number refl
not_beside network s hash places.Unknown is other has = all_of_member (λ b. block_hash_of b ≢ hash) (live_of network s) has.block is.1 has.live has.hash_is

-- the step of each state that the core stands for
pub discard_step : {S : Type 0} (network : Network) (old new : ChainDb S) (followers : Places) (now : Held) (hash : List ℕ) → held_of network.genesis network.opened (blocks_of old.store) (chain_of old.chain) old.mempool.waiting.txs followers ≡ now
    → ((s : State) → HasState network old s → IsDiscarded network s hash new) → new ≡ record old { store = new.store; db = new.db }
    → (s : State) → Stands now s → (t : State) × Step (network_held now network.verifies) s (Discard hash) Discarded t × Stands (held_of network.genesis network.opened (blocks_of new.store) (chain_of new.chain) new.mempool.waiting.txs followers) t
discard_step {S} network old new followers now hash view goes frame =
    subst (λ (h : Held). (s : State) → Stands h s → (t : State) × Step (network_held h network.verifies) s (Discard hash) Discarded t × Stands (held_of network.genesis network.opened (blocks_of new.store) (chain_of new.chain) new.mempool.waiting.txs followers) t) view each
  where
    each : (s : State) → Stands (held_of network.genesis network.opened (blocks_of old.store) (chain_of old.chain) old.mempool.waiting.txs followers) s
        → (t : State) × Step network s (Discard hash) Discarded t × Stands (held_of network.genesis network.opened (blocks_of new.store) (chain_of new.chain) new.mempool.waiting.txs followers) t
    each s stands =
        let gone = goes s (state_of network old followers s stands) in
        let t : State = record s { kept = without_hash hash s.kept } in
        let left : AllByRecursion (Contains (without_hash hash s.kept)) s.chain = all_weaker (λ b. Contains s.kept b × (block_hash_of b ≢ hash)) (Contains (without_hash hash s.kept)) s.chain (λ b is. left_without hash s.kept b is.0 is.1)
        (all_both (Contains s.kept) (λ b. block_hash_of b ≢ hash) s.chain stands.chain_kept gone.beside.apart) in (
          t,
          record { beside = gone.beside; after = refl },
          subst (λ (a : ChainDb S). Stands (held_of network.genesis network.opened (blocks_of new.store) (chain_of a.chain) a.mempool.waiting.txs followers) t) (sym frame) record {
            chain = stands.chain;
            mempool = stands.mempool;
            followers = stands.followers;
            members = λ verifies. gone.live.members;
            count = λ verifies. length-map new.store.blocks (λ (x : Stored). x.block) ∙ gone.live.count;
            chain_kept = left;
          },
        )

-- where there is none
pub discard_refused : {S : Type 0} (network : Network) (old new : ChainDb S) (followers : Places) (now : Held) (hash : List ℕ) → held_of network.genesis network.opened (blocks_of old.store) (chain_of old.chain) old.mempool.waiting.txs followers ≡ now
    → ((s : State) → HasState network old s → HasBeside network s hash → ⊥) → new ≡ old
    → (s : State) → Stands now s → (t : State) × Step (network_held now network.verifies) s (Discard hash) NotBeside t × Stands (held_of network.genesis network.opened (blocks_of new.store) (chain_of new.chain) new.mempool.waiting.txs followers) t
discard_refused {S} network old new followers now hash view none same =
    subst (λ (h : Held). (s : State) → Stands h s → (t : State) × Step (network_held h network.verifies) s (Discard hash) NotBeside t × Stands (held_of network.genesis network.opened (blocks_of new.store) (chain_of new.chain) new.mempool.waiting.txs followers) t) view
    (λ s stands. (s, (none s (state_of network old followers s stands), refl), subst (λ (a : ChainDb S). Stands (held_of network.genesis network.opened (blocks_of a.store) (chain_of a.chain) a.mempool.waiting.txs followers) s) (sym same) stands))

-- ---- in both cases

-- what is left is whole, and the step that this reply tells of leads to it
pub record IsLeft {S : Type 0} (network : Network) (new : ChainDb S) (followers : Places) (now : Held) (hash : List ℕ) (reply : Reply) : Type 0 where
  pub whole : IsWhole network new
  pub steps : Steps network.verifies now (Discard hash) reply (held_of network.genesis network.opened (blocks_of new.store) (chain_of new.chain) new.mempool.waiting.txs followers)

left_without_it : {S : Type 0} (network : Network) (old new : ChainDb S) (followers : Places) (now : Held) (hash : List ℕ) → held_of network.genesis network.opened (blocks_of old.store) (chain_of old.chain) old.mempool.waiting.txs followers ≡ now → IsWhole network old
    → ((s : State) → HasState network old s → IsDiscarded network s hash new) → new ≡ record old { store = new.store; db = new.db } → IsLeft network new followers now hash Discarded
left_without_it network old new followers now hash view whole goes frame = record {
  whole = (goes (at_rest old) (rests network old whole)).whole;
  steps = discard_step network old new followers now hash view goes frame;
}

left_as_it_was : {S : Type 0} (network : Network) (old new : ChainDb S) (followers : Places) (now : Held) (hash : List ℕ) → held_of network.genesis network.opened (blocks_of old.store) (chain_of old.chain) old.mempool.waiting.txs followers ≡ now → IsWhole network old
    → ((s : State) → HasState network old s → HasBeside network s hash → ⊥) → new ≡ old → IsLeft network new followers now hash NotBeside
left_as_it_was network old new followers now hash view whole none same = record {
  whole = subst (IsWhole network) (sym same) whole;
  steps = discard_refused network old new followers now hash view none same;
}

-- and so whatever was found, where the reply tells it
pub left_by : {S : Type 0} (network : Network) (old new : ChainDb S) (followers : Places) (now : Held) (hash : List ℕ) (found : Bool) (reply : Reply) → held_of network.genesis network.opened (blocks_of old.store) (chain_of old.chain) old.mempool.waiting.txs followers ≡ now → IsWhole network old
    → (found ≡ true → (s : State) → HasState network old s → IsDiscarded network s hash new) → (found ≡ false → (s : State) → HasState network old s → HasBeside network s hash → ⊥) → (found ≡ false → new ≡ old) → new ≡ record old { store = new.store; db = new.db }
    → ((found ≡ true) × (reply ≡ Discarded)) ⊎ ((found ≡ false) × (reply ≡ NotBeside)) → IsLeft network new followers now hash reply
left_by network old new followers now hash found reply view whole goes none same frame (inl told) =
    subst (IsLeft network new followers now hash) (sym told.1) (left_without_it network old new followers now hash view whole (goes told.0) frame)
left_by network old new followers now hash found reply view whole goes none same frame (inr told) =
    subst (IsLeft network new followers now hash) (sym told.1) (left_as_it_was network old new followers now hash view whole (none told.0) (same told.0))
