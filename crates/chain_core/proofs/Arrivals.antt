-- An arrival, from what its parts promise.
use Rattle.std.proofs.Common.{◌≡◌, ◌≢◌, ℕ, ◌-◌, length, arith, List, [], ◌∷◌, Contains, Option, Some, None, Result, Ok, Err, refl, sym, ap, subst, ◌∙◌, inl, inr}
use Rattle.std.specs.List.{AllByRecursion}
use Rattle.std.proofs.lemmas.Bool.{cases_lt}
use Rattle.std.proofs.lemmas.List.{length-map}
use Rattle.block.specs.declared.fault.BadBytes.{BadBytes}
use Rattle.block.specs.Read.{IsRead, IsBadBytes}
use Rattle.model.specs.Block.{Block, block_hash_of, block_text}
use Rattle.model.proofs.BlockTexts.{block_text_is}
use Rattle.model.specs.Genesis.{Genesis}
use Rattle.model.specs.Signature.{Verifies}
use Rattle.model.specs.Ledger.{Network, network_on}
use Rattle.model.specs.Chain.{IsSelection, Stays, Changes, immutable_length}
use Rattle.model.specs.Transaction.{Transaction}
use Rattle.model.specs.Mempool.{Submits, revalidated}
use Rattle.followers.specs.Places.{Places, moved_places}
use Rattle.followers.specs.Standing.{ArePlacesOf}
use Rattle.followers.proofs.ForCallers.{the_lengths}
use Rattle.model.specs.History.{State, Refusal, TooOld, Known, Clash, VolatileFull, Applies, Arrive, Submit, Kept, Refused, IsRefused, IsChange, Keeps, Step}
use Rattle.model.proofs.Lists.{all_from_members, all_weaker, contains_later}
use Rattle.std.specs.Prelude.{IfOk, OnErr}
use Rattle.std.specs.declared.alloc.AllocError.{AllocError}
use Rattle.mempool.specs.Contents.{Mempool}
use Rattle.mempool.specs.View.{reply_of as answer_of}
use Rattle.mempool.specs.declared.reply.SubmitReply.{SubmitReply}
use Rattle.blockstore.specs.Stored.{Stored, blocks_of}
use Rattle.blockstore.specs.Insertion.{IsFull}
use Rattle.blockstore.specs.Live.{HoldsLive}
use Rattle.blockstore.proofs.ForCallers.{full_over}
use Rattle.chainsel.specs.Ready.{IsReady}
use Rattle.chainsel.proofs.ForCallers.{settled_live}
use Rattle.chain.specs.Chained.{chain_of}
use Rattle.chain_core.specs.declared.chain_db.ChainDb.{ChainDb}
use Rattle.chain_core.specs.declared.chain_db.Change.{Change}
use Rattle.chain_core.specs.ChainDbs.{IsWhole, HasState, IsAdded, IsTaken}
use Rattle.chain_core.specs.declared.refusal.Refusal as code
use Rattle.chain_core.specs.Views.{refusal_of, bad_refusal, submit_reply_of}
use Rattle.chain_core.specs.Steps.{Steps}
use Rattle.chain_core.specs.Held.{Held, Stands, held_of, network_held}
use Rattle.chain_core.specs.Judgements.{IsFirstRefusal}
use Rattle.chain_core.proofs.Refusals.{bad_refused}

-- ---- a block to which no refusal applies may be put in

-- the state in which nothing is kept but the live blocks
abbrev pub at_rest : {S : Type 0} → ChainDb S → State
at_rest a = record { kept = blocks_of a.store; chain = (chain_of a.chain); mempool = []; followers = [] }

pub rests : {S : Type 0} (network : Network) (a : ChainDb S) → IsWhole network a → HasState network a (at_rest a)
rests network a whole = record { chain = refl; live = settled_live network (chain_of a.chain) a.store a.db whole.settled }

is_ready : {S : Type 0} (network : Network) (a : ChainDb S) (b : Block) (bytes : List ℕ) → IsWhole network a → IsRead b bytes → IsFirstRefusal network (at_rest a) b None → IsReady network (chain_of a.chain) a.store a.db b
is_ready network a b bytes whole read judged =
    let none : (r : Refusal) → Applies network (at_rest a) bytes r → ⊥ = judged bytes read in
    let live = (rests network a whole).live in
    record {
      settled = whole.settled;
      past = elim (cases_lt (immutable_length network (chain_of a.chain)) b.header.number) [ inl young ↦ young | inr old ↦ absurd (none TooOld (b, read.read, old)) ];
      alone = all_from_members (λ c. block_hash_of c ≢ block_hash_of b) (blocks_of a.store)
          (λ c member same. none Clash (b, read.read, (c, inl ((live.members c).0 member), same, λ text. none Known (c, (live.members c).0 member, text))));
    }

-- and there is room for it
pub may_be_added : {S : Type 0} (network : Network) (a : ChainDb S) (b : Block) (bytes : List ℕ) → IsWhole network a → IsRead b bytes → IsFirstRefusal network (at_rest a) b None → IsReady network (chain_of a.chain) a.store a.db b × (IsFull a.store (length (block_text b)) → ⊥)
may_be_added network a b bytes whole read judged = (
  is_ready network a b bytes whole read judged,
  λ full. judged bytes read VolatileFull ((full_over network (at_rest a) a.store bytes (record { live = (rests network a whole).live; capacity = whole.capacity; distinct = whole.settled.distinct })).0 (subst (IsFull a.store) (ap length (block_text_is b bytes read.read)) full)),
)

-- ---- steps of each state that the core stands for

pub state_of : {S : Type 0} (network : Network) (a : ChainDb S) (followers : Places) (s : State) → Stands (held_of network.genesis network.opened (blocks_of a.store) (chain_of a.chain) a.mempool.waiting.txs followers) s → HasState network a s
state_of network a followers s stands = record {
  chain = stands.chain;
  live = record { members = stands.members network.verifies; count = sym (length-map a.store.blocks (λ (x : Stored). x.block)) ∙ stands.count network.verifies };
}

-- the block is judged so beside each state
abbrev pub IsFirstRefusalAt : {S : Type 0} → Network → ChainDb S → Block → Option Refusal → Type 0
IsFirstRefusalAt network a b answer = (s : State) → HasState network a s → IsFirstRefusal network s b answer

-- bytes that are no block are refused
pub bad_arrival : (verifies : Verifies) (now : Held) (bytes : List ℕ) (why : BadBytes) (refusal : code.Refusal) → refusal ≡ bad_refusal why → IsBadBytes bytes why → Steps verifies now (Arrive bytes) (Refused (refusal_of refusal)) now
bad_arrival verifies now bytes why refusal is bad s stands =
    (s, (subst (λ (r : code.Refusal). IsRefused (network_held now verifies) s bytes (refusal_of r)) (sym is) (bad_refused (network_held now verifies) s bytes why bad), refl), stands)

-- a refusal
pub refused_arrival : {S : Type 0} (network : Network) (a : ChainDb S) (followers : Places) (now : Held) (bytes : List ℕ) (b : Block) (r : Refusal) → held_of network.genesis network.opened (blocks_of a.store) (chain_of a.chain) a.mempool.waiting.txs followers ≡ now → IsRead b bytes
    → IsFirstRefusalAt network a b (Some r) → (s : State) → Stands now s → (t : State) × Step (network_held now network.verifies) s (Arrive bytes) (Refused r) t × Stands now t
refused_arrival network a followers now bytes b r view read judged =
    subst (λ (h : Held). (s : State) → Stands h s → (t : State) × Step (network_held h network.verifies) s (Arrive bytes) (Refused r) t × Stands h t) view
    (λ s stands. (s, (judged s (state_of network a followers s stands) bytes read, refl), stands))

-- where none is told, none applies
pub none_applies : {S : Type 0} (network : Network) (a : ChainDb S) (followers : Places) (now : Held) (bytes : List ℕ) (b : Block) → held_of network.genesis network.opened (blocks_of a.store) (chain_of a.chain) a.mempool.waiting.txs followers ≡ now → IsRead b bytes → IsFirstRefusalAt network a b None
    → (s : State) → Stands now s → (r : Refusal) → Applies (network_held now network.verifies) s bytes r → ⊥
none_applies network a followers now bytes b view read judged =
    subst (λ (h : Held). (s : State) → Stands h s → (r : Refusal) → Applies (network_held h network.verifies) s bytes r → ⊥) view (λ s stands. judged s (state_of network a followers s stands) bytes read)

selection_members : (network : Network) (kept old new : List Block) → AllByRecursion (Contains kept) old → IsSelection network kept old new → AllByRecursion (Contains kept) new
selection_members network kept old new members (Stays none) = members
selection_members network kept old new members (Changes c chosen) = chosen.candidate.members

-- a block that is kept
pub kept_arrival : {S : Type 0} (network : Network) (old new : ChainDb S) (followers moved : Places) (now : Held) (bytes : List ℕ) (b : Block) (told : Change) → held_of network.genesis network.opened (blocks_of old.store) (chain_of old.chain) old.mempool.waiting.txs followers ≡ now → IsRead b bytes
    → IsFirstRefusalAt network old b None → IsAdded network old b new told → moved ≡ moved_places (length (chain_of new.chain) - told.added) followers
    → (s : State) → Stands now s → (t : State) × Step (network_held now network.verifies) s (Arrive bytes) (Kept told.back told.added) t × Stands (held_of network.genesis network.opened (blocks_of new.store) (chain_of new.chain) new.mempool.waiting.txs moved) t
kept_arrival {S} network old new followers moved now bytes b told view read judged added moves =
    subst (λ (h : Held). (s : State) → Stands h s → (t : State) × Step (network_held h network.verifies) s (Arrive bytes) (Kept told.back told.added) t × Stands (held_of network.genesis network.opened (blocks_of new.store) (chain_of new.chain) new.mempool.waiting.txs moved) t) view each
  where
    each : (s : State) → Stands (held_of network.genesis network.opened (blocks_of old.store) (chain_of old.chain) old.mempool.waiting.txs followers) s
        → (t : State) × Keeps network s bytes told.back told.added t × Stands (held_of network.genesis network.opened (blocks_of new.store) (chain_of new.chain) new.mempool.waiting.txs moved) t
    each s stands =
        let has = state_of network old followers s stands in
        let live : HoldsLive network s.kept (chain_of old.chain) old.store = subst (λ (c : List Block). HoldsLive network s.kept c old.store) (sym has.chain) has.live in
        let after = added.live s.kept live in
        let in_old : AllByRecursion (Contains s.kept) (chain_of old.chain) = subst (AllByRecursion (Contains s.kept)) (sym stands.chain) stands.chain_kept in
        let in_both = all_weaker (Contains s.kept) (Contains (b ∷ s.kept)) (chain_of old.chain) (λ c member. contains_later b s.kept c member) in_old in
        let selection : IsSelection network (b ∷ s.kept) (chain_of old.chain) (chain_of new.chain) = added.selected s.kept live in_old in
        let change = added.change in
        let common : change.common ≡ length (chain_of new.chain) - told.added = let put_on = change.put_on in omega arith in
        let gs = the_lengths.moved (chain_of old.chain) (chain_of new.chain) change.common followers s.followers change.is_common stands.followers in
        let places : moved_places change.common followers ≡ moved = ap (λ n. moved_places n followers) common ∙ sym moves in (
          record { kept = b ∷ s.kept; chain = (chain_of new.chain); mempool = new.mempool.waiting.txs; followers = gs.0 },
          record {
            block = b;
            read = read.read;
            not_refused = judged s has bytes read;
            kept = refl;
            followers = gs.1;
            mempool = added.mempool ∙ ap (revalidated network (chain_of new.chain)) stands.mempool;
            selection = subst (λ (c : List Block). IsSelection network (b ∷ s.kept) c (chain_of new.chain)) stands.chain selection;
            change = subst (λ (c : List Block). IsChange c (chain_of new.chain) told.back told.added) stands.chain added.change;
          },
          record {
            chain = refl;
            mempool = refl;
            followers = subst (λ (p : Places). ArePlacesOf (chain_of new.chain) p gs.0) places gs.2;
            members = λ verifies. after.members;
            count = λ verifies. length-map new.store.blocks (λ (x : Stored). x.block) ∙ after.count;
            chain_kept = selection_members network (b ∷ s.kept) (chain_of old.chain) (chain_of new.chain) in_both selection;
          },
        )

-- ---- a submission

-- bytes that are submitted, and what they leave
abbrev pub SubmitSteps : {S : Type 0} → Network → ChainDb S → Places → List ℕ → Held → Result SubmitReply AllocError → Type 0
SubmitSteps network new followers bytes now result = (s : State) → Stands now s
    → (t : State) × Step (network_held now network.verifies) s (Submit bytes) (submit_reply_of result) t
    × Stands (held_of network.genesis network.opened (blocks_of new.store) (chain_of new.chain) new.mempool.waiting.txs followers) t

pub submitted : {S : Type 0} (network : Network) (old new : ChainDb S) (followers : Places) (now : Held) (bytes : List ℕ) (result : Result SubmitReply AllocError) → held_of network.genesis network.opened (blocks_of old.store) (chain_of old.chain) old.mempool.waiting.txs followers ≡ now → IsWhole network old
    → IfOk result (λ reply. (genesis : Genesis) (opened : List Block) → IsWhole (network_on genesis network.verifies opened) old → IsTaken (network_on genesis network.verifies opened) old bytes (answer_of reply) new) → new ≡ record old { mempool = new.mempool } → OnErr result (new.mempool ≡ old.mempool)
    → SubmitSteps network new followers bytes now result
submitted {S} network old new followers now bytes (Err e) view whole ok frame err =
    let same : new ≡ old = frame ∙ ap (λ (p : Mempool). record old { mempool = p }) err in
    subst (λ (h : Held). SubmitSteps network new followers bytes h (Err e)) view
    (λ s stands. (s, refl, subst (λ (a : ChainDb S). Stands (held_of network.genesis network.opened (blocks_of a.store) (chain_of a.chain) a.mempool.waiting.txs followers) s) (sym same) stands))
submitted {S} network old new followers now bytes (Ok reply) view whole ok frame err =
    subst (λ (h : Held). SubmitSteps network new followers bytes h (Ok reply)) view each
  where
    each : SubmitSteps network new followers bytes (held_of network.genesis network.opened (blocks_of old.store) (chain_of old.chain) old.mempool.waiting.txs followers) (Ok reply)
    each s stands =
        let is = ok network.genesis network.opened whole in
        let t : State = record { kept = s.kept; chain = s.chain; mempool = new.mempool.waiting.txs; followers = s.followers } in (
          t,
          record {
            mempool = new.mempool.waiting.txs;
            submits = subst (λ (c : List Block). Submits network c s.mempool bytes (answer_of reply) new.mempool.waiting.txs) stands.chain
                (subst (λ (m : List Transaction). Submits network (chain_of old.chain) m bytes (answer_of reply) new.mempool.waiting.txs) stands.mempool is.submits);
            after = refl;
          },
          subst (λ (a : ChainDb S). Stands (held_of network.genesis network.opened (blocks_of a.store) (chain_of a.chain) a.mempool.waiting.txs followers) t) (sym frame)
              (record { chain = stands.chain; mempool = refl; followers = stands.followers; members = stands.members; count = stands.count; chain_kept = stands.chain_kept }),
        )
