-- States beside the chain: which blocks they rest on, and what is judged on them.
use Rattle.std.proofs.Common.{◌≡◌, Bor, ℕ, ◌-◌, List, [], ◌∷◌, ◌++◌, length, take, Contains, sym, subst, inl, inr}
use Rattle.std.specs.Prelude.{Option, Some, None, Result, Ok, Err, IfSome, IfOk, MatchOption}
use Rattle.std.specs.Option.{option_copied}
use Rattle.std.specs.List.{AllByRecursion}
use Rattle.std.proofs.lemmas.List.Elements.{Contains-append_left, Contains-append_right, Contains-append_cases}
use Rattle.model.specs.Block.{Block, block_hash_of}
use Rattle.model.specs.Signature.{Verifies}
use Rattle.model.specs.Genesis.{Genesis}
use Rattle.model.specs.Ledger.{Network, network_on}
use Rattle.model.specs.Chain.{Tip, genesis_tip, Follows}
use Rattle.model.specs.Applying.{LedgerState, BlockFault, HasFault, IsApplied, IsStateOf}
use Rattle.model.proofs.Lists.{all_of_member, all_from_members, all_weaker, all_append, all_take, all_push, contains_first, contains_later}
use Rattle.model.proofs.AppliedBlocks.{state_push}
use Rattle.ident.specs.Kinds.{BlockHash}
use Rattle.blockstore.specs.Stored.{Store, blocks_of}
use Rattle.ledgerdb.specs.Values.{Database}
use Rattle.ledgerdb.specs.Chains.{without_last, IsDatabaseOf}
use Rattle.chainsel.specs.Choices.{IsFoundDead, AreDead, AreDeadInAll, IsSideInAll}
use Rattle.chainsel.specs.Judged.{IsStateAt}
use Rattle.chainsel.specs.Ready.{IsReady}
use Rattle.chainsel.specs.Sides.{IsSide, IsSideOf}
use Rattle.chainsel.proofs.AtHand.{at_hand}
use Rattle.chainsel.proofs.Deaths.{fault_dead}
use Rattle.chainsel.proofs.Tips.{tip_of_pushed, linked_push}

-- among more blocks too
pub side_among : (network : Network) (xs ys : List Block) (s : LedgerState) → ((b : Block) → Contains xs b → Contains ys b) → IsSide network xs s → IsSide network ys s
side_among network xs ys s more is = record { path = is.path; state = is.state; members = all_weaker (Contains xs) (Contains ys) is.path more is.members }

pub sides_among : (network : Network) (xs ys : List Block) (ss : List LedgerState) → ((b : Block) → Contains xs b → Contains ys b) → AllByRecursion (IsSide network xs) ss → AllByRecursion (IsSide network ys) ss
sides_among network xs ys ss more are = all_weaker (IsSide network xs) (IsSide network ys) ss (λ s is. side_among network xs ys s more is) are

-- what is had of a state that there may be
pub if_ok_some : {A E : Type 0} (r : Result (Option A) E) (P Q : A → Type 0) → ((x : A) → P x → Q x) → IfOk r (λ o. IfSome o P) → IfOk r (λ o. IfSome o Q)
if_ok_some (Ok (Some x)) P Q weaker is = weaker x is
if_ok_some (Ok None) P Q weaker is = tt
if_ok_some (Err e) P Q weaker is = tt

pub if_some : {A : Type 0} (o : Option A) (P Q : A → Type 0) → ((x : A) → P x → Q x) → IfSome o P → IfSome o Q
if_some None P Q weaker is = tt
if_some (Some x) P Q weaker is = weaker x is

pub if_some_lent : {A : Type 0} (o : Option (Bor A)) (p : Option A) (P : A → Type 0) → option_copied o ≡ p → IfSome p P → IfSome o (λ x. P x.now)
if_some_lent None p P same is = tt
if_some_lent (Some x) p P same is = subst (λ q. IfSome q P) (sym same) is

-- the state at some place of a way
pub side_at : (verifies : Verifies) (db : Database) (way : List Block) (back n : ℕ) (s : LedgerState)
    → ((genesis : Genesis) (opened chain : List Block) → IsDatabaseOf (network_on genesis verifies opened) chain db → IsStateOf (network_on genesis verifies opened) (without_last back chain ++ take n way) s) → IsSideOf verifies db way s
side_at verifies db way back n s is genesis opened chain database = record {
  path = without_last back chain ++ take n way;
  state = is genesis opened chain database;
  members = all_append (Contains (way ++ chain)) (without_last back chain) (take n way)
      (all_take (Contains (way ++ chain)) (length chain - back) chain (all_from_members (Contains (way ++ chain)) chain (λ b member. Contains-append_right way chain b member)))
      (all_take (Contains (way ++ chain)) n way (all_from_members (Contains (way ++ chain)) way (λ b member. Contains-append_left way chain b member)));
}

module _ (network : Network) (chain : List Block) (store : Store) (new : Block) where
  -- of a way of blocks at hand
  pub side_at_hand : (way : List Block) (s : LedgerState) → AllByRecursion (Contains (new ∷ blocks_of store)) way → IsSide network (way ++ chain) s → IsSide network (at_hand chain store new) s
  side_at_hand way s there is = side_among network (way ++ chain) (at_hand chain store new) s
      (λ b member. elim (Contains-append_cases way chain b member) [
        | inl on_way ↦ Contains-append_left (new ∷ blocks_of store) chain b (all_of_member (Contains (new ∷ blocks_of store)) way b there on_way)
        | inr on_chain ↦ Contains-append_right (new ∷ blocks_of store) chain b on_chain
      ]) is

  path_new : (s : LedgerState) (is : IsSide network (at_hand chain store new) s) → AllByRecursion (Contains (at_hand chain store new)) (is.path ++ new ∷ [])
  path_new s is = all_push (Contains (at_hand chain store new)) is.path new is.members (contains_first new (blocks_of store ++ chain))

  -- the block that came is applied on one
  pub applied_on : (s t : LedgerState) → IsSide network (at_hand chain store new) s → IsApplied network.verifies s new t → IsStateAt network chain store new new t
  applied_on s t is applied = record {
    path = is.path ++ new ∷ [];
    state = state_push network is.path s new t is.state applied;
    ends = tip_of_pushed genesis_tip is.path new;
    members = path_new s is;
  }

  -- or it has a fault there, and so is dead
  pub dead_on : (s : LedgerState) (fault : BlockFault) (hash : BlockHash) → IsSide network (at_hand chain store new) s → Follows s.tip new → HasFault network.verifies s new fault → hash.bytes ≡ block_hash_of new
      → IsFoundDead network chain (new ∷ blocks_of store) hash
  dead_on s fault hash is follows has named = record {
    block = new;
    member = contains_first new (blocks_of store);
    same = sym named;
    dead = fault_dead network chain (new ∷ blocks_of store) is.path s new fault (linked_push genesis_tip is.path new is.state.linked (subst (λ (t : Tip). Follows t new) is.state.tip follows)) (path_new s is) is.state has;
  }

-- what is judged on a state of blocks at hand is dead in every network, where what was found before is
pub sifted_dead : (verifies : Verifies) (chain : List Block) (store : Store) (db : Database) (new : Block) (side : Option LedgerState) (state : Option (Bor LedgerState)) (old more : List BlockHash) → option_copied state ≡ side
    → IfSome side (IsSideInAll verifies chain store db new)
    → ((genesis : Genesis) (opened chain : List Block) → IfSome state (λ s. IsSide (network_on genesis verifies opened) ((new ∷ blocks_of store) ++ chain) s.now)
    → AreDead (network_on genesis verifies opened) chain store new old → AreDead (network_on genesis verifies opened) chain store new more)
    → AreDeadInAll verifies chain store db new old → AreDeadInAll verifies chain store db new more
sifted_dead verifies chain store db new side state old more lent beside judged dead genesis opened ready =
    judged genesis opened chain
    (if_some_lent state side (IsSide (network_on genesis verifies opened) ((new ∷ blocks_of store) ++ chain)) lent
    (if_some side (IsSideInAll verifies chain store db new) (IsSide (network_on genesis verifies opened) ((new ∷ blocks_of store) ++ chain)) (λ s is. is genesis opened ready) beside))
    (dead genesis opened ready)

-- one that is kept beside the chain is of blocks at hand
pub beside_ready : (network : Network) (chain : List Block) (store : Store) (db : Database) (new : Block) → IsReady network chain store db new → (state : Option (Bor LedgerState)) (A : Type 0)
    → MatchOption state A (λ s. Contains db.sides s.now × Follows s.now.tip new) → IfSome state (λ s. IsSide network ((new ∷ blocks_of store) ++ chain) s.now)
beside_ready network chain store db new ready None A is = tt
beside_ready network chain store db new ready (Some s) A is =
    side_among network (blocks_of store ++ chain) ((new ∷ blocks_of store) ++ chain) s.now (λ b member. contains_later new (blocks_of store ++ chain) b member)
    (all_of_member (IsSide network (blocks_of store ++ chain)) db.sides s.now ready.settled.sides is.0)
