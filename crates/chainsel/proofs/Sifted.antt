-- What is judged on the state of the block before it: the state after it, or that it is dead.
use Rattle.std.proofs.Common.{◌≡◌, List, [], ◌∷◌, ◌++◌, Contains, sym, subst}
use Rattle.std.specs.List.{AllByRecursion}
use Rattle.std.proofs.lemmas.List.Elements.{Contains-append_left}
use Rattle.model.specs.Block.{Block, block_hash_of}
use Rattle.model.specs.Ledger.{Network}
use Rattle.model.specs.Chain.{Tip, genesis_tip, tip_at, Follows}
use Rattle.model.specs.Applying.{LedgerState, BlockFault, HasFault, IsApplied}
use Rattle.model.proofs.Lists.{all_push, contains_later}
use Rattle.model.proofs.AppliedBlocks.{state_push}
use Rattle.ident.specs.Kinds.{BlockHash}
use Rattle.blockstore.specs.Stored.{Store, blocks_of}
use Rattle.chainsel.specs.Choices.{IsFoundDead}
use Rattle.chainsel.specs.Judged.{IsStateAt, IsSifted}
use Rattle.chainsel.specs.declared.sifting.Judged.{Judged}
use Rattle.chainsel.proofs.AtHand.{at_hand}
use Rattle.chainsel.proofs.Deaths.{fault_dead}
use Rattle.chainsel.proofs.Tips.{tip_of_pushed, linked_push}

module _ (network : Network) (chain : List Block) (store : Store) (new : Block) where
  -- a live block is at hand
  live_there : (d : Block) → Contains (blocks_of store) d → Contains (at_hand chain store new) d
  live_there d live = Contains-append_left (new ∷ blocks_of store) chain d (contains_later new (blocks_of store) d live)

  path_there : (b d : Block) (s : LedgerState) (is : IsStateAt network chain store new b s) → Contains (blocks_of store) d → AllByRecursion (Contains (at_hand chain store new)) (is.path ++ d ∷ [])
  path_there b d s is live = all_push (Contains (at_hand chain store new)) is.path d is.members (live_there d live)

  -- the block that follows is applied
  pub state_next : (b d : Block) (s t : LedgerState) → IsStateAt network chain store new b s → IsApplied network.verifies s d t → Contains (blocks_of store) d → IsStateAt network chain store new d t
  state_next b d s t is applied live = record {
    path = is.path ++ d ∷ [];
    state = state_push network is.path s d t is.state applied;
    ends = tip_of_pushed genesis_tip is.path d;
    members = path_there b d s is live;
  }

  -- or it has a fault, and so is dead
  pub dead_next : (b d : Block) (s : LedgerState) (fault : BlockFault) (hash : BlockHash) → IsStateAt network chain store new b s → Follows (tip_at b) d → HasFault network.verifies s d fault
      → Contains (blocks_of store) d → hash.bytes ≡ block_hash_of d → IsFoundDead network chain (new ∷ blocks_of store) hash
  dead_next b d s fault hash is follows has live named = record {
    block = d;
    member = contains_later new (blocks_of store) d live;
    same = sym named;
    dead = fault_dead network chain (new ∷ blocks_of store) is.path s d fault
        (linked_push genesis_tip is.path d is.state.linked (subst (λ (t : Tip). Follows t d) (sym is.ends) follows)) (path_there b d s is live) is.state has;
  }

  -- one more waits
  pub sifted_waiting : {S : Type 0} (found : List BlockHash) (waiting : List (Judged S)) (j : Judged S) → IsSifted network chain store new found waiting → IsStateAt network chain store new j.block.now j.state
      → IsSifted network chain store new found (waiting ++ j ∷ [])
  sifted_waiting {S} found waiting j is state = record {
    dead = is.dead;
    judged = all_push (λ (k : Judged S). IsStateAt network chain store new k.block.now k.state) waiting j is.judged state;
  }

  -- one more is dead
  pub sifted_dead : {S : Type 0} (found : List BlockHash) (waiting : List (Judged S)) (hash : BlockHash) → IsSifted network chain store new found waiting → IsFoundDead network chain (new ∷ blocks_of store) hash
      → IsSifted network chain store new (found ++ hash ∷ []) waiting
  sifted_dead found waiting hash is dead = record {
    dead = all_push (IsFoundDead network chain (new ∷ blocks_of store)) found hash is.dead dead;
    judged = is.judged;
  }

  -- the last that waits is taken out
  pub sifted_popped : {S : Type 0} (found : List BlockHash) (waiting rest : List (Judged S)) (j : Judged S) → waiting ≡ rest ++ j ∷ [] → IsSifted network chain store new found waiting
      → IsSifted network chain store new found rest × IsStateAt network chain store new j.block.now j.state
  sifted_popped {S} found waiting rest j is sifted =
      let parts = split rest j (subst (AllByRecursion (λ (k : Judged S). IsStateAt network chain store new k.block.now k.state)) is sifted.judged) in
      (record { dead = sifted.dead; judged = parts.0 }, parts.1)
    where
      split : (xs : List (Judged S)) (x : Judged S) → AllByRecursion (λ (k : Judged S). IsStateAt network chain store new k.block.now k.state) (xs ++ x ∷ [])
          → AllByRecursion (λ (k : Judged S). IsStateAt network chain store new k.block.now k.state) xs × IsStateAt network chain store new x.block.now x.state
      split [] x all = (tt, all.0)
      split (y ∷ ys) x all = let more = split ys x all.1 in ((all.0, more.0), more.1)
