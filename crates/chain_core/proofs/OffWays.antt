-- The live blocks that the store finds off its ways are the unconnected ones of each state that the core stands for.
use Rattle.std.proofs.Common.{List, [], ◌∷◌, ◌++◌, Contains, sym, subst}
use Rattle.model.specs.Block.{Block}
use Rattle.model.specs.Ledger.{Network}
use Rattle.model.specs.Chain.{Tip, genesis_tip, tip_after, IsLinked, IsCandidate, immutable_part, live_blocks}
use Rattle.model.specs.History.{State, live_of}
use Rattle.model.specs.Asked.{IsBeside, IsConnected, IsInNoCandidate, AreUnconnected}
use Rattle.model.proofs.Lists.{all_from_members, all_weaker}
use Rattle.model.proofs.MappedLists.{contains_map, contains_before}
use Rattle.blockstore.specs.Stored.{Stored, HasBlock, unmarked}
use Rattle.blockstore.specs.OffWays.{IsOnWay, AreOffWays}
use Rattle.chainsel.proofs.ForCallers.{candidate_on_ways, chain_on_ways}
use Rattle.chain.specs.Chained.{chain_of}
use Rattle.chain_core.specs.declared.chain_db.ChainDb.{ChainDb}
use Rattle.chain_core.specs.ChainDbs.{IsWhole, HasState}

module _ {S : Type 0} (network : Network) (a : ChainDb S) (s : State) (whole : IsWhole network a) (has : HasState network a s) (found : List Block) (are : AreOffWays a.store found) where
  -- live blocks of the state are those of the store
  held : (b : Block) → Contains (live_blocks network s.kept (chain_of a.chain)) b → HasBlock a.store b
  held b live = (has.live.members b).1 (subst (λ (bs : List Block). Contains (live_blocks network s.kept bs) b) has.chain live)

  barred : (b : Block) → Contains found b → IsInNoCandidate network s b
  barred b member c candidate there =
      let x = (are.members b).0 member in
      x.3 (candidate_on_ways network (chain_of a.chain) a.store a.db whole.settled s.kept held c
      (subst (λ (bs : List Block). IsCandidate network s.kept bs c) (sym has.chain) candidate) x.0 x.1 (subst (Contains c) (sym x.2) there))

  beside : (b : Block) → Contains found b → IsBeside network s b
  beside b member =
      let x = (are.members b).0 member in
      record {
        live = (has.live.members b).0 (subst (HasBlock a.store) x.2 (contains_map (λ (y : Stored). y.block) a.store.blocks x.0 x.1));
        apart = λ on_chain. x.3 (chain_on_ways network (chain_of a.chain) a.store a.db whole.settled x.0 x.1
            (subst (Contains (chain_of a.chain)) (sym x.2) (subst (λ (bs : List Block). Contains bs b) (sym has.chain) on_chain)));
      }

  -- a block on a way of the store is connected
  connected : (x : Stored) → IsOnWay a.store x → IsConnected network s x.block
  connected x on = record {
    before = on.way.before;
    live = all_weaker (λ c. Contains a.store.blocks (unmarked c)) (Contains (live_of network s)) on.way.before
        (λ c member. (has.live.members c).0 (contains_map (λ (y : Stored). y.block) a.store.blocks (unmarked c) member)) on.way.members;
    linked = subst (λ (bs : List Block). IsLinked (tip_after genesis_tip (immutable_part network bs)) (on.way.before ++ x.block ∷ [])) has.chain
        (subst (λ (t : Tip). IsLinked t (on.way.before ++ x.block ∷ [])) whole.settled.root on.way.linked);
  }

  each : (b : Block) → IsBeside network s b → (IsConnected network s b → ⊥) → Contains found b
  each b is none =
      let x = contains_before (λ (y : Stored). y.block) a.store.blocks b ((has.live.members b).1 is.live) in
      (are.members b).1 (x.0, x.1, x.2, λ on. none (subst (IsConnected network s) x.2 (connected x.0 on)))

  pub are_unconnected : AreUnconnected network s found
  are_unconnected = record {
    beside = all_from_members (IsBeside network s) found beside;
    barred = all_from_members (IsInNoCandidate network s) found barred;
    each = each;
    once = are.once;
    order = are.order;
  }
