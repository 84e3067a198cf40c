-- From what a search found at a turn to the whole answer, said of every network at once.
use Rattle.std.proofs.Common.{◌≡◌, ℕ, ◌-◌, ◌<◌, ◌≤◌, List, [], ◌∷◌, ◌++◌, length, get_or, Contains, refl, sym, ap, subst, ◌∙◌, arith, inl, inr, append_assoc}
use Rattle.std.specs.Prelude.{None, IfSome}
use Rattle.std.specs.List.{AllByRecursion}
use Rattle.std.specs.Global.{Vec}
use Rattle.model.specs.Genesis.{Genesis}
use Rattle.model.specs.Signature.{Verifies}
use Rattle.model.specs.Block.{Block, block_hash_of}
use Rattle.model.specs.Ledger.{Network, network_on}
use Rattle.model.specs.Chain.{Tip, genesis_tip, tip_at, tip_after, IsLinked, HaveDistinctHashes, immutable_length, immutable_part}
use Rattle.model.proofs.Chains.{linked_front}
use Rattle.model.proofs.Lists.{all_append, all_weaker}
use Rattle.ident.specs.Kinds.{BlockHash}
use Rattle.blockstore.specs.Stored.{Store, blocks_of, unmarked}
use Rattle.blockstore.specs.Ways.{HasWay}
use Rattle.ledger.specs.declared.block_fault.BlockFault.{BlockFault}
use Rattle.ledgerdb.specs.Values.{Database, depth, count}
use Rattle.ledgerdb.specs.Chains.{without_last, IsDatabaseOf, IsPreparedOf}
use Rattle.ledgerdb.specs.Faults.{IsFaultOnChain}
use Rattle.ledgerdb.specs.declared.fork_fault.ForkFault.TheVariants.{Refused}
use Rattle.chainsel.specs.Ready.{IsReady}
use Rattle.chainsel.specs.Choices.{IsSelected, IsChoice, IsFoundDead, AreDeadInAll, IsSideInAll, IsPossible, IsExplained, IsSelectionAnswer}
use Rattle.chainsel.specs.Paths.{Descends, IsBest, IsFitLive, IsLast, IsWay, HasNoWay}
use Rattle.chainsel.specs.declared.selection.Choice.TheVariants as choice
use Rattle.chainsel.specs.declared.selection.Selection.{Selection}
use Rattle.chainsel.specs.declared.selection.Switch.{Switch}
use Rattle.chainsel.proofs.AtHand.{chain_valid}
use Rattle.chainsel.proofs.EndLemmas.{alone_is_best}
use Rattle.chainsel.proofs.Through.{first_new}
use Rattle.chainsel.proofs.Switching.{blocks_there}
use Rattle.chainsel.proofs.Turns.{true_way, immutable_is, stays_by_number, stays_by_way, stays_by_death, switches, dies}
use Rattle.chainsel.proofs.Explaining.{AreShort, when_kept, short_by_number, short_by_way, short_by_death, none_better}

-- ---- by the store alone

unmarked_live : (store : Store) (told : List BlockHash) (b : Block) → IsFitLive store told b → Contains store.blocks (unmarked b)
unmarked_live store told b fit =
    let is : fit.stored ≡ unmarked b = λ i. record { block = fit.block i; invalid = fit.fit.unmarked i } in
    subst (Contains store.blocks) is fit.member

-- no blocks lead to one that no way leads to
leads_nowhere : (network : Network) (chain : List Block) (store : Store) (new : Block) (told : List BlockHash) → store.root ≡ tip_after genesis_tip (immutable_part network chain) → (HasWay store.root store.blocks new → ⊥)
    → HasNoWay store told chain (immutable_length network chain) new new
leads_nowhere network chain store new told root nowhere before all linked =
    elim (first_new store told new before all) [
      | inr fit ↦ nowhere (way before fit linked)
      | inl has ↦
          let whole : before ++ new ∷ [] ≡ (has.before ++ new ∷ []) ++ (has.after ++ new ∷ []) =
          ap (λ (bs : List Block). bs ++ new ∷ []) has.parts ∙ (append_assoc has.before (new ∷ has.after) (new ∷ []) ∙ sym (append_assoc has.before (new ∷ []) (has.after ++ new ∷ []))) in
          nowhere (way has.before has.fit (linked_front tip (has.before ++ new ∷ []) (has.after ++ new ∷ []) (subst (IsLinked tip) whole linked)))
    ]
  where
    tip : Tip
    tip = tip_after genesis_tip (immutable_part network chain)

    way : (bs : List Block) → AllByRecursion (IsFitLive store told) bs → IsLinked tip (bs ++ new ∷ []) → HasWay store.root store.blocks new
    way bs fit on = record {
      before = bs;
      members = all_weaker (IsFitLive store told) (λ c. Contains store.blocks (unmarked c)) bs (unmarked_live store told) fit;
      linked = subst (λ (t : Tip). IsLinked t (bs ++ new ∷ [])) (sym root) on;
    }

-- a block that nothing goes on from is the best of what goes on from it
last_is_best : (store : Store) (told : List BlockHash) (new : Block) → IsLast store new → IsBest store told new new
last_is_best store told new last = alone_is_best store told new none_after
  where
    none_after : (path : List Block) → IsLinked (tip_at new) path → AllByRecursion (IsFitLive store told) path → path ≡ []
    none_after [] linked fit = refl
    none_after (c ∷ cs) linked fit = absurd (last fit.0.stored fit.0.member (ap (λ (d : Block). d.header.previous) fit.0.block ∙ linked.0.previous))

-- no way leads to the block, where the blocks at hand are as they are to be
abbrev pub LeadsNowhere : Store → List BlockHash → (chain : List Block) → (immutable : ℕ) → (new end : Block) → Type 0
LeadsNowhere store told chain immutable new end =
    HaveDistinctHashes (new ∷ blocks_of store) → IsLinked genesis_tip chain → immutable ≤ length chain → HasNoWay store told chain immutable new end

-- past the chain, of which the first blocks are never rolled back, a way leads to the best of all that goes on from the block
pub record IsLed (chain : List Block) (store : Store) (db : Database) (new : Block) (told : List BlockHash) (end : Block) (immutable keep : ℕ) (blocks : List Block) : Type 0 where
  pub best : 0 < new.header.number → IsBest store told new end
  pub longer : length chain < end.header.number
  pub immutable_at : immutable ≡ length chain - depth db
  pub way : IsWay store told chain immutable new end keep blocks

module _ (verifies : Verifies) (chain : List Block) (store : Store) (db : Database) (new : Block) where
  -- a block that comes isn't the genesis
  positive : (genesis : Genesis) (opened : List Block) → IsReady (network_on genesis verifies opened) chain store db new → 0 < new.header.number
  positive genesis opened ready = let past = ready.past in omega arith

  -- ---- where the chain stays
  module _ {S : Type 0} (selection : Selection S) (told : List BlockHash) (keeps : selection.choice ≡ choice.Keep) (tells : selection.invalid.items ≡ told) (dead : AreDeadInAll verifies chain store db new told)
      (beside : IfSome selection.side (IsSideInAll verifies chain store db new)) where
    kept : ((genesis : Genesis) (opened : List Block) → IsReady (network_on genesis verifies opened) chain store db new
        → IsSelected (network_on genesis verifies opened) store chain new chain × AreShort (network_on genesis verifies opened) chain store new told) → IsSelectionAnswer verifies chain store db new selection
    kept each = record {
      choice = λ genesis opened ready. subst (IsChoice (network_on genesis verifies opened) chain store db new) (sym keeps) (each genesis opened ready).0;
      invalid = λ genesis opened ready. subst (AllByRecursion (IsFoundDead (network_on genesis verifies opened) chain (new ∷ blocks_of store))) (sym tells) (dead genesis opened ready);
      told = λ genesis opened ready. when_kept (network_on genesis verifies opened) chain store new selection.invalid.items selection.choice keeps
          (subst (AreShort (network_on genesis verifies opened) chain store new) (sym tells) (each genesis opened ready).1);
      switch = subst (IsPossible chain db) (sym keeps) tt;
      side = beside;
    }

    -- since nothing goes on past it
    pub kept_by_number : (best : Block) → (0 < new.header.number → IsBest store told new best) → best.header.number ≤ length chain → IsSelectionAnswer verifies chain store db new selection
    kept_by_number best is within = kept (λ genesis opened ready.
        let network = network_on genesis verifies opened in
        let is_best = is (positive genesis opened ready) in (
          stays_by_number network chain store db new ready told (dead genesis opened ready) best is_best within,
          short_by_number network chain store db new ready told best is_best within,
        ))

    -- since no way leads to what goes on from the block
    pub kept_by_way : (immutable : ℕ) (b : Block) → immutable ≡ length chain - depth db → Descends store told new b → LeadsNowhere store told chain immutable new b → IsSelectionAnswer verifies chain store db new selection
    kept_by_way immutable b is goes nowhere = kept (λ genesis opened ready.
        let network = network_on genesis verifies opened in
        let found = dead genesis opened ready in
        let same = immutable_is network chain store db new ready immutable (depth db) is refl in
        let no_way = nowhere (ready.alone, ready.settled.distinct) (chain_valid network chain store db new ready).linked (omega (arith, same)) in (
          stays_by_way network chain store db new ready told found immutable b same goes no_way,
          short_by_way network chain store db new ready told found immutable b same goes no_way,
        ))

    -- since no way leads to the block
    pub kept_apart : (HasWay store.root store.blocks new → ⊥) → IsSelectionAnswer verifies chain store db new selection
    kept_apart nowhere = kept (λ genesis opened ready.
        let network = network_on genesis verifies opened in
        let found = dead genesis opened ready in
        let goes : Descends store told new new = record { path = []; linked = tt; members = tt; last = refl } in
        let no_way = leads_nowhere network chain store new told ready.settled.root nowhere in (
          stays_by_way network chain store db new ready told found (immutable_length network chain) new refl goes no_way,
          short_by_way network chain store db new ready told found (immutable_length network chain) new refl goes no_way,
        ))

    -- since the block is the last one of its way, and no further than the chain
    pub kept_short : IsLast store new → new.header.number ≤ length chain → IsSelectionAnswer verifies chain store db new selection
    kept_short last within = kept_by_number new (λ positive_number. last_is_best store told new last) within

    -- since the block is dead itself
    pub kept_by_death : (hash : BlockHash) → Contains told hash → hash.bytes ≡ block_hash_of new → IsSelectionAnswer verifies chain store db new selection
    kept_by_death hash among same = kept (λ genesis opened ready.
        let network = network_on genesis verifies opened in (
          stays_by_death network chain store db new ready told (dead genesis opened ready) hash among same,
          short_by_death network chain store db new ready told hash among same,
        ))

  -- ---- where a way leads past it
  module _ (told : List BlockHash) (dead : AreDeadInAll verifies chain store db new told) (end : Block) (immutable keep : ℕ) (blocks : List Block) (led : IsLed chain store db new told end immutable keep blocks) where
    -- the chain changes
    pub switched : {S : Type 0} (invalid : Vec BlockHash) (switch : Switch S) (read : Vec Block) → invalid.items ≡ told → switch.back ≡ length chain - keep → switch.blocks.items ≡ blocks → switch.prepared.back ≡ switch.back
        → count switch.prepared ≡ length switch.blocks.items
        → ((genesis : Genesis) (opened : List Block) → IsDatabaseOf (network_on genesis verifies opened) chain db → IsPreparedOf (network_on genesis verifies opened) (without_last switch.back chain) switch.blocks.items switch.prepared)
        → IsSelectionAnswer verifies chain store db new (record { choice = choice.Switch switch; invalid = invalid; side = None; read = read })
    switched invalid switch read tells back put_on prepared_back counted prepared = record {
      choice = λ genesis opened ready.
          let network = network_on genesis verifies opened in
          let same = immutable_is network chain store db new ready immutable (depth db) led.immutable_at refl in
          switches network chain store db new ready told (dead genesis opened ready) end (led.best (positive genesis opened ready)) led.longer immutable keep same blocks led.way switch back put_on prepared_back
          (prepared genesis opened ready.settled.database);
      invalid = λ genesis opened ready. subst (AllByRecursion (IsFoundDead (network_on genesis verifies opened) chain (new ∷ blocks_of store))) (sym tells) (dead genesis opened ready);
      told = λ genesis opened ready.
          let network = network_on genesis verifies opened in
          let same = immutable_is network chain store db new ready immutable (depth db) led.immutable_at refl in
          subst (λ (hashes : List BlockHash). IsExplained network chain store new hashes (choice.Switch switch)) (sym tells)
          (none_better network chain store db new ready told (dead genesis opened ready) end (led.best (positive genesis opened ready)) led.longer immutable keep same blocks led.way switch.back switch.blocks.items back put_on);
      switch =
          let low = led.way.low in
          let immutable_at = led.immutable_at in
          record {
            on_chain = omega (arith, back);
            within = omega (arith, back, low, immutable_at);
            back = prepared_back;
            count = counted;
          };
      side = tt;
    }

    -- the first of its blocks that isn't applied is dead, beside those that were
    pub one_dead : (index : ℕ) (fault : BlockFault) (b : Block) (hash : BlockHash)
        → ((genesis : Genesis) (opened : List Block) → IsDatabaseOf (network_on genesis verifies opened) chain db → IsFaultOnChain (network_on genesis verifies opened) (without_last (length chain - keep) chain) blocks (Refused index fault))
        → get_or blocks index b ≡ b → hash.bytes ≡ block_hash_of b → AreDeadInAll verifies chain store db new (told ++ hash ∷ [])
    one_dead index fault b hash stops here named genesis opened ready =
        let network = network_on genesis verifies opened in
        let found = dead genesis opened ready in
        let same = immutable_is network chain store db new ready immutable (depth db) led.immutable_at refl in
        all_append (IsFoundDead network chain (new ∷ blocks_of store)) told (hash ∷ []) found (
          dies network chain store db new ready told found end (led.best (positive genesis opened ready)) led.longer immutable keep same blocks led.way index fault b hash (stops genesis opened ready.settled.database) here named,
          tt,
        )

    -- the blocks of the way are live, or the one that came
    pub way_there : (genesis : Genesis) (opened : List Block) → IsReady (network_on genesis verifies opened) chain store db new → AllByRecursion (Contains (new ∷ blocks_of store)) blocks
    way_there genesis opened ready =
        let network = network_on genesis verifies opened in
        let same = immutable_is network chain store db new ready immutable (depth db) led.immutable_at refl in
        blocks_there network chain store db new ready told (dead genesis opened ready) end (led.best (positive genesis opened ready)) led.longer keep blocks
        (true_way network chain store db new ready told (dead genesis opened ready) end (led.best (positive genesis opened ready)) led.longer immutable keep same blocks led.way)
