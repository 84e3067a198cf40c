-- A block that is kept: the chain, the store and the states are settled again.
use Rattle.std.proofs.Common.{◌≡◌, ℕ, ◌+◌, ◌-◌, ◌<◌, ◌≤◌, true, false, List, [], ◌∷◌, ◌++◌, length, take, drop, Contains, refl, sym, ap, subst, ◌∙◌, arith, inl, inr}
use Rattle.std.specs.Prelude.{min, max, Option, Result, Ok, Err, IfOk, IfSome, OnErr}
use Rattle.std.specs.declared.alloc.AllocError.{AllocError}
use Rattle.std.specs.List.{AllByRecursion}
use Rattle.std.proofs.lemmas.List.{length-append, length-take, take-append-drop}
use Rattle.model.proofs.FollowerSteps.{begins_not_longer}
use Rattle.std.proofs.lemmas.List.Elements.{Contains-append_left, Contains-append_right, Contains-append_cases}
use Rattle.model.specs.Block.{Block}
use Rattle.model.specs.Ledger.{Network}
use Rattle.model.specs.Chain.{Tip, HaveDistinctHashes, IsLinked, genesis_tip, tip_after, immutable_length, immutable_part}
use Rattle.model.specs.Rules.{Params}
use Rattle.model.specs.Applying.{LedgerState, IsStateOf}
use Rattle.model.specs.Mempool.{SubmitReply}
use Rattle.model.specs.History.{IsChange}
use Rattle.model.proofs.Lists.{all_of_member, all_from_members, all_drop, all_push, contains_first, contains_later, contains_cases}
use Rattle.model.proofs.MappedLists.{contains_map, contains_before}
use Rattle.model.proofs.Chains.{one_with_hash, linked_front, length_immutable, tip_number}
use Rattle.model.proofs.Selections.{selection_not_shorter}
use Rattle.ident.specs.Kinds.{BlockHash}
use Rattle.blockstore.specs.Stored.{Stored, Store, unmarked, HasBlock, blocks_of}
use Rattle.ledgerdb.specs.Values.{Database, depth, count, most_sides}
use Rattle.ledgerdb.specs.Chains.{without_last, IsDatabaseOf, IsPreparedOf}
use Rattle.ledgerdb.proofs.ForCallers.{prepared_count, database_valid, beside_any}
use Rattle.chainsel.specs.Dead.{IsDead}
use Rattle.chainsel.specs.Sides.{IsSide}
use Rattle.chainsel.specs.Ready.{IsSettled, IsReady}
use Rattle.chainsel.specs.Choices.{IsSelected, IsFoundDead, IsSwitch}
use Rattle.chainsel.specs.declared.selection.Switch.{Switch}
use Rattle.chainsel.proofs.ForCallers.{at_hand, dead_with, sides_among, selection_at_hand, IsNextStore, settled_again, switched_at_hand, depth_next}
use Rattle.chain.specs.Chained.{chain_of}
use Rattle.chain.specs.Indexed.{first_hashes}
use Rattle.chain_core.specs.declared.chain_db.ChainDb.{ChainDb}
use Rattle.chain_core.specs.declared.chain_db.Change.{Change}
use Rattle.mempool.specs.Contents.{Mempool, Waiting}
use Rattle.mempool.specs.Calls.{IsSubmission}
use Rattle.mempool.specs.View.{reply_of}
use Rattle.mempool.specs.declared.reply.SubmitReply.{SubmitReply as CodeReply}
use Rattle.chain_core.specs.Mempools.{IsMempoolOf, IsResynced}
use Rattle.chain_core.proofs.Mempools.{mempool_resynced, stay_resynced, submits, mempool_after}
use Rattle.chain_core.proofs.PastHashes.{indexed_long}
use Rattle.chain_core.specs.ChainDbs.{IsWhole, IsAdded, IsTakenIn, IsCutBack, IsCommitted, IsBeside, IsTaken}

-- where ways begin after a switch
root_of_cut : (network : Network) (chain : List Block) (number : ℕ) (root : Tip) → IsLinked genesis_tip chain → number ≡ immutable_length network chain → root ≡ record (tip_after genesis_tip (take number chain)) { number = number }
    → root ≡ tip_after genesis_tip (immutable_part network chain)
root_of_cut network chain number root linked is at = at ∙ (same ∙ ap (λ (n : ℕ). tip_after genesis_tip (take n chain)) is)
  where
    part : List Block
    part = take number chain

    long : length part ≡ number
    long = ap (λ (n : ℕ). length (take n chain)) is ∙ (length_immutable network chain ∙ sym is)

    number_of : number ≡ (tip_after genesis_tip part).number
    number_of =
        let e = tip_number genesis_tip part (linked_front genesis_tip part (drop number chain) (subst (IsLinked genesis_tip) (sym (take-append-drop number chain)) linked)) in
        omega (arith, e, long)

    same : record (tip_after genesis_tip part) { number = number } ≡ tip_after genesis_tip part
    same = λ i. record { number = number_of i; slot = (tip_after genesis_tip part).slot; hash = (tip_after genesis_tip part).hash }

module _ (network : Network) (chain : List Block) (store : Store) (db : Database) (new : Block) (ready : IsReady network chain store db new) (invalid : List BlockHash)
    (found : AllByRecursion (IsFoundDead network chain (new ∷ blocks_of store)) invalid) (mid : Store) (taken : IsTakenIn store new invalid mid) where
  distinct : HaveDistinctHashes (new ∷ blocks_of store)
  distinct = (ready.alone, ready.settled.distinct)

  -- the blocks that there were, and this one
  pub was : (b : Block) → HasBlock mid b → Contains (new ∷ blocks_of store) b
  was b has =
      let x = contains_before (λ (s : Stored). s.block) taken.between.blocks b ((taken.marked.blocks b).0 has) in
      elim ((taken.inserted.members x.0).0 x.1) [
        | inl old ↦ contains_later new (blocks_of store) b (subst (Contains (blocks_of store)) x.2 (contains_map (λ (s : Stored). s.block) store.blocks x.0 old))
        | inr is ↦ subst (Contains (new ∷ blocks_of store)) (sym (ap (λ (s : Stored). s.block) is) ∙ x.2) (contains_first new (blocks_of store))
      ]

  pub still : (b : Block) → Contains (new ∷ blocks_of store) b → HasBlock mid b
  still b member =
      (taken.marked.blocks b).1
      (elim (contains_cases new (blocks_of store) b member) [
        | inl is ↦ subst (HasBlock taken.between) is (contains_map (λ (s : Stored). s.block) taken.between.blocks (unmarked new) ((taken.inserted.members (unmarked new)).1 (inr refl)))
        | inr live ↦
            let x = contains_before (λ (s : Stored). s.block) store.blocks b live in
            subst (HasBlock taken.between) x.2 (contains_map (λ (s : Stored). s.block) taken.between.blocks x.0 ((taken.inserted.members x.0).1 (inl x.1)))
      ])

  -- what has a mark is dead
  pub marks : (s : Stored) → Contains mid.blocks s → s.invalid ≡ true → IsDead network chain (new ∷ blocks_of store) s.block
  marks s member marked =
      elim (taken.marked.marks s member marked) [
        | inl old ↦ elim ((taken.inserted.members old.0).0 old.1) [
          | inl there ↦
              subst (IsDead network chain (new ∷ blocks_of store)) old.2
              (dead_with network chain (blocks_of store) new old.0.block ready.past (all_of_member (λ (x : Stored). x.invalid ≡ true → IsDead network chain (blocks_of store) x.block) store.blocks old.0 ready.settled.marks there old.3))
          | inr is ↦ absurd (let e : false ≡ true = sym (ap (λ (x : Stored). x.invalid) is) ∙ old.3 in cc)
        ]
        | inr named ↦
            let is = all_of_member (IsFoundDead network chain (new ∷ blocks_of store)) invalid named.0 found named.1 in
            let there = was s.block (contains_map (λ (x : Stored). x.block) mid.blocks s member) in
            subst (IsDead network chain (new ∷ blocks_of store)) (one_with_hash (new ∷ blocks_of store) is.block s.block distinct is.member there (is.same ∙ sym named.2)) is.dead
      ]

  past_all : AllByRecursion (λ b. immutable_length network chain < b.header.number) (new ∷ blocks_of store)
  past_all = (ready.past, ready.settled.past)

  -- the chain stays
  pub kept_store : IsNextStore network chain store db new ready chain mid
  kept_store = record {
    root = taken.marked.root ∙ (taken.inserted.root ∙ ready.settled.root);
    was = was;
    still = λ b member past. still b member;
    past = all_from_members (λ b. immutable_length network chain < b.header.number) (blocks_of mid) (λ b member. all_of_member (λ c. immutable_length network chain < c.header.number) (new ∷ blocks_of store) b past_all (was b member));
    distinct = taken.set.distinct;
    marks = marks;
  }

  -- or changes
  pub cut_store : (next_chain : List Block) (number : ℕ) (next : Store) → number ≡ immutable_length network next_chain → IsLinked genesis_tip next_chain → IsCutBack mid next_chain number next → IsNextStore network chain store db new ready next_chain next
  cut_store next_chain number next is linked cut = record {
    root = root_of_cut network next_chain number next.root linked is cut.root;
    was = λ b has.
        let x = contains_before (λ (s : Stored). s.block) next.blocks b has in
        was b (subst (HasBlock mid) x.2 (contains_map (λ (s : Stored). s.block) mid.blocks x.0 ((cut.cut.members x.0).0 x.1).0));
    still = λ b member past.
        let x = contains_before (λ (s : Stored). s.block) mid.blocks b (still b member) in
        let number_of : x.0.block.header.number ≡ b.header.number = ap (λ (c : Block). c.header.number) x.2 in
        subst (HasBlock next) x.2 (contains_map (λ (s : Stored). s.block) next.blocks x.0 ((cut.cut.members x.0).1 (x.1, omega (arith, past, is, number_of))));
    past = all_from_members (λ b. immutable_length network next_chain < b.header.number) (blocks_of next)
        (λ b member.
        let x = contains_before (λ (s : Stored). s.block) next.blocks b member in
        let above = ((cut.cut.members x.0).0 x.1).1 in
        let number_of : x.0.block.header.number ≡ b.header.number = ap (λ (c : Block). c.header.number) x.2 in
        omega (arith, above, is, number_of));
    distinct = cut.set.distinct;
    marks = λ s member marked. marks s ((cut.cut.members s).0 member).0 marked;
  }

-- ---- states beside the chain

-- what is kept beside the chain is all that may have changed of the database
beside_alone : (old new : Database) (side : Option LedgerState) → IsBeside old side new → new ≡ record old { sides = new.sides }
beside_alone old new side is =
    elim is [
      | inl same ↦ subst (λ (d : Database). d ≡ record old { sides = d.sides }) (sym same) refl
      | inr kept ↦ subst (λ (d : Database). d ≡ record old { sides = d.sides }) (sym kept.2) refl
    ]

beside_all : (P : LedgerState → Type 0) (old new : Database) (side : Option LedgerState) → IsBeside old side new → AllByRecursion P old.sides → IfSome side P → AllByRecursion P new.sides
beside_all P old new side is all one =
    elim is [
      | inl same ↦ subst (λ (d : Database). AllByRecursion P d.sides) (sym same) all
      | inr kept ↦
          let s = kept.0 in
          subst (λ (d : Database). AllByRecursion P d.sides) (sym kept.2)
          (all_drop P (length (old.sides ++ s ∷ []) - most_sides) (old.sides ++ s ∷ []) (all_push P old.sides s all (subst (λ (o : Option LedgerState). IfSome o P) kept.1 one)))
    ]

-- where the chain, the store and the states stay it is settled still
settled_same : {S : Type 0} (network : Network) (old new : ChainDb S) → (chain_of new.chain) ≡ (chain_of old.chain) → new.store ≡ old.store → new.db ≡ old.db → IsWhole network old → IsSettled network (chain_of new.chain) new.store new.db
settled_same network old new chain store db whole =
    subst (λ (c : List Block). IsSettled network c new.store new.db) (sym chain)
    (subst (λ (x : Store). IsSettled network (chain_of old.chain) x new.db) (sym store) (subst (λ (d : Database). IsSettled network (chain_of old.chain) old.store d) (sym db) whole.settled))

-- and whole, where the mempool stays and what is indexed
pub whole_same : {S : Type 0} (network : Network) (old new : ChainDb S) → new.opened ≡ old.opened → (chain_of new.chain) ≡ (chain_of old.chain) → new.chain.gone ≡ old.chain.gone → new.store ≡ old.store → new.db ≡ old.db → new.mempool ≡ old.mempool
    → new.past.hashes ≡ old.past.hashes → IsWhole network old → IsWhole network new
whole_same network old new opened chain gone store db mempool indexed whole = record {
  gone = gone ∙ whole.gone;
  opened = opened ∙ whole.opened;
  settled = settled_same network old new chain store db whole;
  k = ap (λ (d : Database). d.k) db ∙ whole.k;
  capacity = ap (λ (x : Store). x.capacity) store ∙ whole.capacity;
  mempool = subst (λ (c : List Block). IsMempoolOf network c new.mempool) (sym chain) (subst (IsMempoolOf network (chain_of old.chain)) (sym mempool) whole.mempool);
  past = indexed ∙ (whole.past ∙ ap (λ (c : List Block). first_hashes (immutable_length network c) c) (sym chain));
}

-- ---- a submission, which leaves another mempool and nothing else

pub taken : {S : Type 0} (network : Network) (old : ChainDb S) (mempool : Mempool) (state : LedgerState) (params : Params) (slot : ℕ) (bytes : List ℕ) (reply : SubmitReply) → IsWhole network old → IsStateOf network (chain_of old.chain) state → params ≡ state.params → slot ≡ state.tip.slot
    → IsSubmission network.verifies params (slot + 1) old.mempool bytes reply mempool → IsTaken network old bytes reply (record old { mempool = mempool })
taken network old mempool state params slot bytes reply whole is params_is slot_is submission = record {
  submits = submits network (chain_of old.chain) state is old.mempool mempool whole.mempool params slot bytes reply params_is slot_is submission;
  whole = record {
    gone = whole.gone;
    opened = whole.opened;
    settled = whole.settled;
    k = whole.k;
    capacity = whole.capacity;
    mempool = mempool_after network (chain_of old.chain) state is old.mempool mempool whole.mempool params slot bytes reply params_is slot_is submission;
    past = whole.past;
  };
}

-- so it is whole after a submission, whatever is answered
pub whole_after : {S : Type 0} (network : Network) (old : ChainDb S) (mempool : Mempool) (bytes : List ℕ) (result : Result CodeReply AllocError) → IfOk result (λ reply. IsTaken network old bytes (reply_of reply) (record old { mempool = mempool })) → OnErr result (mempool ≡ old.mempool)
    → IsWhole network old → IsWhole network (record old { mempool = mempool })
whole_after network old mempool bytes (Ok reply) ok err whole = ok.whole
whole_after network old mempool bytes (Err e) ok err whole = subst (λ (p : Mempool). IsWhole network (record old { mempool = p })) (sym err) whole

-- ---- the index at a switch

-- What is indexed isn't rolled back, and where there is room for as many blocks more as are put on, there is for what no
-- rollback reaches behind them.
pub indexed_stays : {S : Type 0} (network : Network) (old : ChainDb S) → IsWhole network old → (back : ℕ) → back ≤ depth old.db → length old.past.hashes ≤ length (chain_of old.chain) - back
indexed_stays network old whole back within =
    let n = indexed_long network old whole in
    let d = whole.settled.depth in
    omega (arith, n, d, within)

pub room_at_switch : {S : Type 0} (network : Network) (old : ChainDb S) → IsWhole network old → (back prepared_back counted added k room : ℕ) → back ≤ depth old.db → prepared_back ≡ back → counted ≡ added → k ≡ old.db.k → length old.past.hashes + added ≤ room
    → length (chain_of old.chain) - back + added - min k (depth old.db - prepared_back + counted) ≤ room
room_at_switch network old whole back prepared_back counted added k room within back_is counted_is k_is room_is =
    let n = indexed_long network old whole in
    let d = whole.settled.depth in
    let kk = whole.k in
    omega (arith, n, d, kk, within, back_is, counted_is, k_is, room_is)

-- ---- all that is kept

module _ {S : Type 0} (network : Network) (old : ChainDb S) (new : Block) (whole : IsWhole network old) (ready : IsReady network (chain_of old.chain) old.store old.db new) (invalid : List BlockHash)
    (found : AllByRecursion (IsFoundDead network (chain_of old.chain) (new ∷ blocks_of old.store)) invalid) where
  -- the chain stays
  pub added_kept : (next : ChainDb S) (told : Change) (side : Option LedgerState) → IsTakenIn old.store new invalid next.store → next ≡ record old { store = next.store; db = next.db } → told.back ≡ 0 → told.added ≡ 0
      → IsSelected network old.store (chain_of old.chain) new (chain_of old.chain) → IsBeside old.db side next.db → IfSome side (IsSide network (at_hand (chain_of old.chain) old.store new)) → IsAdded network old new next told
  added_kept next told side taken frame no_back none_added selected beside one = subst (λ (a : ChainDb S). IsAdded network old new a told) (sym frame) (record {
    selected = selected;
    change = no_change (chain_of old.chain) told.back told.added no_back none_added;
    live = λ kept holds. taken.marked.live network (new ∷ kept) (chain_of old.chain) (taken.gains network kept (chain_of old.chain) holds ready.past);
    mempool = sym whole.mempool.valid;
    whole = record {
      gone = whole.gone;
      opened = whole.opened;
      settled = settled_again network (chain_of old.chain) old.store old.db new ready (chain_of old.chain) next.store next.db selected
          (all_from_members (Contains (at_hand (chain_of old.chain) old.store new)) (chain_of old.chain) (λ b member. Contains-append_right (new ∷ blocks_of old.store) (chain_of old.chain) b member))
          (kept_store network (chain_of old.chain) old.store old.db new ready invalid found next.store taken)
          (subst (IsDatabaseOf network (chain_of old.chain)) (sym alone) (beside_any network (chain_of old.chain) old.db next.db.sides ready.settled.database))
          (ap depth alone ∙ ready.settled.depth) sides;
      k = ap (λ (d : Database). d.k) alone ∙ whole.k;
      capacity = taken.marked.capacity ∙ (taken.inserted.capacity ∙ whole.capacity);
      mempool = whole.mempool;
      past = whole.past;
    };
  })
    where
      alone : next.db ≡ record old.db { sides = next.db.sides }
      alone = beside_alone old.db next.db side beside

      live_still : (b : Block) → Contains (new ∷ blocks_of old.store) b → Contains (blocks_of next.store ++ (chain_of old.chain)) b
      live_still b member = Contains-append_left (blocks_of next.store) (chain_of old.chain) b (still network (chain_of old.chain) old.store old.db new ready invalid found next.store taken b member)

      still_at_hand : (b : Block) → Contains (at_hand (chain_of old.chain) old.store new) b → Contains (blocks_of next.store ++ (chain_of old.chain)) b
      still_at_hand b member =
          elim (Contains-append_cases (new ∷ blocks_of old.store) (chain_of old.chain) b member) [
            | inl live ↦ live_still b live
            | inr on_chain ↦ Contains-append_right (blocks_of next.store) (chain_of old.chain) b on_chain
          ]

      sides : AllByRecursion (IsSide network (blocks_of next.store ++ (chain_of old.chain))) next.db.sides
      sides =
          sides_among network (at_hand (chain_of old.chain) old.store new) (blocks_of next.store ++ (chain_of old.chain)) next.db.sides still_at_hand
          (beside_all (IsSide network (at_hand (chain_of old.chain) old.store new)) old.db next.db side beside
          (sides_among network (blocks_of old.store ++ (chain_of old.chain)) (at_hand (chain_of old.chain) old.store new) old.db.sides (λ b member. contains_later new (blocks_of old.store ++ (chain_of old.chain)) b member) ready.settled.sides) one)

      no_change : (c : List Block) (back added : ℕ) → back ≡ 0 → added ≡ 0 → IsChange c c back added
      no_change c back added b a = record {
        common = length c;
        is_common = record { in_old = omega arith; in_new = omega arith; common = refl; longest = λ m within too same. within };
        left = omega (arith, b);
        put_on = omega (arith, a);
      }

  -- or changes
  pub added_switched : (switch : Switch S) (mid : Store) (next : ChainDb S) (told : Change) → IsSwitch network (chain_of old.chain) old.store old.db new switch → IsTakenIn old.store new invalid mid
      → next.chain.gone ≡ [] → (chain_of next.chain) ≡ without_last switch.back (chain_of old.chain) ++ switch.blocks.items → IsCommitted old.db switch.prepared next.db → IsCutBack mid (chain_of next.chain) (length (chain_of next.chain) - depth next.db) next.store
      → (waiting : Waiting) → IsResynced network (without_last switch.back (chain_of old.chain) ++ switch.blocks.items) old.mempool.waiting.txs waiting → next.mempool ≡ record old.mempool { waiting = waiting }
      → next.past.hashes ≡ first_hashes (max (length old.past.hashes) (length (chain_of next.chain) - depth next.db)) (chain_of next.chain) → next.opened ≡ old.opened → told.back ≡ switch.back → told.added ≡ length switch.blocks.items → IsAdded network old new next told
  added_switched switch mid next told is taken none chain_is committed cut waiting resynced mempool_is indexed same_opened back_is added_is = record {
    selected = selected;
    change = subst (λ (n : ℕ). IsChange (chain_of old.chain) (chain_of next.chain) told.back n) (sym added_is)
        (subst (λ (n : ℕ). IsChange (chain_of old.chain) (chain_of next.chain) n (length switch.blocks.items)) (sym back_is)
        (subst (λ (c : List Block). IsChange (chain_of old.chain) c switch.back (length switch.blocks.items)) (sym chain_is) is.change));
    live = λ kept holds. cut.live network (new ∷ kept) (chain_of old.chain) (chain_of next.chain)
        (taken.marked.live network (new ∷ kept) (chain_of old.chain) (taken.gains network kept (chain_of old.chain) holds ready.past)) further number;
    mempool = stay_resynced network (chain_of next.chain) old.mempool next.mempool waiting resynced_here mempool_is;
    whole = record {
      gone = none;
      opened = same_opened ∙ whole.opened;
      settled = settled_again network (chain_of old.chain) old.store old.db new ready (chain_of next.chain) next.store next.db selected
          (subst (AllByRecursion (Contains (at_hand (chain_of old.chain) old.store new))) (sym chain_is) (switched_at_hand (chain_of old.chain) old.store new switch.back switch.blocks.items is.members))
          (cut_store network (chain_of old.chain) old.store old.db new ready invalid found mid taken (chain_of next.chain) (length (chain_of next.chain) - depth next.db) next.store number (database_valid network (chain_of next.chain) next.db database).linked cut)
          database deep (subst (AllByRecursion (IsSide network (blocks_of next.store ++ (chain_of next.chain)))) (sym committed.sides) tt);
      k = committed.k ∙ whole.k;
      capacity = cut.cut.capacity ∙ (taken.marked.capacity ∙ (taken.inserted.capacity ∙ whole.capacity));
      mempool = mempool_resynced network (chain_of next.chain) old.mempool next.mempool waiting whole.mempool.capacity resynced_here mempool_is;
      past = indexed ∙ ap (λ (n : ℕ). first_hashes n (chain_of next.chain)) first_ones;
    };
  }
    where
      resynced_here : IsResynced network (chain_of next.chain) old.mempool.waiting.txs waiting
      resynced_here = subst (λ (c : List Block). IsResynced network c old.mempool.waiting.txs waiting) (sym chain_is) resynced

      selected : IsSelected network old.store (chain_of old.chain) new (chain_of next.chain)
      selected = subst (IsSelected network old.store (chain_of old.chain) new) (sym chain_is) is.selected

      longer : length (chain_of old.chain) ≤ length (chain_of next.chain)
      longer = selection_not_shorter network (at_hand (chain_of old.chain) old.store new) (chain_of old.chain) (chain_of next.chain) (selection_at_hand network (chain_of old.chain) old.store old.db new ready (chain_of next.chain) selected)

      further : immutable_length network (chain_of old.chain) ≤ immutable_length network (chain_of next.chain)
      further = let le = longer in omega (arith, le)

      prepared_is : IsPreparedOf network (without_last switch.prepared.back (chain_of old.chain)) switch.blocks.items switch.prepared
      prepared_is = subst (λ (n : ℕ). IsPreparedOf network (without_last n (chain_of old.chain)) switch.blocks.items switch.prepared) (sym is.back) is.prepared

      database : IsDatabaseOf network (chain_of next.chain) next.db
      database =
          subst (λ (c : List Block). IsDatabaseOf network c next.db) (ap (λ (n : ℕ). without_last n (chain_of old.chain) ++ switch.blocks.items) is.back ∙ sym chain_is)
          (committed.chain network (chain_of old.chain) switch.blocks.items ready.settled.database prepared_is)

      within : switch.back ≤ depth old.db
      within = is.within

      counted : count switch.prepared ≡ length switch.blocks.items
      counted = prepared_count network (without_last switch.prepared.back (chain_of old.chain)) switch.blocks.items switch.prepared prepared_is

      long : length (chain_of next.chain) ≡ length (chain_of old.chain) - switch.back + length switch.blocks.items
      long =
          let e = ap length chain_is in
          let d = ready.settled.depth in
          let w = within in
          omega (arith, e, length-append (without_last switch.back (chain_of old.chain)) switch.blocks.items, length-take (length (chain_of old.chain) - switch.back) (chain_of old.chain))

      deep : depth next.db ≡ length (chain_of next.chain) - immutable_length network (chain_of next.chain)
      deep =
          committed.depth
          ∙ (ap (λ (n : ℕ). min n (depth old.db - switch.prepared.back + count switch.prepared)) whole.k
          ∙ (ap (λ (n : ℕ). min network.genesis.k (depth old.db - n + count switch.prepared)) is.back
          ∙ (ap (λ (n : ℕ). min network.genesis.k (depth old.db - switch.back + n)) counted
          ∙ (depth_next network.genesis.k (length network.opened) (length (chain_of old.chain)) (depth old.db) switch.back (length switch.blocks.items) ready.settled.depth (begins_not_longer (chain_of old.chain) network.opened ready.settled.opened) within
          (let l = long in let le = longer in let d = ready.settled.depth in let w = within in omega (arith, l, le, d, w))
          ∙ ap (λ (n : ℕ). n - min n (max (n - network.genesis.k) (length network.opened))) (sym long)))))

      number : length (chain_of next.chain) - depth next.db ≡ immutable_length network (chain_of next.chain)
      number = let d = deep in omega (arith, d)

      first_ones : max (length old.past.hashes) (length (chain_of next.chain) - depth next.db) ≡ immutable_length network (chain_of next.chain)
      first_ones = let n = indexed_long network old whole in let f = further in let m = number in omega (arith, n, f, m)

  pub added_at_switch : (switch : Switch S) (mid next : ChainDb S) (told : Change) → IsSwitch network (chain_of old.chain) old.store old.db new switch → IsTakenIn old.store new invalid mid.store
      → (chain_of mid.chain) ≡ (chain_of old.chain) → mid.db ≡ old.db → next.chain.gone ≡ [] → (chain_of next.chain) ≡ without_last switch.back (chain_of mid.chain) ++ switch.blocks.items → IsCommitted mid.db switch.prepared next.db
      → IsCutBack mid.store (chain_of next.chain) (length (chain_of next.chain) - depth next.db) next.store
      → (waiting : Waiting) → IsResynced network (without_last switch.prepared.back (chain_of old.chain) ++ switch.blocks.items) old.mempool.waiting.txs waiting → next.mempool ≡ record old.mempool { waiting = waiting }
      → next.past.hashes ≡ first_hashes (max (length old.past.hashes) (length (chain_of next.chain) - depth next.db)) (chain_of next.chain) → next.opened ≡ old.opened → (told.back ≡ switch.back) × (told.added ≡ length switch.blocks.items) → IsAdded network old new next told
  added_at_switch switch mid next told is taken same_chain same_db none chain_is committed cut waiting resynced mempool_is indexed same_opened told_is =
      added_switched switch mid.store next told is taken none (chain_is ∙ ap (λ (c : List Block). without_last switch.back c ++ switch.blocks.items) same_chain)
      (subst (λ (d : Database). IsCommitted d switch.prepared next.db) same_db committed) cut waiting
      (subst (λ (n : ℕ). IsResynced network (without_last n (chain_of old.chain) ++ switch.blocks.items) old.mempool.waiting.txs waiting) is.back resynced) mempool_is indexed same_opened told_is.0 told_is.1
