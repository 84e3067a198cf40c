-- From one selection to the next: what was settled before a block came is settled after it.
use Rattle.std.proofs.Common.{◌≡◌, ◌≢◌, ℕ, ◌+◌, ◌-◌, ◌<◌, ◌≤◌, Bool, true, false, cond, List, [], ◌∷◌, ◌++◌, length, map, Contains, refl, sym, ap, subst, ◌∙◌, arith, inl, inr, append-nil, drop}
use Rattle.std.specs.Prelude.{nat_lt, min, max}
use Rattle.std.specs.List.{AllByRecursion, filter}
use Rattle.std.proofs.lemmas.Bool.{cases_lt, lt-ltb, ltb-true}
use Rattle.std.proofs.lemmas.List.{length-map, take-append-drop, take_all}
use Rattle.std.proofs.lemmas.List.Elements.{Contains-append_left, Contains-append_right, Contains-append_cases, filter-append}
use Rattle.model.specs.Block.{Block, block_hash_of}
use Rattle.model.specs.Ledger.{Network}
use Rattle.model.specs.Chain.{genesis_tip, tip_after, IsLinked, IsOpening, IsSelection, BeginsWith, NoneLonger, HaveDistinctHashes, NoneHas, immutable_length, immutable_part, live_blocks}
use Rattle.model.proofs.Lists.{all_of_member, all_from_members, all_weaker, all_both, all_append, all_take, contains_first, contains_later, contains_cases}
use Rattle.model.proofs.Chains.{linked_front, length_immutable, begins_with_whole}
use Rattle.model.proofs.FollowerSteps.{begins_fewer, begins_not_longer}
use Rattle.model.proofs.LegalHistories.{numbers_within, none_longer_than_all}
use Rattle.model.proofs.Selections.{past_numbers, selection_not_shorter, selection_begins, selection_longest}
use Rattle.model.proofs.Candidates.{live_is_kept, live_number, selection_over}
use Rattle.blockstore.specs.Stored.{Stored, Store, HasBlock, blocks_of}
use Rattle.blockstore.specs.Answers.{IsRid}
use Rattle.blockstore.specs.Live.{HoldsLive}
use Rattle.ledgerdb.specs.Values.{Database, depth}
use Rattle.ledgerdb.specs.Chains.{without_last, IsDatabaseOf}
use Rattle.chainsel.specs.Dead.{HaveOnePlace, IsDead}
use Rattle.chainsel.specs.Sides.{IsSide}
use Rattle.chainsel.specs.Ready.{IsSettled, IsReady}
use Rattle.chainsel.specs.Choices.{IsSelected}
use Rattle.chainsel.proofs.AtHand.{at_hand, chain_valid, is_past, at_hand_placed}

-- ---- dead blocks

-- Dead stays dead when the chain changes: what there is then was there before, and what was there past the new immutable
-- part is there still.
pub dead_moves : (network : Network) (chain live next_chain next_live : List Block) (b : Block) → HaveOnePlace (live ++ chain) → immutable_length network chain ≤ immutable_length network next_chain
    → ((c : Block) → Contains (next_live ++ next_chain) c → Contains (live ++ chain) c)
    → ((c : Block) → Contains (live ++ chain) c → immutable_length network next_chain < c.header.number → Contains (next_live ++ next_chain) c)
    → IsDead network chain live b → IsDead network next_chain next_live b
dead_moves network chain live next_chain next_live b place further was still dead later past next_place c valid within member =
    dead later (all_weaker (λ x. immutable_length network next_chain < x.header.number) (λ x. immutable_length network chain < x.header.number) later (λ x above. omega (arith, above, further)) past) old_place c valid
    (all_weaker (Contains (later ++ (next_live ++ next_chain))) (Contains (later ++ (live ++ chain))) c to_old within) member
  where
    to_old : (x : Block) → Contains (later ++ (next_live ++ next_chain)) x → Contains (later ++ (live ++ chain)) x
    to_old x there =
        elim (Contains-append_cases later (next_live ++ next_chain) x there) [
          | inl among ↦ Contains-append_left later (live ++ chain) x among
          | inr old ↦ Contains-append_right later (live ++ chain) x (was x old)
        ]

    -- one of those that come later, and one of those that there were, in one place
    mixed : (x y : Block) → Contains later x → Contains (live ++ chain) y → x.header.number ≡ y.header.number → Contains (later ++ (next_live ++ next_chain)) y
    mixed x y among old number =
        let above = all_of_member (λ z. immutable_length network next_chain < z.header.number) later x past among in
        Contains-append_right later (next_live ++ next_chain) y (still y old (omega (arith, above, number)))

    old_place : HaveOnePlace (later ++ (live ++ chain))
    old_place x y has_x has_y hash number =
        elim (Contains-append_cases later (live ++ chain) x has_x) [
          | inl x_later ↦ elim (Contains-append_cases later (live ++ chain) y has_y) [
            | inl y_later ↦ next_place x y (Contains-append_left later (next_live ++ next_chain) x x_later) (Contains-append_left later (next_live ++ next_chain) y y_later) hash number
            | inr y_old ↦ next_place x y (Contains-append_left later (next_live ++ next_chain) x x_later) (mixed x y x_later y_old number) hash number
          ]
          | inr x_old ↦ elim (Contains-append_cases later (live ++ chain) y has_y) [
            | inl y_later ↦ next_place x y (mixed y x y_later x_old (sym number)) (Contains-append_left later (next_live ++ next_chain) y y_later) hash number
            | inr y_old ↦ place x y x_old y_old hash number
          ]
        ]

-- ---- the selection among the blocks at hand

all_pass : (p : Block → Bool) (bs : List Block) → ((b : Block) → Contains bs b → p b ≡ true) → filter p bs ≡ bs
all_pass p [] each = refl
all_pass p (x ∷ xs) each = ap (λ (t : Bool). cond t (x ∷ filter p xs) (filter p xs)) (each x (contains_first x xs)) ∙ ap (λ (bs : List Block). x ∷ bs) (all_pass p xs (λ b member. each b (contains_later x xs b member)))

-- with nothing kept but the live blocks, the store holds what is live
pub settled_live : (network : Network) (chain : List Block) (store : Store) (db : Database) → IsSettled network chain store db → HoldsLive network (blocks_of store) chain store
settled_live network chain store db settled =
    let n = immutable_length network chain in
    let same : live_blocks network (blocks_of store) chain ≡ blocks_of store =
    all_pass (λ b. nat_lt n b.header.number) (blocks_of store) (λ b member. lt-ltb n b.header.number (all_of_member (λ c. n < c.header.number) (blocks_of store) b settled.past member)) in
    record {
      members = λ b. (subst (λ (bs : List Block). Contains bs b) (sym same), subst (λ (bs : List Block). Contains bs b) same);
      count = sym (length-map store.blocks (λ (s : Stored). s.block)) ∙ sym (ap length same);
    }

none_passes : (p : Block → Bool) (bs : List Block) → ((b : Block) → Contains bs b → p b ≡ true → ⊥) → filter p bs ≡ []
none_passes p [] each = refl
none_passes p (x ∷ xs) each = one (p x) refl (none_passes p xs (λ b member. each b (contains_later x xs b member)))
  where
    one : (t : Bool) → p x ≡ t → filter p xs ≡ [] → cond t (x ∷ filter p xs) (filter p xs) ≡ []
    one true passes more = absurd (each x (contains_first x xs) passes)
    one false fails more = more

module _ (network : Network) (chain : List Block) (store : Store) (db : Database) (new : Block) (ready : IsReady network chain store db new) where
  abbrev imm : List Block
  imm = immutable_part network chain

  abbrev m : ℕ
  m = immutable_length network chain

  abbrev passes : Block → Bool
  passes b = nat_lt m b.header.number

  imm_below : (b : Block) → Contains imm b → passes b ≡ true → ⊥
  imm_below b member above =
      let linked : IsLinked genesis_tip imm = linked_front genesis_tip imm (drop m chain) (subst (IsLinked genesis_tip) (sym (take-append-drop m chain)) (chain_valid network chain store db new ready).linked) in
      let within = all_of_member (λ c. c.header.number ≤ 0 + length imm) imm b (numbers_within genesis_tip imm linked) member in
      let past = ltb-true m b.header.number above in
      omega (arith, within, past, length_immutable network chain)

  -- the live blocks and the immutable part, as if no other block had been kept
  abbrev kept : List Block
  kept = blocks_of store ++ imm

  live_are : live_blocks network kept chain ≡ blocks_of store
  live_are =
      filter-append passes (blocks_of store) imm
      ∙ (ap (λ (bs : List Block). bs ++ filter passes imm) (all_pass passes (blocks_of store) (λ b member. lt-ltb m b.header.number (all_of_member (λ c. m < c.header.number) (blocks_of store) b ready.settled.past member)))
      ∙ (ap (λ (bs : List Block). blocks_of store ++ bs) (none_passes passes imm imm_below) ∙ append-nil (blocks_of store)))

  held : HoldsLive network kept chain store
  held = record {
    members = λ b. (subst (λ (bs : List Block). Contains bs b) (sym live_are), subst (λ (bs : List Block). Contains bs b) live_are);
    count = sym (length-map store.blocks (λ (s : Stored). s.block)) ∙ sym (ap length live_are);
  }

  chain_kept : AllByRecursion (Contains kept) chain
  chain_kept =
      subst (AllByRecursion (Contains kept)) (take-append-drop m chain)
      (all_append (Contains kept) imm (drop m chain) (all_from_members (Contains kept) imm (λ b member. Contains-append_right (blocks_of store) imm b member))
      (all_weaker (λ b. (m < b.header.number) × Contains chain b) (Contains kept) (drop m chain)
      (λ b both. Contains-append_left (blocks_of store) imm b (all_of_member (λ c. m < c.header.number → HasBlock store c) chain b ready.settled.live both.1 both.0))
      (all_both (λ b. m < b.header.number) (Contains chain) (drop m chain) (past_numbers m chain (chain_valid network chain store db new ready).linked (omega arith))
      (all_from_members (Contains chain) (drop m chain) (λ b member. subst (λ (bs : List Block). Contains bs b) (take-append-drop m chain) (Contains-append_right imm (drop m chain) b member))))))

  pub selection_at_hand : (selected : List Block) → IsSelected network store chain new selected → IsSelection network (at_hand chain store new) chain selected
  selection_at_hand selected is = selection_over network (new ∷ kept) (at_hand chain store new) chain selected to back (all_weaker (Contains kept) (Contains (new ∷ kept)) chain (λ b member. contains_later new kept b member) chain_kept)
      (all_from_members (Contains (at_hand chain store new)) chain (λ b member. Contains-append_right (new ∷ blocks_of store) chain b member)) (is kept held chain_kept)
    where
      to : (b : Block) → Contains (live_blocks network (new ∷ kept) chain) b → Contains (at_hand chain store new) b
      to b member =
          elim (contains_cases new kept b (live_is_kept network (new ∷ kept) chain b member)) [
            | inl same ↦ Contains-append_left (new ∷ blocks_of store) chain b (subst (Contains (new ∷ blocks_of store)) same (contains_first new (blocks_of store)))
            | inr among ↦ elim (Contains-append_cases (blocks_of store) imm b among) [
              | inl live ↦ Contains-append_left (new ∷ blocks_of store) chain b (contains_later new (blocks_of store) b live)
              | inr before ↦ Contains-append_right (new ∷ blocks_of store) chain b (subst (λ (bs : List Block). Contains bs b) (take-append-drop m chain) (Contains-append_left imm (drop m chain) b before))
            ]
          ]

      back : (b : Block) → Contains (live_blocks network (at_hand chain store new) chain) b → Contains (new ∷ kept) b
      back b member =
          let there = is_past network chain store db new ready b (live_is_kept network (at_hand chain store new) chain b member) (live_number network (at_hand chain store new) chain b member) in
          elim (contains_cases new (blocks_of store) b there) [
            | inl same ↦ subst (Contains (new ∷ kept)) same (contains_first new kept)
            | inr live ↦ contains_later new kept b (Contains-append_left (blocks_of store) imm b live)
          ]

  -- what a store keeps of the blocks that it had and of the one that came, where the selected chain becomes this one
  pub record IsNextStore (next_chain : List Block) (next : Store) : Type 0 where
    pub root : next.root ≡ tip_after genesis_tip (immutable_part network next_chain)
    pub was : (b : Block) → HasBlock next b → Contains (new ∷ blocks_of store) b
    pub still : (b : Block) → Contains (new ∷ blocks_of store) b → immutable_length network next_chain < b.header.number → HasBlock next b
    pub past : AllByRecursion (λ b. immutable_length network next_chain < b.header.number) (blocks_of next)
    pub distinct : HaveDistinctHashes (blocks_of next)
    pub marks : (s : Stored) → Contains next.blocks s → s.invalid ≡ true → IsDead network chain (new ∷ blocks_of store) s.block

  -- so it is settled again
  pub settled_again : (next_chain : List Block) (next : Store) (next_db : Database) → IsSelected network store chain new next_chain → AllByRecursion (Contains (at_hand chain store new)) next_chain → IsNextStore next_chain next
      → IsDatabaseOf network next_chain next_db → depth next_db ≡ length next_chain - immutable_length network next_chain → AllByRecursion (IsSide network (blocks_of next ++ next_chain)) next_db.sides → IsSettled network next_chain next next_db
  settled_again next_chain next next_db selected made is database deep sides = record {
    database = database;
    depth = deep;
    opened = subst (BeginsWith next_chain) ready.settled.opened (begins_fewer chain next_chain (length network.opened) (immutable_length network chain) (let within = begins_not_longer chain network.opened ready.settled.opened in omega arith)
        (selection_begins network (at_hand chain store new) chain next_chain (selection_at_hand next_chain selected)));
    root = is.root;
    live = all_from_members (λ b. immutable_length network next_chain < b.header.number → HasBlock next b) next_chain (λ b member past. is.still b (at_hand_past b (all_of_member (Contains (at_hand chain store new)) next_chain b made member) past) past);
    past = is.past;
    distinct = is.distinct;
    longest = λ c candidate. selection_longest network (at_hand chain store new) chain next_chain (selection_at_hand next_chain selected) c (record {
      valid = candidate.valid;
      members = all_weaker (Contains (blocks_of next ++ next_chain)) (Contains (at_hand chain store new)) c was candidate.members;
      begins = candidate.begins;
    });
    marks = all_from_members (λ (s : Stored). s.invalid ≡ true → IsDead network next_chain (blocks_of next) s.block) next.blocks (λ s member marked.
        dead_moves network chain (new ∷ blocks_of store) next_chain (blocks_of next) s.block (at_hand_placed network chain store db new ready) further was still (is.marks s member marked));
    sides = sides;
  }
    where
      further : immutable_length network chain ≤ immutable_length network next_chain
      further = let longer = selection_not_shorter network (at_hand chain store new) chain next_chain (selection_at_hand next_chain selected) in omega (arith, longer)

      at_hand_past : (b : Block) → Contains (at_hand chain store new) b → immutable_length network next_chain < b.header.number → Contains (new ∷ blocks_of store) b
      at_hand_past b member past = is_past network chain store db new ready b member (omega (arith, past, further))

      was : (b : Block) → Contains (blocks_of next ++ next_chain) b → Contains (at_hand chain store new) b
      was b member =
          elim (Contains-append_cases (blocks_of next) next_chain b member) [
            | inl live ↦ Contains-append_left (new ∷ blocks_of store) chain b (is.was b live)
            | inr on_chain ↦ all_of_member (Contains (at_hand chain store new)) next_chain b made on_chain
          ]

      still : (b : Block) → Contains (at_hand chain store new) b → immutable_length network next_chain < b.header.number → Contains (blocks_of next ++ next_chain) b
      still b member past = Contains-append_left (blocks_of next) next_chain b (is.still b (at_hand_past b member past) past)

-- ---- how it begins, and how a switch goes on

-- before the first arrival
pub settled_at_start : (network : Network) (store : Store) (db : Database) → IsOpening network → store.blocks ≡ [] → store.root ≡ tip_after genesis_tip network.opened → IsDatabaseOf network network.opened db → depth db ≡ 0 → db.sides ≡ [] → IsSettled network network.opened store db
settled_at_start network store db opens empty root database deep none_beside =
    let none : [] ≡ blocks_of store = sym (ap (map (λ (s : Stored). s.block)) empty) in
    record {
      database = database;
      depth = omega (arith, deep);
      opened = begins_with_whole network.opened;
      root = root ∙ ap (tip_after genesis_tip) (sym (take_all (immutable_length network network.opened) network.opened (omega arith)));
      live = all_weaker (λ b. b.header.number ≤ 0 + length network.opened) (λ b. immutable_length network network.opened < b.header.number → HasBlock store b) network.opened (λ b within past. absurd (omega arith)) (numbers_within genesis_tip network.opened opens.valid.linked);
      past = subst (AllByRecursion (λ b. immutable_length network network.opened < b.header.number)) none tt;
      distinct = subst HaveDistinctHashes none tt;
      longest = subst (λ (bs : List Block). NoneLonger network (bs ++ network.opened) network.opened) none (none_longer_than_all network network.opened opens.valid);
      marks = subst (AllByRecursion (λ (s : Stored). s.invalid ≡ true → IsDead network network.opened (blocks_of store) s.block)) (sym empty) tt;
      sides = subst (AllByRecursion (IsSide network (blocks_of store ++ network.opened))) (sym none_beside) tt;
    }

-- the chain that is switched to is of blocks at hand
pub switched_at_hand : (chain : List Block) (store : Store) (new : Block) (back : ℕ) (blocks : List Block) → AllByRecursion (Contains (new ∷ blocks_of store)) blocks
    → AllByRecursion (Contains (at_hand chain store new)) (without_last back chain ++ blocks)
switched_at_hand chain store new back blocks members =
    all_append (Contains (at_hand chain store new)) (without_last back chain) blocks
    (all_take (Contains (at_hand chain store new)) (length chain - back) chain (all_from_members (Contains (at_hand chain store new)) chain (λ b member. Contains-append_right (new ∷ blocks_of store) chain b member)))
    (all_weaker (Contains (new ∷ blocks_of store)) (Contains (at_hand chain store new)) blocks (λ b member. Contains-append_left (new ∷ blocks_of store) chain b member) members)

-- as many states as may be rolled back, where the chain doesn't become shorter
pub depth_next : (k opened long deep back added : ℕ) → deep ≡ long - min long (max (long - k) opened) → opened ≤ long → back ≤ deep → back ≤ added
    → min k (deep - back + added) ≡ (long - back + added) - min (long - back + added) (max (long - back + added - k) opened)
depth_next k opened long deep back added is begins within longer =
    elim (cases_lt opened (long - k)) [
      | inl over ↦ omega (arith, is, begins, within, longer, over)
      | inr not_over ↦ omega (arith, is, begins, within, longer, not_over)
    ]

-- ---- a block beside the chain is discarded

-- What was settled is settled still where a block goes that the chain doesn't have, with all marks and all states beside
-- the chain.
pub settled_without : (network : Network) (chain : List Block) (store next : Store) (db : Database) (hash : List ℕ) → IsSettled network chain store db → IsRid store hash next → HaveDistinctHashes (blocks_of next) → NoneHas chain hash
    → IsSettled network chain next (record db { sides = [] })
settled_without network chain store next db hash settled rid distinct apart =
    let n = immutable_length network chain in record {
      database = record { older = settled.database.older; blocks = settled.database.blocks; parts = settled.database.parts; anchor = settled.database.anchor; states = settled.database.states };
      depth = settled.depth;
      opened = settled.opened;
      root = rid.root ∙ settled.root;
      live = all_weaker (λ b. (n < b.header.number → HasBlock store b) × (block_hash_of b ≢ hash)) (λ b. n < b.header.number → HasBlock next b) chain (λ b is past. (rid.blocks b).1 (is.0 past, is.1))
          (all_both (λ b. n < b.header.number → HasBlock store b) (λ b. block_hash_of b ≢ hash) chain settled.live apart);
      past = all_from_members (λ b. n < b.header.number) (blocks_of next) (λ b member. all_of_member (λ c. n < c.header.number) (blocks_of store) b settled.past ((rid.blocks b).0 member).0);
      distinct = distinct;
      longest = λ candidate is. settled.longest candidate record {
        valid = is.valid;
        members = all_weaker (Contains (blocks_of next ++ chain)) (Contains (blocks_of store ++ chain)) candidate was_there is.members;
        begins = is.begins;
      };
      marks = all_from_members (λ (s : Stored). s.invalid ≡ true → IsDead network chain (blocks_of next) s.block) next.blocks (λ s member marked. absurd (let e : false ≡ true = sym (rid.unmarked s member) ∙ marked in cc));
      sides = tt;
    }
  where
    was_there : (b : Block) → Contains (blocks_of next ++ chain) b → Contains (blocks_of store ++ chain) b
    was_there b member = elim (Contains-append_cases (blocks_of next) chain b member) [
      | inl left ↦ Contains-append_left (blocks_of store) chain b ((rid.blocks b).0 left).0
      | inr on_chain ↦ Contains-append_right (blocks_of store) chain b on_chain
    ]
