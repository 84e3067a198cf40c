-- Forging, from what its parts promise.
use Rattle.std.proofs.Common.{◌≡◌, ℕ, ◌+◌, ◌≤◌, ◌<◌, ◌^◌, ◌&&◌, Bool, true, false, List, [], ◌∷◌, ◌++◌, length, map, Contains, Option, ◌⊎◌, inl, inr, refl, sym, ap, subst, ◌∙◌, arith}
use Rattle.std.specs.List.{AllByRecursion}
use Rattle.std.proofs.lemmas.Bool.{leb-true}
use Rattle.std.proofs.lemmas.List.{length-map}
use Rattle.std.proofs.lemmas.List.Elements.{Contains-append_left, Contains-append_right}
use Rattle.ident.specs.declared.point.Point.{Point}
use Rattle.block.specs.Read.{IsRead}
use Rattle.block.specs.Written.{full_block, FitsBlock, IsBodyText}
use Rattle.model.specs.Cbor.{text_of, items_of, items_nesting}
use Rattle.model.specs.Transaction.{Transaction, SpellsTransaction, item_of_transaction}
use Rattle.model.specs.Rules.{Params}
use Rattle.model.specs.Genesis.{IsGenesis}
use Rattle.model.specs.Block.{Block, SpellsBlock, block_text, block_hash_of, item_of_transactions}
use Rattle.model.specs.Ledger.{Network}
use Rattle.model.specs.Chain.{Tip, genesis_tip, tip_after, IsValidChain}
use Rattle.model.specs.Applying.{LedgerState, IsStateOf}
use Rattle.model.specs.Mempool.{picked, fits_in_a_block, nests_in_a_block}
use Rattle.followers.specs.Places.{Places}
use Rattle.model.specs.History.{State, live_of}
use Rattle.model.specs.Forging.{ForgeFault, forge_fault_number, SlotNotAfterTip, OutOfRange, ForgeApplies, IsNotForged, IsForged, ArrivesNext, next_block}
use Rattle.model.proofs.Lists.{all_of_member, all_from_members}
use Rattle.model.proofs.MappedLists.{contains_before}
use Rattle.model.proofs.Sets.{distinct_by_count}
use Rattle.model.proofs.Chains.{tip_number}
use Rattle.model.proofs.Candidates.{candidate_over}
use Rattle.model.proofs.BlockTexts.{one_block}
use Rattle.model.proofs.MempoolPasses.{picked_fits}
use Rattle.model.proofs.ForgedBlocks.{nothing_fits}
use Rattle.model.proofs.ForgedArrivals.{IsReadyForOne, arrives_next}
use Rattle.blockstore.specs.Stored.{Stored, blocks_of}
use Rattle.ledgerdb.proofs.ForCallers.{database_valid}
use Rattle.chainsel.specs.Ready.{IsSettled}
use Rattle.chain.specs.Chained.{chain_of}
use Rattle.chain_core.specs.declared.chain_db.ChainDb.{ChainDb}
use Rattle.chain_core.specs.ChainDbs.{IsWhole}
use Rattle.chain_core.specs.Held.{Held, Stands, held_of, network_held}
use Rattle.chain_core.specs.ForgedBlocks.{IsForgedAs}
use Rattle.chain_core.proofs.Arrivals.{state_of}
use Rattle.chain_core.proofs.Mempools.{outputs_are}

abbrev pub AreRead : List Stored → Type 0
AreRead blocks = AllByRecursion (λ x. IsRead x.block (block_text x.block)) blocks

-- ---- the state is ready for a block

-- every state that the core stands for
pub ready_for_one : {S : Type 0} (network : Network) (a : ChainDb S) (followers : Places) (s : State) → IsWhole network a → AreRead a.store.blocks
    → Stands (held_of network.genesis network.opened (blocks_of a.store) (chain_of a.chain) a.mempool.waiting.txs followers) s → IsReadyForOne network s
ready_for_one network a followers s whole read stands =
    let has = state_of network a followers s stands in
    let settled = subst (λ (c : List Block). IsSettled network c a.store a.db) has.chain whole.settled in
    let live = has.live in
    let all : List Block = blocks_of a.store ++ s.chain in
    record {
      valid = subst (IsValidChain network) has.chain (database_valid network (chain_of a.chain) a.db whole.settled.database);
      longest = λ c candidate. settled.longest c (candidate_over network s.kept all s.chain c
          (λ b member. Contains-append_left (blocks_of a.store) s.chain b ((live.members b).1 member))
          (all_from_members (Contains all) s.chain (λ b member. Contains-append_right (blocks_of a.store) s.chain b member)) candidate);
      distinct = distinct_by_count (blocks_of a.store) (live_of network s) settled.distinct (λ b member. (live.members b).0 member) (λ b member. (live.members b).1 member)
          (let count = live.count in omega (arith, length-map a.store.blocks (λ (x : Stored). x.block)));
      members = stands.chain_kept;
      spelled = λ b member.
          let x = contains_before (λ (y : Stored). y.block) a.store.blocks b ((live.members b).1 member) in
          let reads = all_of_member (λ (y : Stored). IsRead y.block (block_text y.block)) a.store.blocks x.0 read x.1 in
          subst (λ (c : Block). SpellsBlock c (block_text c)) x.2 reads.read;
    }

-- so where the bytes arrive next the block is put on
pub put_on_next : {S : Type 0} (network : Network) (a : ChainDb S) (followers : Places) (now : Held) (slot : ℕ) (bytes : List ℕ) (point : Point) → IsGenesis network.genesis → IsWhole network a → AreRead a.store.blocks
    → held_of network.genesis network.opened (blocks_of a.store) (chain_of a.chain) a.mempool.waiting.txs followers ≡ now → IsForgedAs network (chain_of a.chain) a.mempool.waiting.txs slot bytes point
    → (s : State) → Stands now s → (b : Block) → SpellsBlock b bytes → ArrivesNext (network_held now network.verifies) s b bytes
put_on_next network a followers now slot bytes point genesis whole read view forged =
    subst (λ (h : Held). (s : State) → Stands h s → (b : Block) → SpellsBlock b bytes → ArrivesNext (network_held h network.verifies) s b bytes) view
    (λ s stands b spelled.
    let same : forged.block ≡ b = one_block forged.block b bytes forged.text spelled in
    let here = subst (λ (c : List Block). IsForged network c a.mempool.waiting.txs slot forged.block) stands.chain forged.forged in
    arrives_next network s a.mempool.waiting.txs slot b bytes genesis (ready_for_one network a followers s whole read stands) (subst (IsForged network s.chain a.mempool.waiting.txs slot) same here) spelled)

-- ---- what is written

second : (a b : Bool) → (a && b) ≡ true → a ≡ true
second true b e = refl
second false b e = absurd (let f : false ≡ true = e in cc)

-- transactions that have texts and stand in a block fit
all_fit : (ts : List Transaction) → AllByRecursion (λ t. SpellsTransaction t (text_of (item_of_transaction t))) ts → items_nesting (items_of (map item_of_transaction ts)) ≤ 62 → AllByRecursion FitsBlock ts
all_fit [] spelled nests = tt
all_fit (t ∷ ts) spelled nests = (record { spelled = spelled.0; nests = omega arith }, all_fit ts spelled.1 (omega arith))

module _ (network : Network) (chain : List Block) (state : LedgerState) (is : IsStateOf network chain state) (waiting : List Transaction) (slot : ℕ) where
  abbrev pub taken : List Transaction
  taken = picked network.verifies state.params slot state.ledger.utxo [] waiting

  taken_here : taken ≡ picked network.verifies network.genesis.params slot state.ledger.utxo [] waiting
  taken_here = ap (λ (p : Params). picked network.verifies p slot state.ledger.utxo [] waiting) is.params

  pub body_text : IsGenesis network.genesis → (body : List ℕ) → body ≡ text_of (item_of_transactions taken) → AllByRecursion (λ t. SpellsTransaction t (text_of (item_of_transaction t))) taken → IsBodyText taken body
  body_text genesis body is_text spelled =
      let fits = picked_fits network.verifies network.genesis.params slot state.ledger.utxo [] waiting (nothing_fits network genesis) in
      let here : fits_in_a_block network.genesis.params taken ≡ true = ap (fits_in_a_block network.genesis.params) taken_here ∙ fits in
      let nests = leb-true _ _ (second (nests_in_a_block taken) _ here) in
      record { spelled = is_text; fit = all_fit taken spelled (omega arith) }

  number_is : (tip_after genesis_tip chain).number ≡ length chain
  number_is = let n = tip_number genesis_tip chain is.linked in omega arith

  -- the slot isn't after the tip's
  pub not_after : slot ≤ state.tip.slot → IsNotForged network chain slot SlotNotAfterTip
  not_after le = record {
    applies = let e = ap (λ (t : Tip). t.slot) is.tip in omega arith;
    first = λ other before. none other before;
  }
    where
      none : (other : ForgeFault) → forge_fault_number other < 1 → ForgeApplies network chain slot other → ⊥
      none SlotNotAfterTip before applies = omega arith
      none OutOfRange before applies = omega arith

  -- it is, and a number is out of range
  pub out_of_range : state.tip.slot < slot → (2 ^ 63 ≤ slot) ⊎ (2 ^ 63 ≤ length chain + 1) → IsNotForged network chain slot OutOfRange
  out_of_range after which = record {
    applies = elim which [ inl big ↦ inl big | inr many ↦ inr (omega (arith, number_is)) ];
    first = λ other before. none other before;
  }
    where
      none : (other : ForgeFault) → forge_fault_number other < 2 → ForgeApplies network chain slot other → ⊥
      none SlotNotAfterTip before applies = let e = ap (λ (t : Tip). t.slot) is.tip in omega arith
      none OutOfRange before applies = omega arith

  -- neither
  pub no_fault : state.tip.slot < slot → slot < 2 ^ 63 → length chain + 1 < 2 ^ 63 → (fault : ForgeFault) → ForgeApplies network chain slot fault → ⊥
  no_fault after small few SlotNotAfterTip applies = let e = ap (λ (t : Tip). t.slot) is.tip in omega arith
  no_fault after small few OutOfRange applies = elim applies [ inl big ↦ omega arith | inr many ↦ omega (arith, number_is) ]

  pub forged_as : (bytes : List ℕ) (point : Point) (previous : Option (List ℕ)) → state.tip.slot < slot → slot < 2 ^ 63 → length chain + 1 < 2 ^ 63 → previous ≡ (tip_after genesis_tip chain).hash
      → SpellsBlock (full_block (length chain + 1) slot previous taken) bytes → point.number ≡ length chain + 1 → point.hash.bytes ≡ block_hash_of (full_block (length chain + 1) slot previous taken)
      → IsForgedAs network chain waiting slot bytes point
  forged_as bytes point previous after small few before spelled number hash =
      let next : full_block (length chain + 1) slot previous taken ≡ next_block network chain slot (picked network.verifies network.genesis.params slot state.ledger.utxo [] waiting) =
      (λ i. full_block (sym number_is i + 1) slot (before i) (taken_here i)) in
      record {
        block = full_block (length chain + 1) slot previous taken;
        forged = record { utxo = state.ledger.utxo; of_chain = outputs_are network chain state is; none = no_fault after small few; next = next };
        text = spelled;
        place = (number, hash);
      }
