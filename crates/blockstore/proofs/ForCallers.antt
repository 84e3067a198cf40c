-- What crates above cite of this one's proofs, and no other file: the reasons of a store are those of each state whose
-- live blocks it holds.
use Rattle.std.proofs.Common.{◌≡◌, ◌≢◌, ◌↔◌, ◌⊎◌, ℕ, ◌+◌, ◌≤◌, List, length, Contains, sym, ap, subst, ◌∙◌, arith, inl, inr}
use Rattle.std.proofs.lemmas.List.{length-map}
use Rattle.model.specs.Block.{Block, SpellsBlock, block_text, block_hash_of, bytes_in}
use Rattle.model.specs.Genesis.{IsOver}
use Rattle.model.specs.Chain.{HaveDistinctHashes}
use Rattle.model.proofs.Sets.{distinct_by_count, same_sum}
use Rattle.model.specs.Ledger.{Network}
use Rattle.model.specs.History.{State, live_of, IsFullFor, Known, Clash, VolatileFull, Applies}
use Rattle.model.proofs.BlockTexts.{one_block, block_text_is}
use Rattle.blockstore.specs.Stored.{Stored, Store, blocks_of, capacity_of}
use Rattle.blockstore.specs.Insertion.{IsKnown, IsClash, IsFull}
use Rattle.blockstore.specs.declared.capacity.Capacity.{Capacity}
use Rattle.blockstore.specs.Live.{HoldsLive}

-- a store that holds the live blocks of a state, as many as the genesis lets it
pub record HoldsState (network : Network) (s : State) (store : Store) : Type 0 where
  pub live : HoldsLive network s.kept s.chain store
  pub capacity : store.capacity ≡ capacity_of network.genesis
  pub distinct : HaveDistinctHashes (blocks_of store)

pub known_over : (network : Network) (s : State) (store : Store) (b : Block) (bytes : List ℕ) → HoldsState network s store → SpellsBlock b bytes → IsKnown store b ↔ Applies network s bytes Known
known_over network s store b bytes holds spells =
    let text : block_text b ≡ bytes = block_text_is b bytes spells in (
      (λ known. (known.0, (holds.live.members known.0).0 known.1, known.2 ∙ text)),
      (λ applies. (applies.0, (holds.live.members applies.0).1 applies.1, applies.2 ∙ sym text)),
    )

-- a block of the chain has the hash of this one, and another text
abbrev pub IsChainClash : State → Block → Type 0
IsChainClash s b = (c : Block) × Contains s.chain c × (block_hash_of c ≡ block_hash_of b) × (block_text c ≢ block_text b)

pub clash_over : (network : Network) (s : State) (store : Store) (b : Block) (bytes : List ℕ) → HoldsState network s store → SpellsBlock b bytes → (IsClash store b ⊎ IsChainClash s b) ↔ Applies network s bytes Clash
clash_over network s store b bytes holds spells = (to, back)
  where
    text : block_text b ≡ bytes
    text = block_text_is b bytes spells

    to : IsClash store b ⊎ IsChainClash s b → Applies network s bytes Clash
    to (inl clash) = (b, spells, (clash.0, inl ((holds.live.members clash.0).0 clash.1), clash.2, λ same. clash.3 (same ∙ sym text)))
    to (inr clash) = (b, spells, (clash.0, inr clash.1, clash.2, λ same. clash.3 (same ∙ sym text)))

    back : Applies network s bytes Clash → IsClash store b ⊎ IsChainClash s b
    back applies =
        let c = applies.2.0 in
        let hash : block_hash_of c ≡ block_hash_of b = applies.2.2 ∙ ap block_hash_of (one_block applies.0 b bytes applies.1 spells) in
        elim applies.2.1 [
          | inl live ↦ inl (c, (holds.live.members c).1 live, hash, λ same. applies.2.3 (same ∙ text))
          | inr there ↦ inr (c, there, hash, λ same. applies.2.3 (same ∙ text))
        ]

-- the live blocks have as many bytes as those of the store
pub bytes_over : (network : Network) (s : State) (store : Store) → HoldsState network s store → bytes_in (blocks_of store) ≡ bytes_in (live_of network s)
bytes_over network s store holds =
    let there : (b : Block) → Contains (blocks_of store) b → Contains (live_of network s) b = λ b. (holds.live.members b).0 in
    let back : (b : Block) → Contains (live_of network s) b → Contains (blocks_of store) b = λ b. (holds.live.members b).1 in
    let distinct : HaveDistinctHashes (live_of network s) = distinct_by_count (blocks_of store) (live_of network s) holds.distinct there back
    (let count = holds.live.count in omega (arith, length-map store.blocks (λ (x : Stored). x.block))) in
    same_sum (λ b. length (block_text b)) (blocks_of store) (live_of network s) holds.distinct distinct there back

pub full_over : (network : Network) (s : State) (store : Store) (bytes : List ℕ) → HoldsState network s store → IsFull store (length bytes) ↔ Applies network s bytes VolatileFull
full_over network s store bytes holds = (subst (λ (A : Type 0). IsFull store (length bytes) → A) same (λ full. full), subst (λ (A : Type 0). A → IsFull store (length bytes)) same (λ full. full))
  where
    same : IsFull store (length bytes) ≡ IsFullFor network s (length bytes)
    same = λ i. (ap (λ (c : Capacity). c.blocks) holds.capacity i ≤ holds.live.count i) ⊎ IsOver (ap (λ (c : Capacity). c.bytes) holds.capacity i) (bytes_over network s store holds i + length bytes)
