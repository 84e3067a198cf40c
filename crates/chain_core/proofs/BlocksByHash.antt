-- Where the blocks of a hash are: on the chain, live, or nowhere.
use Rattle.std.proofs.Common.{◌≡◌, ◌≢◌, ℕ, List, Contains, sym, subst, ◌∙◌}
use Rattle.model.specs.Block.{Block, block_hash_of}
use Rattle.model.specs.Ledger.{Network}
use Rattle.model.specs.History.{State, live_of}
use Rattle.model.proofs.Lists.{all_from_members}
use Rattle.model.proofs.MappedLists.{contains_map}
use Rattle.model.proofs.Chains.{one_with_hash}
use Rattle.blockstore.specs.Stored.{Stored, Store, IsSet, HasBlock, blocks_of}
use Rattle.blockstore.specs.Answers.{HasNoneAt, IsAt}
use Rattle.chain.specs.Chained.{chain_of}
use Rattle.chain_core.specs.declared.chain_db.ChainDb.{ChainDb}
use Rattle.chain_core.specs.ChainDbs.{HasState}
use Rattle.model.specs.Chain.{NoneHas}

-- what was found in the store is live
pub found_live : (store : Store) (hash : List ℕ) (found : Stored) → IsAt store hash found → HasBlock store found.block
found_live store hash found at = contains_map (λ (x : Stored). x.block) store.blocks found at.member

-- and the one live block of the hash
pub found_one : (store : Store) (hash : List ℕ) (found : Stored) → IsSet store → IsAt store hash found → (b : Block) → HasBlock store b → block_hash_of b ≡ hash → found.block ≡ b
found_one store hash found set at b live same = one_with_hash (blocks_of store) found.block b set.distinct (found_live store hash found at) live (at.same ∙ sym same)

module _ {S : Type 0} (network : Network) (a : ChainDb S) (s : State) (has : HasState network a s) where
  -- what was found is live in each state
  pub live_there : (b : Block) → HasBlock a.store b → Contains (live_of network s) b
  live_there b live = (has.live.members b).0 live

  pub chain_there : (b : Block) → Contains (chain_of a.chain) b → Contains s.chain b
  chain_there b member = subst (λ (bs : List Block). Contains bs b) has.chain member

  pub on_chain : (hash : List ℕ) → NoneHas (chain_of a.chain) hash → NoneHas s.chain hash
  on_chain hash none = subst (λ (bs : List Block). NoneHas bs hash) has.chain none

  -- no live block has the hash
  pub none_live : (hash : List ℕ) → HasNoneAt a.store hash → NoneHas (live_of network s) hash
  none_live hash none = all_from_members (λ (b : Block). block_hash_of b ≢ hash) (live_of network s) (λ b member. none b ((has.live.members b).1 member))
