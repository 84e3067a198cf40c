-- The block before another, among those that a path is made of.
use Rattle.std.proofs.Common.{◌≡◌, ◌≢◌, ℕ, List, [], ◌∷◌, map, Contains, Some, sym, ap, subst, ◌∙◌, inl, inr}
use Rattle.std.proofs.lemmas.Option.{same_Some}
use Rattle.model.specs.Block.{Block, block_hash_of}
use Rattle.model.specs.Chain.{tip_at, Follows, HaveDistinctHashes}
use Rattle.model.proofs.Lists.{all_of_member, contains_first, contains_later, contains_cases, nothing_contained}
use Rattle.model.proofs.MappedLists.{contains_map}
use Rattle.model.proofs.Chains.{one_with_hash}
use Rattle.ident.specs.Kinds.{BlockHash}
use Rattle.blockstore.specs.Stored.{Stored, Store, blocks_of}
use Rattle.blockstore.specs.Answers.{IsAt}
use Rattle.chainsel.specs.Paths.{IsFit, IsFitLive, IsOnPath}

-- of stored blocks with distinct hashes, those with one hash are one
pub one_stored : (ss : List Stored) (s t : Stored) → HaveDistinctHashes (map (λ x. x.block) ss) → Contains ss s → Contains ss t → block_hash_of s.block ≡ block_hash_of t.block → s ≡ t
one_stored [] s t distinct has_s has_t same = absurd (nothing_contained s has_s)
one_stored (x ∷ xs) s t distinct has_s has_t same =
    let apart : (y : Stored) → Contains xs y → block_hash_of y.block ≡ block_hash_of x.block → s ≡ t =
    λ y later is. absurd (all_of_member (λ d. block_hash_of d ≢ block_hash_of x.block) (map (λ z. z.block) xs) y.block distinct.0 (contains_map (λ z. z.block) xs y later) is) in
    elim (contains_cases x xs s has_s) [
      | inl is ↦ elim (contains_cases x xs t has_t) [
        | inl is_too ↦ sym is ∙ is_too
        | inr later ↦ apart t later (sym same ∙ sym (ap (λ (y : Stored). block_hash_of y.block) is))
      ]
      | inr later ↦ elim (contains_cases x xs t has_t) [
        | inl is ↦ apart s later (same ∙ sym (ap (λ (y : Stored). block_hash_of y.block) is))
        | inr later_too ↦ one_stored xs s t distinct.1 later later_too same
      ]
    ]

-- a live block against which nothing is known is live
pub fit_member : (store : Store) (invalid : List BlockHash) (b : Block) → IsFitLive store invalid b → Contains (blocks_of store) b
fit_member store invalid b live = subst (Contains (blocks_of store)) live.block (contains_map (λ s. s.block) store.blocks live.stored live.member)

-- what a path is made of is the new block or live
pub step_member : (store : Store) (invalid : List BlockHash) (new b : Block) → IsOnPath store invalid new b → Contains (new ∷ blocks_of store) b
step_member store invalid new b (inl is) = subst (Contains (new ∷ blocks_of store)) (sym is) (contains_first new (blocks_of store))
step_member store invalid new b (inr live) = contains_later new (blocks_of store) b (fit_member store invalid b live)

-- blocks that a path is made of and that one block follows are one
pub one_before : (store : Store) (invalid : List BlockHash) (new b c d : Block) → HaveDistinctHashes (new ∷ blocks_of store) → IsOnPath store invalid new b → IsOnPath store invalid new c → Follows (tip_at b) d → Follows (tip_at c) d → b ≡ c
one_before store invalid new b c d distinct step other follows follows_too =
    one_with_hash (new ∷ blocks_of store) b c distinct (step_member store invalid new b step) (step_member store invalid new c other)
    (same_Some (block_hash_of b) (block_hash_of c) (sym follows.previous ∙ follows_too.previous))

-- the live block that has the hash that is named isn't one that may go before
pub none_other : (store : Store) (invalid : List BlockHash) (hash : List ℕ) (found : Stored) (b block : Block) → IsAt store hash found → block.header.previous ≡ Some hash → (IsFit invalid found → Follows (tip_at found.block) block → ⊥)
    → HaveDistinctHashes (blocks_of store) → IsFitLive store invalid b → Follows (tip_at b) block → ⊥
none_other store invalid hash found b block at named refused distinct live follows =
    let hashes : block_hash_of b ≡ hash = same_Some (block_hash_of b) hash (sym follows.previous ∙ named) in
    let same : live.stored ≡ found = one_stored store.blocks live.stored found distinct live.member at.member (ap block_hash_of live.block ∙ (hashes ∙ sym at.same)) in
    refused (subst (IsFit invalid) same live.fit)
    (subst (λ (c : Block). Follows (tip_at c) block) (sym live.block ∙ ap (λ (s : Stored). s.block) same) follows)
