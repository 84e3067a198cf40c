-- The same blocks in another order: what is said of a store with them.
use Rattle.std.proofs.Common.{◌≡◌, ◌↔◌, ℕ, List, ◌∷◌, map, Contains, Option, Some, None, refl, ap, subst, ◌∙◌, arith, Bor}
use Rattle.std.specs.Prelude.{MatchOption, Result, Ok, Err, IfOk}
use Rattle.std.specs.Global.{Vec}
use Rattle.std.proofs.lemmas.List.{length-map}
use Rattle.block.specs.Read.{IsRead}
use Rattle.model.specs.Block.{Block, block_hash_of, block_text}
use Rattle.model.specs.Ledger.{Network}
use Rattle.model.specs.History.{without_hash}
use Rattle.model.proofs.Lists.{all_of_member, all_from_members}
use Rattle.model.proofs.MappedLists.{contains_map, contains_before}
use Rattle.model.proofs.Sets.{distinct_by_count}
use Rattle.blockstore.specs.Stored.{Stored, Store, IsSet}
use Rattle.blockstore.specs.Insertion.{IsInserted}
use Rattle.blockstore.specs.Answers.{HasNoneAt, IsAt, AreSuccessors, IsMarkSet, IsCutTo}
use Rattle.blockstore.specs.Live.{HoldsLive, GainsLive, LosesLive, FollowsChain, KeepsLive}
use Rattle.blockstore.specs.Shelves.{IsSame, HasNone, AreAfter}
use Rattle.blockstore.proofs.Stores.{block_of, AreRead, with_blocks}

same_of : (xs ys : List Stored) → IsSame xs ys → (b : Block) → Contains (map block_of xs) b ↔ Contains (map block_of ys) b
same_of xs ys same b = (
  (λ member. let x = contains_before block_of xs b member in subst (Contains (map block_of ys)) x.2 (contains_map block_of ys x.0 ((same.members x.0).0 x.1))),
  (λ member. let y = contains_before block_of ys b member in subst (Contains (map block_of xs)) y.2 (contains_map block_of xs y.0 ((same.members y.0).1 y.1))),
)

module _ (store : Store) (xs ys : List Stored) (same : IsSame xs ys) where
  pub set_same : IsSet (with_blocks store ys) → IsSet (with_blocks store xs)
  set_same is_set = record {
    distinct = distinct_by_count (map block_of ys) (map block_of xs) is_set.distinct (λ b. (same_of xs ys same b).1) (λ b. (same_of xs ys same b).0)
        (let count = same.count in omega (arith, length-map xs block_of, length-map ys block_of, count));
    few = let count = same.count in let few = is_set.few in omega (arith, count, few);
  }

  pub read_same : AreRead ys → AreRead xs
  read_same read = all_from_members (λ x. IsRead x.block (block_text x.block)) xs (λ x member. all_of_member (λ y. IsRead y.block (block_text y.block)) ys x read ((same.members x).0 member))

  live_same : (network : Network) (kept chain : List Block) → HoldsLive network kept chain (with_blocks store ys) → HoldsLive network kept chain (with_blocks store xs)
  live_same network kept chain live = record {
    members = λ b. ((λ member. (live.members b).0 ((same_of xs ys same b).0 member)), (λ member. (same_of xs ys same b).1 ((live.members b).1 member)));
    count = same.count ∙ live.count;
  }

  pub gains_same : (b : Block) → GainsLive store b (with_blocks store ys) → GainsLive store b (with_blocks store xs)
  gains_same b gains network kept chain live past = live_same network (b ∷ kept) chain (gains network kept chain live past)

  pub follows_same : (number : ℕ) → FollowsChain store number (with_blocks store ys) → FollowsChain store number (with_blocks store xs)
  follows_same number follows network kept old new live grows at = live_same network kept new (follows network kept old new live grows at)

  pub keeps_same : KeepsLive store (with_blocks store ys) → KeepsLive store (with_blocks store xs)
  keeps_same keeps network kept chain live = live_same network kept chain (keeps network kept chain live)

  pub inserted_same : (b : Block) → IsInserted store b (with_blocks store ys) → IsInserted store b (with_blocks store xs)
  inserted_same b is = record {
    capacity = refl;
    root = refl;
    members = λ x. ((λ member. (is.members x).0 ((same.members x).0 member)), (λ there. (same.members x).1 ((is.members x).1 there)));
    count = same.count ∙ is.count;
  }

  pub loses_same : (hash : List ℕ) → LosesLive store hash (with_blocks store ys) → LosesLive store hash (with_blocks store xs)
  loses_same hash loses network kept chain live = live_same network (without_hash hash kept) chain (loses network kept chain live)

  pub cut_same : (number : ℕ) → IsCutTo store number (with_blocks store ys) → IsCutTo store number (with_blocks store xs)
  cut_same number is = record {
    capacity = refl;
    members = λ x. ((λ member. (is.members x).0 ((same.members x).0 member)), (λ there. (same.members x).1 ((is.members x).1 there)));
    count = same.count ∙ is.count;
  }

  pub mark_same : (hash : List ℕ) → IsMarkSet store hash (with_blocks store ys) → IsMarkSet store hash (with_blocks store xs)
  mark_same hash is = record {
    capacity = refl;
    root = refl;
    members = λ x. ((λ member. (is.members x).0 ((same.members x).0 member)), (λ there. (same.members x).1 ((is.members x).1 there)));
    count = same.count ∙ is.count;
  }

-- ---- what a look-up on the shelf answers

pub get_answer : (store : Store) (hash : List ℕ) (r : Option (Bor Stored))
    → MatchOption r (HasNone store.blocks hash) (λ found. Contains store.blocks found.now × (block_hash_of found.now.block ≡ hash))
    → MatchOption r (HasNoneAt store hash) (λ found. IsAt store hash found.now)
get_answer store hash None none = λ b member same. let found = contains_before block_of store.blocks b member in none found.0 found.1 (ap block_hash_of found.2 ∙ same)
get_answer store hash (Some found) at = record { member = at.0; same = at.1 }

pub successors_answer : {E : Type 0} (store : Store) (previous : Option (List ℕ)) (r : Result (Vec (Bor Stored)) E)
    → IfOk r (λ found. AreAfter store.blocks previous (map (λ x. x.now) found.items)) → IfOk r (λ found. AreSuccessors store previous (map (λ x. x.now) found.items))
successors_answer store previous (Ok found) are = record { members = are.members; once = are.once }
successors_answer store previous (Err e) are = tt
