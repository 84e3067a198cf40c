-- The block with the least hash of several.
use Rattle.std.proofs.Common.{◌≡◌, ◌≢◌, ◌++◌, List, [], ◌∷◌, ℕ, refl, sym, ap, ◌∙◌}
use Rattle.std.specs.Ordering.{nat_cmp, ordering_reverse}
use Rattle.std.specs.declared.cmp.Ordering.{Ordering}
use Rattle.std.specs.declared.cmp.Ordering.TheVariants.{Less, Equal, Greater}
use Rattle.std.specs.Cmp.{IsTotalOrder}
use Rattle.std.specs.Cmp.Lexicographic.{slice_cmp, nat_list_cmp_total}
use Rattle.model.specs.Block.{Block, block_hash_of}
use Rattle.model.proofs.Lists.{all_push, all_weaker}
use Rattle.chainsel.specs.Ends.{HasLeastHash}

not_greater_than_itself : (x : List ℕ) → slice_cmp nat_cmp x x ≢ Greater
not_greater_than_itself x = by (slice_cmp nat_cmp x x) (IsTotalOrder.antisymm nat_list_cmp_total x x)
  where
    by : (r : Ordering) → r ≡ ordering_reverse r → r ≢ Greater
    by Less e g = cc
    by Equal e g = cc
    by Greater e g = cc

not_greater_of_less : (x y : List ℕ) → slice_cmp nat_cmp x y ≡ Less → slice_cmp nat_cmp x y ≢ Greater
not_greater_of_less x y less greater = let e : Less ≡ Greater = sym less ∙ greater in cc

-- what is not less is not greater the other way round
not_less_back : (x y : List ℕ) → (slice_cmp nat_cmp x y ≡ Less → ⊥) → slice_cmp nat_cmp y x ≢ Greater
not_less_back x y not_less greater = not_less (IsTotalOrder.antisymm nat_list_cmp_total x y ∙ ap ordering_reverse greater)

-- what is less than another is not greater than what that is not greater than
less_still : (x y z : List ℕ) → slice_cmp nat_cmp x y ≡ Less → slice_cmp nat_cmp y z ≢ Greater → slice_cmp nat_cmp x z ≢ Greater
less_still x y z less not_greater = by (slice_cmp nat_cmp y z) refl
  where
    by : (r : Ordering) → slice_cmp nat_cmp y z ≡ r → slice_cmp nat_cmp x z ≢ Greater
    by Less is = not_greater_of_less x z (IsTotalOrder.trans nat_list_cmp_total x y z less is)
    by Equal is = let back : slice_cmp nat_cmp z y ≡ Equal = IsTotalOrder.antisymm nat_list_cmp_total z y ∙ ap ordering_reverse is in
        let same : slice_cmp nat_cmp z x ≡ slice_cmp nat_cmp y x = IsTotalOrder.congr nat_list_cmp_total z y x back in
        λ greater.
        let zx : slice_cmp nat_cmp z x ≡ Less = IsTotalOrder.antisymm nat_list_cmp_total z x ∙ ap ordering_reverse greater in
        let xy : slice_cmp nat_cmp x y ≡ Greater = IsTotalOrder.antisymm nat_list_cmp_total x y ∙ ap ordering_reverse (sym same ∙ zx) in
        (let e : Less ≡ Greater = sym less ∙ xy in cc)
    by Greater is = absurd (not_greater is)

-- the next block has a lesser hash
pub least_lesser : (bs : List Block) (b least : Block) → HasLeastHash bs least → slice_cmp nat_cmp (block_hash_of b) (block_hash_of least) ≡ Less → HasLeastHash (bs ++ b ∷ []) b
least_lesser bs b least has less =
    all_push (λ c. slice_cmp nat_cmp (block_hash_of b) (block_hash_of c) ≢ Greater) bs b
    (all_weaker (λ c. slice_cmp nat_cmp (block_hash_of least) (block_hash_of c) ≢ Greater) (λ c. slice_cmp nat_cmp (block_hash_of b) (block_hash_of c) ≢ Greater) bs
    (λ c not_greater. less_still (block_hash_of b) (block_hash_of least) (block_hash_of c) less not_greater) has)
    (not_greater_than_itself (block_hash_of b))

-- the next block has no lesser hash
pub least_stays : (bs : List Block) (b least : Block) → HasLeastHash bs least → (slice_cmp nat_cmp (block_hash_of b) (block_hash_of least) ≡ Less → ⊥) → HasLeastHash (bs ++ b ∷ []) least
least_stays bs b least has not_less =
    all_push (λ c. slice_cmp nat_cmp (block_hash_of least) (block_hash_of c) ≢ Greater) bs b has
    (not_less_back (block_hash_of b) (block_hash_of least) not_less)
