-- Linked blocks in their places: where a hash and a number have one block, one list leads to a block.
use Rattle.std.proofs.Common.{◌≡◌, ℕ, ◌+◌, ◌<◌, List, [], ◌∷◌, ◌++◌, length, Contains, refl, sym, ap, ◌∙◌, arith, inl, inr}
use Rattle.std.specs.List.{AllByRecursion}
use Rattle.std.proofs.lemmas.Option.{same_Some}
use Rattle.model.specs.Block.{Block, block_hash_of}
use Rattle.model.specs.Chain.{Tip, tip_at, tip_after, IsLinked, HaveDistinctHashes}
use Rattle.model.proofs.Lists.{all_of_member, contains_cases}
use Rattle.model.proofs.Chains.{tip_after-append, tip_number, numbers_past, one_with_hash}
use Rattle.chainsel.specs.Dead.{HaveOnePlace}

pub distinct_placed : (bs : List Block) → HaveDistinctHashes bs → HaveOnePlace bs
distinct_placed bs distinct a b has_a has_b hash number = one_with_hash bs a b distinct has_a has_b hash

-- two linked lists of one length that begin at one number and end in one hash are the same, and follow one hash
pub same_placed : (bs : List Block) → HaveOnePlace bs → (s t : Tip) → s.number ≡ t.number → (xs ys : List Block) → IsLinked s xs → IsLinked t ys
    → AllByRecursion (Contains bs) xs → AllByRecursion (Contains bs) ys → length xs ≡ length ys
    → (tip_after s xs).hash ≡ (tip_after t ys).hash → (xs ≡ ys) × (s.hash ≡ t.hash)
same_placed bs place s t at [] [] linked others in_xs in_ys long same = (refl, same)
same_placed bs place s t at [] (y ∷ ys) linked others in_xs in_ys long same = absurd (omega arith)
same_placed bs place s t at (x ∷ xs) [] linked others in_xs in_ys long same = absurd (omega arith)
same_placed bs place s t at (x ∷ xs) (y ∷ ys) linked others in_xs in_ys long same =
    let number : x.header.number ≡ y.header.number = linked.0.number ∙ (ap (λ (n : ℕ). n + 1) at ∙ sym others.0.number) in
    let rest = same_placed bs place (tip_at x) (tip_at y) number xs ys linked.1 others.1 in_xs.1 in_ys.1 (omega arith) same in
    let first : x ≡ y = place x y in_xs.0 in_ys.0 (same_Some (block_hash_of x) (block_hash_of y) rest.1) number in
    ((λ i. first i ∷ rest.0 i), sym linked.0.previous ∙ (ap (λ (b : Block). b.header.previous) first ∙ others.0.previous))

-- a list that ends in a block ends there
pub tip_of_end : (tip : Tip) (front : List Block) (b : Block) → tip_after tip (front ++ b ∷ []) ≡ tip_at b
tip_of_end tip front b = tip_after-append tip front (b ∷ [])

pub length_at_end : (tip : Tip) (front : List Block) (b : Block) → IsLinked tip (front ++ b ∷ []) → b.header.number ≡ tip.number + length (front ++ b ∷ [])
length_at_end tip front b linked = sym (ap (λ (t : Tip). t.number) (tip_of_end tip front b)) ∙ tip_number tip (front ++ b ∷ []) linked

-- one list leads from a tip to a block
pub one_front : (bs : List Block) → HaveOnePlace bs → (tip : Tip) (xs ys : List Block) (b : Block) → IsLinked tip (xs ++ b ∷ []) → IsLinked tip (ys ++ b ∷ [])
    → AllByRecursion (Contains bs) (xs ++ b ∷ []) → AllByRecursion (Contains bs) (ys ++ b ∷ []) → xs ++ b ∷ [] ≡ ys ++ b ∷ []
one_front bs place tip xs ys b linked others in_xs in_ys =
    let first = length_at_end tip xs b linked in
    let second = length_at_end tip ys b others in
    (same_placed bs place tip tip refl (xs ++ b ∷ []) (ys ++ b ∷ []) linked others in_xs in_ys (omega (arith, first, second))
    (ap (λ (t : Tip). t.hash) (tip_of_end tip xs b ∙ sym (tip_of_end tip ys b)))).0

-- linked blocks of one number are one
pub one_number : (tip : Tip) (xs : List Block) (a b : Block) → IsLinked tip xs → Contains xs a → Contains xs b → a.header.number ≡ b.header.number → a ≡ b
one_number tip [] a b linked has_a has_b same = absurd (omega (arith, has_a.1))
one_number tip (x ∷ xs) a b linked has_a has_b same =
    let past = numbers_past (tip_at x) xs linked.1 in
    elim (contains_cases x xs a has_a) [
      | inl is ↦ elim (contains_cases x xs b has_b) [
        | inl is_too ↦ sym is ∙ is_too
        | inr later ↦ absurd (let above : x.header.number < b.header.number = all_of_member (λ c. x.header.number < c.header.number) xs b past later in let e : x.header.number ≡ a.header.number = ap (λ (c : Block). c.header.number) is in omega (arith, above, e, same))
      ]
      | inr later ↦ elim (contains_cases x xs b has_b) [
        | inl is ↦ absurd (let above : x.header.number < a.header.number = all_of_member (λ c. x.header.number < c.header.number) xs a past later in let e : x.header.number ≡ b.header.number = ap (λ (c : Block). c.header.number) is in omega (arith, above, e, same))
        | inr later_too ↦ one_number (tip_at x) xs a b linked.1 later later_too same
      ]
    ]
