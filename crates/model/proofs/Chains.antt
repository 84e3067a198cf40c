-- Linked lists of blocks: their numbers, and that their last block determines them.
use Rattle.std.proofs.Common.{◌≡◌, ◌≢◌, ◌+◌, ◌<◌, ◌≤◌, List, [], ◌∷◌, ◌++◌, length, take, Contains, Some, refl, sym, ap, ◌∙◌, arith, inl, inr}
use Rattle.std.specs.Prelude.{unwrap_or}
use Rattle.std.specs.List.{AllByRecursion}
use Rattle.std.proofs.lemmas.List.{length-take, take_all, take-take}
use Rattle.std.proofs.lemmas.Option.{same_Some}
use Rattle.model.specs.Block.{Block, block_hash_of}
use Rattle.model.specs.Ledger.{Network}
use Rattle.model.specs.Chain.{Tip, tip_at, genesis_tip, tip_after, tip_hash, IsLinked, HaveDistinctHashes, immutable_length, immutable_part, BeginsWith, IsCandidate}
use Rattle.model.proofs.Lists.{all_of_member, all_weaker, contains_cases}

-- ---- tips and numbers

pub tip_after-append : (tip : Tip) (xs ys : List Block) → tip_after tip (xs ++ ys) ≡ tip_after (tip_after tip xs) ys
tip_after-append tip [] ys = refl
tip_after-append tip (x ∷ xs) ys = tip_after-append (tip_at x) xs ys

-- what follows a beginning is linked to its tip
pub linked_rest : (tip : Tip) (xs ys : List Block) → IsLinked tip (xs ++ ys) → IsLinked (tip_after tip xs) ys
linked_rest tip [] ys linked = linked
linked_rest tip (x ∷ xs) ys linked = linked_rest (tip_at x) xs ys linked.1

pub linked_front : (tip : Tip) (xs ys : List Block) → IsLinked tip (xs ++ ys) → IsLinked tip xs
linked_front tip [] ys linked = tt
linked_front tip (x ∷ xs) ys linked = (linked.0, linked_front (tip_at x) xs ys linked.1)

-- each block adds one to the number
pub tip_number : (tip : Tip) (xs : List Block) → IsLinked tip xs → (tip_after tip xs).number ≡ tip.number + length xs
tip_number tip [] linked = omega arith
tip_number tip (x ∷ xs) linked = let more = tip_number (tip_at x) xs linked.1 in let first = linked.0.number in omega arith

-- each block's number is past the tip's
pub numbers_past : (tip : Tip) (xs : List Block) → IsLinked tip xs → AllByRecursion (λ b. tip.number < b.header.number) xs
numbers_past tip [] linked = tt
numbers_past tip (x ∷ xs) linked =
    let first : tip.number < x.header.number = let is = linked.0.number in omega arith in
    (first, all_weaker (λ b. x.header.number < b.header.number) (λ b. tip.number < b.header.number) xs (λ b past. omega arith) (numbers_past (tip_at x) xs linked.1))

-- a chain that is not empty ends in a block's hash
pub tip_hash_some : (tip : Tip) (x : Block) (xs : List Block) → (tip_after tip (x ∷ xs)).hash ≡ Some (unwrap_or (tip_after tip (x ∷ xs)).hash [])
tip_hash_some tip x [] = refl
tip_hash_some tip x (y ∷ ys) = tip_hash_some (tip_at x) y ys

pub same_tips : (xs ys : List Block) → 0 < length xs → 0 < length ys → tip_hash xs ≡ tip_hash ys → (tip_after genesis_tip xs).hash ≡ (tip_after genesis_tip ys).hash
same_tips [] ys some others same = absurd (omega arith)
same_tips (x ∷ xs) [] some others same = absurd (omega arith)
same_tips (x ∷ xs) (y ∷ ys) some others same = tip_hash_some genesis_tip x xs ∙ (ap Some same ∙ sym (tip_hash_some genesis_tip y ys))

-- ---- distinct hashes

-- of blocks with distinct hashes, those with one hash are one
pub one_with_hash : (bs : List Block) (b c : Block) → HaveDistinctHashes bs → Contains bs b → Contains bs c → block_hash_of b ≡ block_hash_of c → b ≡ c
one_with_hash [] b c distinct has_b has_c same = absurd (omega (arith, has_b.1))
one_with_hash (x ∷ xs) b c distinct has_b has_c same =
    elim (contains_cases x xs b has_b) [
      | inl is ↦ elim (contains_cases x xs c has_c) [
        | inl is_too ↦ sym is ∙ is_too
        | inr later ↦ absurd (all_of_member (λ d. block_hash_of d ≢ block_hash_of x) xs c distinct.0 later (sym same ∙ sym (ap block_hash_of is)))
      ]
      | inr later ↦ elim (contains_cases x xs c has_c) [
        | inl is ↦ absurd (all_of_member (λ d. block_hash_of d ≢ block_hash_of x) xs b distinct.0 later (same ∙ sym (ap block_hash_of is)))
        | inr later_too ↦ one_with_hash xs b c distinct.1 later later_too same
      ]
    ]

-- two linked lists of one length that end in one hash, of blocks with distinct hashes, are the same, and
-- follow one hash
pub same_blocks : (bs : List Block) → HaveDistinctHashes bs → (s t : Tip) (xs ys : List Block) → IsLinked s xs → IsLinked t ys
    → AllByRecursion (Contains bs) xs → AllByRecursion (Contains bs) ys → length xs ≡ length ys
    → (tip_after s xs).hash ≡ (tip_after t ys).hash → (xs ≡ ys) × (s.hash ≡ t.hash)
same_blocks bs distinct s t [] [] linked others in_xs in_ys long same = (refl, same)
same_blocks bs distinct s t [] (y ∷ ys) linked others in_xs in_ys long same = absurd (omega arith)
same_blocks bs distinct s t (x ∷ xs) [] linked others in_xs in_ys long same = absurd (omega arith)
same_blocks bs distinct s t (x ∷ xs) (y ∷ ys) linked others in_xs in_ys long same =
    let rest = same_blocks bs distinct (tip_at x) (tip_at y) xs ys linked.1 others.1 in_xs.1 in_ys.1 (omega arith) same in
    let first : x ≡ y = one_with_hash bs x y distinct in_xs.0 in_ys.0 (same_Some (block_hash_of x) (block_hash_of y) rest.1) in
    ((λ i. first i ∷ rest.0 i), sym linked.0.previous ∙ (ap (λ (b : Block). b.header.previous) first ∙ others.0.previous))

-- ---- the immutable part

pub length_immutable : (network : Network) (chain : List Block) → length (immutable_part network chain) ≡ immutable_length network chain
length_immutable network chain = omega (arith, length-take (immutable_length network chain) chain)

pub begins_with_itself : (network : Network) (chain : List Block) → BeginsWith chain (immutable_part network chain)
begins_with_itself network chain = ap (λ n. take n chain) (length_immutable network chain)

pub begins_with_whole : (chain : List Block) → BeginsWith chain chain
begins_with_whole chain = take_all (length chain) chain (omega arith)

-- what begins with a longer chain's immutable part begins with this one's, where that chain begins so
pub begins_earlier : (network : Network) (old new c : List Block) → length old ≤ length new → BeginsWith new (immutable_part network old) → BeginsWith c (immutable_part network new) → BeginsWith c (immutable_part network old)
begins_earlier network old new c longer new_begins c_begins =
    let m = immutable_length network old in
    let n = immutable_length network new in
    let le : m ≤ n = omega arith in
    let c_at : take n c ≡ take n new = ap (λ j. take j c) (sym (length_immutable network new)) ∙ c_begins in
    let new_at : take m new ≡ immutable_part network old = ap (λ j. take j new) (sym (length_immutable network old)) ∙ new_begins in
    ap (λ j. take j c) (length_immutable network old) ∙ (sym (take-take m n c le) ∙ (ap (take m) c_at ∙ (take-take m n new le ∙ new_at)))

-- a candidate through the new immutable tip is one through the old one
pub older_candidate : (network : Network) (kept old new c : List Block) → length old ≤ length new → BeginsWith new (immutable_part network old) → IsCandidate network kept new c → IsCandidate network kept old c
older_candidate network kept old new c longer begins candidate =
    record { valid = candidate.valid; members = candidate.members; begins = begins_earlier network old new c longer begins candidate.begins }
