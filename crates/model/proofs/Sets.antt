-- Lists of blocks as sets: with distinct hashes, the same members are as many.
use Rattle.std.proofs.Common.{◌≡◌, ◌≢◌, ℕ, zero, suc, ◌+◌, ◌<◌, ◌≤◌, List, [], ◌∷◌, ◌++◌, length, get_or, take, drop, Contains, refl, sym, ap, subst, ◌∙◌, arith, inl, inr, le_antisymm}
use Rattle.std.specs.Prelude.{sum_by}
use Rattle.std.specs.List.{AllByRecursion}
use Rattle.std.proofs.lemmas.List.Sums.{sum_by-cons}
use Rattle.std.proofs.lemmas.List.{length-take, length-drop, length-append}
use Rattle.std.proofs.lemmas.List.Elements.{Contains-append_left, Contains-append_right, Contains-append_cases}
use Rattle.model.specs.Block.{Block, block_hash_of}
use Rattle.model.specs.Chain.{HaveDistinctHashes}
use Rattle.model.proofs.Lists.{all_of_member, all_from_members, contains_first, contains_later, contains_cases, nothing_contained}
use Rattle.model.proofs.Chains.{one_with_hash}

-- the list without its element at k
abbrev pub without : ℕ → List Block → List Block
without k bs = take k bs ++ drop (suc k) bs

-- the list is what stands before the element at k, that element, and what stands behind
pub split_at : (k : ℕ) (bs : List Block) (b : Block) → k < length bs → get_or bs k b ≡ b → bs ≡ take k bs ++ b ∷ drop (suc k) bs
split_at zero [] b below is = absurd (omega arith)
split_at zero (x ∷ xs) b below is = λ i. is i ∷ xs
split_at (suc k) [] b below is = absurd (omega arith)
split_at (suc k) (x ∷ xs) b below is = ap (λ ys. x ∷ ys) (split_at k xs b (omega arith) is)

pub length-without : (k : ℕ) (bs : List Block) → k < length bs → length (without k bs) + 1 ≡ length bs
length-without k bs below = omega (arith, length-append (take k bs) (drop (suc k) bs), length-take k bs, length-drop (suc k) bs)

-- another member stays
pub still_contained : (k : ℕ) (bs : List Block) (b c : Block) → k < length bs → get_or bs k b ≡ b → Contains bs c → c ≢ b → Contains (without k bs) c
still_contained k bs b c below is member other =
    elim (Contains-append_cases (take k bs) (b ∷ drop (suc k) bs) c (subst (λ (xs : List Block). Contains xs c) (split_at k bs b below is) member)) [
      | inl before ↦ Contains-append_left (take k bs) (drop (suc k) bs) c before
      | inr there ↦ elim (contains_cases b (drop (suc k) bs) c there) [
        | inl same ↦ absurd (other (sym same))
        | inr behind ↦ Contains-append_right (take k bs) (drop (suc k) bs) c behind
      ]
    ]

-- and nothing comes
pub was_contained : (k : ℕ) (bs : List Block) (b c : Block) → k < length bs → get_or bs k b ≡ b → Contains (without k bs) c → Contains bs c
was_contained k bs b c below is member =
    subst (λ (xs : List Block). Contains xs c) (sym (split_at k bs b below is))
    (elim (Contains-append_cases (take k bs) (drop (suc k) bs) c member) [
      | inl before ↦ Contains-append_left (take k bs) (b ∷ drop (suc k) bs) c before
      | inr behind ↦ Contains-append_right (take k bs) (b ∷ drop (suc k) bs) c (contains_later b (drop (suc k) bs) c behind)
    ])

-- distinct blocks that are all in a list are no more than it has
pub no_more_than : (xs ys : List Block) → HaveDistinctHashes xs → ((b : Block) → Contains xs b → Contains ys b) → length xs ≤ length ys
no_more_than [] ys distinct within = omega arith
no_more_than (x ∷ xs) ys distinct within =
    let at = within x (contains_first x xs) in
    let rest = no_more_than xs (without at.0 ys) distinct.1
    (λ b member. still_contained at.0 ys x b at.1 at.2 (within b (contains_later x xs b member))
    (λ same. all_of_member (λ c. block_hash_of c ≢ block_hash_of x) xs b distinct.0 member (ap block_hash_of same))) in
    omega (arith, length-without at.0 ys at.1)

-- without one of them, distinct blocks are distinct still, and have other hashes than it has
pub distinct_without : (k : ℕ) (bs : List Block) (b : Block) → k < length bs → get_or bs k b ≡ b → HaveDistinctHashes bs
    → HaveDistinctHashes (without k bs) × AllByRecursion (λ c. block_hash_of c ≢ block_hash_of b) (without k bs)
distinct_without zero [] b below is distinct = absurd (omega arith)
distinct_without zero (x ∷ xs) b below is distinct = (distinct.1, subst (λ (y : Block). AllByRecursion (λ c. block_hash_of c ≢ block_hash_of y) xs) is distinct.0)
distinct_without (suc k) [] b below is distinct = absurd (omega arith)
distinct_without (suc k) (x ∷ xs) b below is distinct =
    let lower : k < length xs = omega arith in
    let rest = distinct_without k xs b lower is distinct.1 in
    let there : Contains xs b = (k, lower, is) in
    let apart : block_hash_of b ≢ block_hash_of x = all_of_member (λ c. block_hash_of c ≢ block_hash_of x) xs b distinct.0 there in (
      (
        all_from_members (λ c. block_hash_of c ≢ block_hash_of x) (without k xs)
            (λ c member. all_of_member (λ d. block_hash_of d ≢ block_hash_of x) xs c distinct.0 (was_contained k xs b c lower is member)),
        rest.0,
      ),
      ((λ same. apart (sym same)), rest.1),
    )

-- a list with the members of distinct blocks and no more places has distinct hashes
pub distinct_by_count : (xs ys : List Block) → HaveDistinctHashes xs → ((b : Block) → Contains xs b → Contains ys b) → ((b : Block) → Contains ys b → Contains xs b)
    → length ys ≤ length xs → HaveDistinctHashes ys
distinct_by_count xs [] distinct out back fewer = tt
distinct_by_count xs (y ∷ ys) distinct out back fewer =
    let at = back y (contains_first y ys) in
    let others : AllByRecursion (λ c. block_hash_of c ≢ block_hash_of y) ys = all_from_members (λ c. block_hash_of c ≢ block_hash_of y) ys
    (λ c member same.
    let one : c ≡ y = one_with_hash xs c y distinct (back c (contains_later y ys c member)) at same in
    let here : Contains ys y = subst (Contains ys) one member in
    let many : length xs ≤ length ys = no_more_than xs ys distinct
    (λ b in_xs. elim (contains_cases y ys b (out b in_xs)) [ inl is ↦ subst (Contains ys) is here | inr later ↦ later ]) in
    omega arith) in
    let rest = distinct_without at.0 xs y at.1 at.2 distinct in (
      others,
      distinct_by_count (without at.0 xs) ys rest.0
          (λ b member. elim (contains_cases y ys b (out b (was_contained at.0 xs y b at.1 at.2 member))) [
            | inl is ↦ absurd (all_of_member (λ c. block_hash_of c ≢ block_hash_of y) (without at.0 xs) b rest.1 member (sym (ap block_hash_of is)))
            | inr later ↦ later
          ])
          (λ b member. still_contained at.0 xs y b at.1 at.2 (back b (contains_later y ys b member))
          (λ same. all_of_member (λ c. block_hash_of c ≢ block_hash_of y) ys b others member (ap block_hash_of same)))
          (omega (arith, length-without at.0 xs at.1)),
    )

-- distinct blocks with the same members are as many
pub same_count : (xs ys : List Block) → HaveDistinctHashes xs → HaveDistinctHashes ys → ((b : Block) → Contains xs b → Contains ys b) → ((b : Block) → Contains ys b → Contains xs b)
    → length xs ≡ length ys
same_count xs ys distinct distinct_too out back = le_antisymm (no_more_than xs ys distinct out) (no_more_than ys xs distinct_too back)

-- ---- sums

-- what the elements count together is what one counts and what the others do
pub sum_without : (count : Block → ℕ) (k : ℕ) (bs : List Block) (b : Block) → k < length bs → get_or bs k b ≡ b → sum_by count bs ≡ count b + sum_by count (without k bs)
sum_without count zero [] b below is = absurd (omega arith)
sum_without count zero (x ∷ xs) b below is = sum_by-cons count x xs ∙ ap (λ y. count y + sum_by count xs) is
sum_without count (suc k) [] b below is = absurd (omega arith)
sum_without count (suc k) (x ∷ xs) b below is =
    let first = sum_by-cons count x xs in
    let rest = sum_without count k xs b (omega arith) is in
    let again = sum_by-cons count x (without k xs) in
    omega arith

-- distinct blocks with the same members count the same
pub same_sum : (count : Block → ℕ) (xs ys : List Block) → HaveDistinctHashes xs → HaveDistinctHashes ys → ((b : Block) → Contains xs b → Contains ys b) → ((b : Block) → Contains ys b → Contains xs b)
    → sum_by count xs ≡ sum_by count ys
same_sum count [] [] distinct distinct_too out back = refl
same_sum count [] (y ∷ ys) distinct distinct_too out back = absurd (nothing_contained y (back y (contains_first y ys)))
same_sum count (x ∷ xs) ys distinct distinct_too out back =
    let at = out x (contains_first x xs) in
    let left = distinct_without at.0 ys x at.1 at.2 distinct_too in
    let rest = same_sum count xs (without at.0 ys) distinct.1 left.0
    (λ b member. still_contained at.0 ys x b at.1 at.2 (out b (contains_later x xs b member))
    (λ same. all_of_member (λ c. block_hash_of c ≢ block_hash_of x) xs b distinct.0 member (ap block_hash_of same)))
    (λ b member. elim (contains_cases x xs b (back b (was_contained at.0 ys x b at.1 at.2 member))) [
      | inl is ↦ absurd (all_of_member (λ c. block_hash_of c ≢ block_hash_of x) (without at.0 ys) b left.1 member (sym (ap block_hash_of is)))
      | inr later ↦ later
    ]) in
    let first = sum_by-cons count x xs in
    let whole = sum_without count at.0 ys x at.1 at.2 in
    omega arith
