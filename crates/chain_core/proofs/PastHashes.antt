-- Blocks of a chain by their numbers, and those that are never rolled back by their hashes.
use Rattle.std.proofs.Common.{◌≡◌, ◌≢◌, ℕ, zero, suc, ◌+◌, ◌-◌, ◌<◌, ◌≤◌, ◌↔◌, List, [], ◌∷◌, ◌++◌, length, take, drop, Contains, Some, refl, sym, ap, subst, ◌∙◌, arith, inl, inr}
use Rattle.std.specs.Prelude.{Option, None, true, false, is_some, IsTrue, Any, IfSome, MatchOption, option_map, slice_get}
use Rattle.std.specs.List.{AllByRecursion}
use Rattle.std.proofs.lemmas.Bool.{cases_lt}
use Rattle.std.proofs.lemmas.List.{take-append-drop, length-take, length-take-le, length-map}
use Rattle.std.proofs.lemmas.List.Elements.{Contains-append_left, Contains-append_cases}
use Rattle.std.proofs.lemmas.Option.{same_Some, none-some}
use Rattle.model.specs.Block.{Block, block_hash_of}
use Rattle.model.specs.Ledger.{Network}
use Rattle.model.specs.Chain.{Tip, genesis_tip, tip_at, tip_after, IsLinked, immutable_length, immutable_part, NoneHas}
use Rattle.model.proofs.Lists.{all_of_member, all_from_members, all_weaker, nothing_contained, contains_cases, contains_first, contains_later}
use Rattle.model.proofs.Chains.{linked_front, linked_rest, tip_number, numbers_past}
use Rattle.blockstore.specs.Answers.{HasNoneAt}
use Rattle.blockstore.specs.Stored.{HasBlock}
use Rattle.ledgerdb.proofs.ForCallers.{database_valid}
use Rattle.chain.specs.Chained.{chain_of}
use Rattle.chain.specs.Indexed.{first_hashes}
use Rattle.chain.proofs.ForCallers.{numbered_is_within}
use Rattle.chain_core.specs.Numbers.{block_numbered}
use Rattle.chain_core.specs.declared.chain_db.ChainDb.{ChainDb}
use Rattle.chain_core.specs.ChainDbs.{IsWhole, IsIndexed}
use Rattle.chain_core.proofs.InMemory.{none_gone}

-- ---- blocks of a chain by their numbers

numbered_from : (tip : Tip) (chain : List Block) (b : Block) (n : ℕ) → IsLinked tip chain → Contains chain b → b.header.number ≡ suc (tip.number + n) → slice_get chain n ≡ Some b
numbered_from tip [] b n linked member is = absurd (nothing_contained b member)
numbered_from tip (x ∷ xs) b zero linked member is = elim (contains_cases x xs b member) [
  | inl same ↦ ap Some same
  | inr later ↦ absurd (let past = all_of_member (λ (c : Block). x.header.number < c.header.number) xs b (numbers_past (tip_at x) xs linked.1) later in let first = linked.0.number in omega (arith, past, first, is))
]
numbered_from tip (x ∷ xs) b (suc n) linked member is = elim (contains_cases x xs b member) [
  | inl same ↦ absurd (let first = linked.0.number in let e : x.header.number ≡ b.header.number = ap (λ (c : Block). c.header.number) same in omega (arith, first, e, is))
  | inr later ↦ numbered_from (tip_at x) xs b n linked.1 later (let first = linked.0.number in omega (arith, first, is))
]

-- a block of a chain is the one of its number
pub numbered_of : (chain : List Block) (b : Block) → IsLinked genesis_tip chain → Contains chain b → block_numbered chain b.header.number ≡ Some b
numbered_of chain b linked member =
    let past = all_of_member (λ (c : Block). 0 < c.header.number) chain b (numbers_past genesis_tip chain linked) member in
    let e : b.header.number ≡ suc (b.header.number - 1) = omega (arith, past) in
    subst (λ (m : ℕ). block_numbered chain m ≡ Some b) (sym e) (numbered_from genesis_tip chain b (b.header.number - 1) linked member (omega (arith, past)))

slice_get_in : (chain : List Block) (n : ℕ) (b : Block) → slice_get chain n ≡ Some b → Contains chain b
slice_get_in [] n b is = absurd (none-some b is)
slice_get_in (x ∷ xs) zero b is = subst (Contains (x ∷ xs)) (same_Some x b is) (contains_first x xs)
slice_get_in (x ∷ xs) (suc n) b is = contains_later x xs b (slice_get_in xs n b is)

-- a block of some number is one of the chain
pub numbered_in : (chain : List Block) (n : ℕ) (b : Block) → block_numbered chain n ≡ Some b → Contains chain b
numbered_in chain zero b is = absurd (none-some b is)
numbered_in chain (suc n) b is = slice_get_in chain n b is

-- ---- the blocks past the first ones

-- after the first n blocks of a chain all numbers are past n
numbers_after : (chain : List Block) (n : ℕ) → n ≤ length chain → IsLinked genesis_tip chain → AllByRecursion (λ c. n < c.header.number) (drop n chain)
numbers_after chain n within linked =
    let parts : IsLinked genesis_tip (take n chain ++ drop n chain) = subst (IsLinked genesis_tip) (sym (take-append-drop n chain)) linked in
    let number = tip_number genesis_tip (take n chain) (linked_front genesis_tip (take n chain) (drop n chain) parts) in
    all_weaker (λ (c : Block). (tip_after genesis_tip (take n chain)).number < c.header.number) (λ (c : Block). n < c.header.number) (drop n chain) (λ c lt. omega (arith, lt, number, within, length-take n chain))
    (numbers_past (tip_after genesis_tip (take n chain)) (drop n chain) (linked_rest genesis_tip (take n chain) (drop n chain) parts))

-- so a block whose number isn't is among them
among_first : (chain : List Block) (n : ℕ) (b : Block) → n ≤ length chain → IsLinked genesis_tip chain → Contains chain b → b.header.number ≤ n → Contains (take n chain) b
among_first chain n b within linked member at =
    elim (Contains-append_cases (take n chain) (drop n chain) b (subst (λ (bs : List Block). Contains bs b) (sym (take-append-drop n chain)) member)) [
      | inl first ↦ first
      | inr later ↦ absurd (let lt = all_of_member (λ (c : Block). n < c.header.number) (drop n chain) b (numbers_after chain n within linked) later in omega (arith, lt, at))
    ]

-- ---- where the blocks of a chain are

-- the chain is one of linked blocks, and so is its part that is never rolled back
pub whole_linked : {S : Type 0} (network : Network) (a : ChainDb S) → IsWhole network a → IsLinked genesis_tip (chain_of a.chain)
whole_linked network a whole = (database_valid network (chain_of a.chain) a.db whole.settled.database).linked

-- ---- what is indexed

first_long : (n : ℕ) (chain : List Block) → n ≤ length chain → length (first_hashes n chain) ≡ n
first_long n chain within = length-map (take n chain) block_hash_of ∙ length-take-le n chain within

-- as many blocks as are never rolled back
pub indexed_long : {S : Type 0} (network : Network) (a : ChainDb S) → IsWhole network a → length a.past.hashes ≡ immutable_length network (chain_of a.chain)
indexed_long network a whole = ap length whole.past ∙ first_long (immutable_length network (chain_of a.chain)) (chain_of a.chain) (omega arith)

-- so they are the first ones
pub whole_indexed : {S : Type 0} (network : Network) (a : ChainDb S) → IsWhole network a → IsIndexed a
whole_indexed network a whole = whole.past ∙ ap (λ (n : ℕ). first_hashes n (chain_of a.chain)) (sym (indexed_long network a whole))

-- so they are where the chain and the index stay
pub indexed_same : {S : Type 0} (old new : ChainDb S) → new.past.hashes ≡ old.past.hashes → chain_of new.chain ≡ chain_of old.chain → IsIndexed old → IsIndexed new
indexed_same old new hashes chain is = hashes ∙ (is ∙ (ap (λ (n : ℕ). first_hashes n (chain_of old.chain)) (ap length (sym hashes)) ∙ ap (first_hashes (length new.past.hashes)) (sym chain)))

-- a hash that isn't indexed is of none of them
pub none_past : {S : Type 0} (network : Network) (a : ChainDb S) → IsWhole network a → (hash : List ℕ) → NoneHas (take (length a.past.hashes) (chain_of a.chain)) hash → NoneHas (immutable_part network (chain_of a.chain)) hash
none_past network a whole hash none = subst (λ (n : ℕ). NoneHas (take n (chain_of a.chain)) hash) (indexed_long network a whole) none

slice_get_first : (chain : List Block) (i m : ℕ) (b : Block) → slice_get chain i ≡ Some b → i < m → Contains (take m chain) b
slice_get_first [] i m b is lt = absurd (none-some b is)
slice_get_first (x ∷ xs) i zero b is lt = absurd (omega (arith, lt))
slice_get_first (x ∷ xs) zero (suc m) b is lt = subst (Contains (x ∷ take m xs)) (same_Some x b is) (contains_first x (take m xs))
slice_get_first (x ∷ xs) (suc i) (suc m) b is lt = contains_later x (take m xs) b (slice_get_first xs i m b is (omega (arith, lt)))

numbered_first : (chain : List Block) (n m : ℕ) (b : Block) → block_numbered chain n ≡ Some b → n ≤ m → Contains (take m chain) b
numbered_first chain zero m b is le = absurd (none-some b is)
numbered_first chain (suc n) m b is le = slice_get_first chain n m b is (omega (arith, le))

-- and the block of a number that is indexed is one of them
pub found_past : {S : Type 0} (network : Network) (a : ChainDb S) → IsWhole network a → (n : ℕ) (b : Block) → n ≤ length a.past.hashes → block_numbered (chain_of a.chain) n ≡ Some b → Contains (immutable_part network (chain_of a.chain)) b
found_past network a whole n b within is = let e = indexed_long network a whole in numbered_first (chain_of a.chain) n (immutable_length network (chain_of a.chain)) b is (omega (arith, e, within))

-- a block that was found by its number, where all blocks are in memory
pub got_past : {S B : Type 0} (a : ChainDb S) (got : Option B) (f : B → Block) (n : ℕ) (hash : List ℕ) → (length a.chain.gone < n → option_map f got ≡ block_numbered (chain_of a.chain) n)
    → IfSome got (λ x. (length a.chain.gone < n) × (block_numbered (chain_of a.chain) n ≡ Some (f x))) → (b : Block) × (block_numbered (chain_of a.chain) n ≡ Some b) × (block_hash_of b ≡ hash)
    → MatchOption got ((network : Network) → IsWhole network a → NoneHas (chain_of a.chain) hash) (λ x. Contains (chain_of a.chain) (f x) × (block_hash_of (f x) ≡ hash))
got_past a None f n hash there block found = λ network whole.
    let some = numbered_is_within (chain_of a.chain) n found.0 found.1 in
    let e = none_gone a.chain whole.gone in
    absurd (none-some found.0 (there (omega (arith, e, some.0)) ∙ found.1))
got_past a (Some x) f n hash there block found = (
  numbered_in (chain_of a.chain) n (f x) block.1,
  ap block_hash_of (same_Some (f x) found.0 (sym block.1 ∙ found.1)) ∙ found.2,
)

-- where a hash isn't indexed, and no live block of the chain has it, none has it
pub none_on_chain : {S : Type 0} (network : Network) (a : ChainDb S) → IsWhole network a → (hash : List ℕ) → NoneHas (take (length a.past.hashes) (chain_of a.chain)) hash
    → ((c : Block) → HasBlock a.store c → block_hash_of c ≡ hash → block_numbered (chain_of a.chain) c.header.number ≡ Some c → ⊥) → NoneHas (chain_of a.chain) hash
none_on_chain network a whole hash unindexed none =
    all_from_members (λ (b : Block). block_hash_of b ≢ hash) (chain_of a.chain) (λ c member same.
    let n = immutable_length network (chain_of a.chain) in
    let linked = whole_linked network a whole in
    elim (cases_lt n c.header.number) [
      | inl young ↦ none c (all_of_member (λ (x : Block). n < x.header.number → HasBlock a.store x) (chain_of a.chain) c whole.settled.live member young) same (numbered_of (chain_of a.chain) c linked member)
      | inr old ↦
          let first = among_first (chain_of a.chain) n c (omega arith) linked member old in
          all_of_member (λ (b : Block). block_hash_of b ≢ hash) (immutable_part network (chain_of a.chain)) c (none_past network a whole hash unindexed) first same
    ])

-- where no live block has a hash, a block of the chain that has it is never rolled back
pub past_without_live : {S : Type 0} (network : Network) (a : ChainDb S) → IsWhole network a → (hash : List ℕ) → HasNoneAt a.store hash → (c : Block) → Contains (chain_of a.chain) c → block_hash_of c ≡ hash → Contains (immutable_part network (chain_of a.chain)) c
past_without_live network a whole hash none c member same =
    let n = immutable_length network (chain_of a.chain) in
    elim (cases_lt n c.header.number) [
      | inl young ↦ absurd (none c (all_of_member (λ (x : Block). n < x.header.number → HasBlock a.store x) (chain_of a.chain) c whole.settled.live member young) same)
      | inr old ↦ among_first (chain_of a.chain) n c (omega arith) (whole_linked network a whole) member old
    ]

-- the number of such a block is not past how many there are
pub past_number : {S : Type 0} (network : Network) (a : ChainDb S) → IsWhole network a → (c : Block) → Contains (immutable_part network (chain_of a.chain)) c → c.header.number ≤ immutable_length network (chain_of a.chain)
past_number network a whole c member =
    let n = immutable_length network (chain_of a.chain) in
    let parts : IsLinked genesis_tip (take n (chain_of a.chain) ++ drop n (chain_of a.chain)) = subst (IsLinked genesis_tip) (sym (take-append-drop n (chain_of a.chain))) (whole_linked network a whole) in
    let linked = linked_front genesis_tip (take n (chain_of a.chain)) (drop n (chain_of a.chain)) parts in
    let at = numbered_is_within (take n (chain_of a.chain)) c.header.number c (numbered_of (take n (chain_of a.chain)) c linked member) in
    let long = length-take n (chain_of a.chain) in
    omega (arith, at.1, long)

-- and it is one of the chain
pub past_on_chain : {S : Type 0} (network : Network) (a : ChainDb S) (c : Block) → Contains (immutable_part network (chain_of a.chain)) c → Contains (chain_of a.chain) c
past_on_chain network a c member =
    let n = immutable_length network (chain_of a.chain) in
    subst (λ (bs : List Block). Contains bs c) (take-append-drop n (chain_of a.chain)) (Contains-append_left (take n (chain_of a.chain)) (drop n (chain_of a.chain)) c member)

-- whether there is such a block of a hash
pub is_past_if : {S : Type 0} (network : Network) (a : ChainDb S) → IsWhole network a → (hash : List ℕ) (got : Option ℕ) → MatchOption got (NoneHas (take (length a.past.hashes) (chain_of a.chain)) hash)
    (λ n. (n ≤ length a.past.hashes) × ((b : Block) × (block_numbered (chain_of a.chain) n ≡ Some b) × (block_hash_of b ≡ hash)))
    → IsTrue (is_some got) ↔ Any (λ c. block_hash_of c ≡ hash) (immutable_part network (chain_of a.chain))
is_past_if network a whole hash None told = (
  (λ yes. absurd (let e : false ≡ true = yes in cc)),
  (λ any. absurd (all_of_member (λ (b : Block). block_hash_of b ≢ hash) (immutable_part network (chain_of a.chain)) any.1 (none_past network a whole hash told) (any.0, any.2, any.3) any.4)),
)
is_past_if network a whole hash (Some n) told = (
  (λ yes.
      let b : Block = told.1.0 in
      let first : Contains (immutable_part network (chain_of a.chain)) b = found_past network a whole n b told.0 told.1.1 in
      (first.0, b, first.1, first.2, told.1.2)),
  (λ any. refl),
)
