-- What a scan finds in a store, and what becomes of a store and of the live blocks that it holds.
use Rattle.std.proofs.Common.{◌≡◌, ◌≢◌, ◌↔◌, ℕ, ◌<◌, ◌≤◌, Bool, true, false, cond, List, [], ◌∷◌, ◌++◌, length, map, Contains, refl, sym, ap, subst, ◌∙◌, arith, inl, inr}
use Rattle.std.specs.List.{AllByRecursion, filter}
use Rattle.std.specs.Prelude.{nat_lt, not, bytes_eq}
use Rattle.std.proofs.lemmas.Bool.{cases_lt, lt-ltb, ltb-true}
use Rattle.std.proofs.lemmas.List.{length-map, length-append}
use Rattle.std.proofs.lemmas.List.Elements.{Contains-append_left, Contains-push, Contains-push_cases}
use Rattle.block.specs.Read.{IsRead}
use Rattle.model.specs.Block.{Block, SpellsBlock, block_hash_of, block_text}
use Rattle.model.specs.Ledger.{Network}
use Rattle.model.specs.Chain.{HaveDistinctHashes, live_blocks, immutable_length}
use Rattle.model.specs.History.{without_hash}
use Rattle.model.proofs.Discarding.{distinct_passing}
use Rattle.model.proofs.Lists.{all_of_member, all_from_members, all_push, all_weaker, contains_first, contains_later, contains_cases, contains_filter}
use Rattle.model.proofs.MappedLists.{contains_map, contains_before, filter_member}
use Rattle.model.proofs.Chains.{one_with_hash}
use Rattle.model.proofs.LegalHistories.{narrower_distinct}
use Rattle.model.proofs.BlockTexts.{one_block, block_text_is}
use Rattle.blockstore.specs.Stored.{Stored, Store, unmarked, blocks_of, HasBlock, IsSet}
use Rattle.blockstore.specs.Tests.{is_past, lacks_hash, marked_at}
use Rattle.blockstore.specs.Insertion.{IsKnown, IsClash, IsFull, IsInserted}
use Rattle.blockstore.specs.Answers.{HasNoneAt, IsAt, IsMarkedAt, IsMarkSet, IsRid, IsCutTo}
use Rattle.blockstore.specs.Live.{HoldsLive, GainsLive, LosesLive, FollowsChain, KeepsLive}
use Rattle.blockstore.proofs.Lists.{map_filter, map_same, map_push, all_filter, all_map, distinct_filter, distinct_push, no_longer}
use Rattle.model.proofs.Sets.{same_count, distinct_by_count}
use Rattle.blockstore.proofs.Tests.{is_marked, marked_is, same_block}
use Rattle.blockstore.specs.Shelves.{IsSame}
use Rattle.blockstore.proofs.Leaving.{left_members}
use Rattle.blockstore.proofs.Clearing.{bare_of}

abbrev pub block_of : Stored → Block
block_of s = s.block

-- the stored blocks were read
abbrev pub AreRead : List Stored → Type 0
AreRead blocks = AllByRecursion (λ x. IsRead x.block (block_text x.block)) blocks

-- ---- a mark

abbrev pub with_blocks : Store → List Stored → Store
with_blocks store blocks = record { capacity = store.capacity; root = store.root; blocks = blocks }

same_blocks : (hash : List ℕ) (blocks : List Stored) → map block_of (map (marked_at hash) blocks) ≡ map block_of blocks
same_blocks hash blocks = map_same block_of (marked_at hash) blocks (same_block hash)

pub mark_set : (store : Store) (hash : List ℕ) (blocks : List Stored) → blocks ≡ map (marked_at hash) store.blocks → IsMarkSet store hash (with_blocks store blocks)
mark_set store hash blocks is =
    subst (λ (xs : List Stored). IsMarkSet store hash (with_blocks store xs)) (sym is)
    (record {
      capacity = refl;
      root = refl;
      members = λ x. (
        (λ member. let before = contains_before (marked_at hash) store.blocks x member in (before.0, before.1, subst (IsMarkedAt hash before.0) before.2 (is_marked hash before.0))),
        (λ before. subst (Contains (map (marked_at hash) store.blocks)) (sym (marked_is hash before.0 x before.2)) (contains_map (marked_at hash) store.blocks before.0 before.1)),
      );
      count = length-map store.blocks (marked_at hash);
    })

pub set_marked : (store : Store) (hash : List ℕ) (blocks : List Stored) → blocks ≡ map (marked_at hash) store.blocks → IsSet store → IsSet (with_blocks store blocks)
set_marked store hash blocks is is_set =
    subst (λ (xs : List Stored). IsSet (with_blocks store xs)) (sym is)
    (record {
      distinct = subst HaveDistinctHashes (sym (same_blocks hash store.blocks)) is_set.distinct;
      few = let few = is_set.few in omega (arith, length-map store.blocks (marked_at hash));
    })

pub read_marked : (store : Store) (hash : List ℕ) (blocks : List Stored) → blocks ≡ map (marked_at hash) store.blocks → AreRead store.blocks → AreRead blocks
read_marked store hash blocks is read =
    subst AreRead (sym is)
    (all_map (λ x. IsRead x.block (block_text x.block)) (marked_at hash) store.blocks
    (all_weaker (λ x. IsRead x.block (block_text x.block)) (λ x. IsRead (marked_at hash x).block (block_text (marked_at hash x).block)) store.blocks
    (λ x was. subst (λ (b : Block). IsRead b (block_text b)) (sym (same_block hash x)) was) read))

pub live_marked : (store : Store) (hash : List ℕ) (blocks : List Stored) → blocks ≡ map (marked_at hash) store.blocks → KeepsLive store (with_blocks store blocks)
live_marked store hash blocks is network kept chain live =
    subst (λ (xs : List Stored). HoldsLive network kept chain (with_blocks store xs)) (sym is)
    (record {
      members = λ b. subst (λ (bs : List Block). Contains bs b ↔ Contains (live_blocks network kept chain) b) (sym (same_blocks hash store.blocks)) (live.members b);
      count = length-map store.blocks (marked_at hash) ∙ live.count;
    })

-- ---- a cut

pub past_blocks : (number : ℕ) (blocks : List Stored) → map block_of (filter (is_past number) blocks) ≡ filter (λ b. nat_lt number b.header.number) (map block_of blocks)
past_blocks number blocks = map_filter block_of (λ b. nat_lt number b.header.number) blocks

pub cut_to : (store : Store) (number : ℕ) (blocks : List Stored) → blocks ≡ filter (is_past number) store.blocks → IsCutTo store number (with_blocks store blocks)
cut_to store number blocks is =
    subst (λ (xs : List Stored). IsCutTo store number (with_blocks store xs)) (sym is)
    (record {
      capacity = refl;
      members = λ x. (
        (λ member. let there = filter_member (is_past number) store.blocks x member in (there.0, ltb-true number x.block.header.number there.1)),
        (λ there. contains_filter (is_past number) store.blocks x there.0 (lt-ltb number x.block.header.number there.1)),
      );
      count = refl;
    })

pub set_cut : (store : Store) (number : ℕ) (blocks : List Stored) → blocks ≡ filter (is_past number) store.blocks → IsSet store → IsSet (with_blocks store blocks)
set_cut store number blocks is is_set =
    subst (λ (xs : List Stored). IsSet (with_blocks store xs)) (sym is)
    (record {
      distinct = subst HaveDistinctHashes (sym (past_blocks number store.blocks)) (distinct_filter (λ b. nat_lt number b.header.number) (blocks_of store) is_set.distinct);
      few = let few = is_set.few in omega (arith, no_longer (is_past number) store.blocks);
    })

pub read_cut : (store : Store) (number : ℕ) (blocks : List Stored) → blocks ≡ filter (is_past number) store.blocks → AreRead store.blocks → AreRead blocks
read_cut store number blocks is read = subst AreRead (sym is) (all_filter (λ x. IsRead x.block (block_text x.block)) (is_past number) store.blocks read)

-- where the store holds the live blocks of a chain, what is left past the immutable part of a longer one is live there
live_left : (store : Store) (number : ℕ) (network : Network) (kept old new : List Block) → IsSet store → HoldsLive network kept old store → immutable_length network old ≤ immutable_length network new
    → number ≡ immutable_length network new → HoldsLive network kept new (with_blocks store (filter (is_past number) store.blocks))
live_left store number network kept old new is_set live grows at = record {
  members = λ b. subst (λ (bs : List Block). Contains bs b ↔ Contains (live_blocks network kept new) b) (sym (past_blocks number store.blocks)) (out b, back b);
  count = sym (length-map (filter (is_past number) store.blocks) block_of) ∙ (ap length (past_blocks number store.blocks)
      ∙ same_count left (live_blocks network kept new) (distinct_filter past (blocks_of store) is_set.distinct) distinct out back);
}
  where
    past : Block → Bool
    past b = nat_lt number b.header.number

    past_old : Block → Bool
    past_old b = nat_lt (immutable_length network old) b.header.number

    past_new : Block → Bool
    past_new b = nat_lt (immutable_length network new) b.header.number

    left : List Block
    left = filter past (blocks_of store)

    later : (b : Block) → past_new b ≡ true → past_old b ≡ true
    later b passes = lt-ltb (immutable_length network old) b.header.number (let far = ltb-true (immutable_length network new) b.header.number passes in omega arith)

    out : (b : Block) → Contains left b → Contains (live_blocks network kept new) b
    out b member =
        let there = filter_member past (blocks_of store) b member in
        let was = filter_member past_old kept b ((live.members b).0 there.0) in
        contains_filter past_new kept b was.0 (lt-ltb (immutable_length network new) b.header.number (let far = ltb-true number b.header.number there.1 in omega arith))

    back : (b : Block) → Contains (live_blocks network kept new) b → Contains left b
    back b member =
        let there = filter_member past_new kept b member in
        contains_filter past (blocks_of store) b ((live.members b).1 (contains_filter past_old kept b there.0 (later b there.1)))
        (lt-ltb number b.header.number (let far = ltb-true (immutable_length network new) b.header.number there.1 in omega arith))

    distinct : HaveDistinctHashes (live_blocks network kept new)
    distinct = narrower_distinct past_old past_new kept later
        (distinct_by_count (blocks_of store) (live_blocks network kept old) is_set.distinct (λ b. (live.members b).0) (λ b. (live.members b).1)
        (let count = live.count in omega (arith, length-map store.blocks block_of)))

pub live_cut : (store : Store) (number : ℕ) (blocks : List Stored) → blocks ≡ filter (is_past number) store.blocks → IsSet store → FollowsChain store number (with_blocks store blocks)
live_cut store number blocks is is_set network kept old new live grows at =
    subst (λ (xs : List Stored). HoldsLive network kept new (with_blocks store xs)) (sym is) (live_left store number network kept old new is_set live grows at)

-- ---- a block that is discarded

left_blocks : (hash : List ℕ) (blocks : List Stored) → map block_of (filter (lacks_hash hash) blocks) ≡ filter (λ b. not (bytes_eq (block_hash_of b) hash)) (map block_of blocks)
left_blocks hash blocks = map_filter block_of (λ b. not (bytes_eq (block_hash_of b) hash)) blocks

-- the blocks of the store, without the one of the hash
rid_blocks : (store : Store) (hash : List ℕ) (xs : List Stored) → IsSame xs (filter (lacks_hash hash) store.blocks) → (b : Block) → Contains (map block_of xs) b ↔ (HasBlock store b × (block_hash_of b ≢ hash))
rid_blocks store hash xs same b = (
  (λ member.
      let x = contains_before block_of xs b member in
      let there = (left_members hash store.blocks x.0).0 ((same.members x.0).0 x.1) in
      (subst (HasBlock store) x.2 (contains_map block_of store.blocks x.0 there.0), λ at. there.1 (ap block_hash_of x.2 ∙ at))),
  (λ there.
      let x = contains_before block_of store.blocks b there.0 in
      subst (Contains (map block_of xs)) x.2 (contains_map block_of xs x.0 ((same.members x.0).1 ((left_members hash store.blocks x.0).1 (x.1, λ at. there.1 (ap block_hash_of (sym x.2) ∙ at)))))),
)

pub rid_of : (store : Store) (hash : List ℕ) (xs : List Stored) → IsSame xs (filter (lacks_hash hash) store.blocks) → ((x : Stored) → Contains xs x → x.invalid ≡ false) → IsRid store hash (with_blocks store xs)
rid_of store hash xs same bare = record { capacity = refl; root = refl; blocks = rid_blocks store hash xs same; unmarked = bare }

same_bare : (xs : List Stored) → map block_of (map bare_of xs) ≡ map block_of xs
same_bare xs = map_same block_of bare_of xs (λ s. refl)

pub rid_bare : (store : Store) (hash : List ℕ) (xs : List Stored) → IsSame xs (filter (lacks_hash hash) store.blocks) → IsRid store hash (with_blocks store (map bare_of xs))
rid_bare store hash xs same = record {
  capacity = refl;
  root = refl;
  blocks = λ b. subst (λ (bs : List Block). Contains bs b ↔ (HasBlock store b × (block_hash_of b ≢ hash))) (sym (same_bare xs)) (rid_blocks store hash xs same b);
  unmarked = λ x member. let y = contains_before bare_of xs x member in ap (λ (s : Stored). s.invalid) (sym y.2);
}

pub set_bare : (store : Store) (xs : List Stored) → IsSet (with_blocks store xs) → IsSet (with_blocks store (map bare_of xs))
set_bare store xs is_set = record {
  distinct = subst HaveDistinctHashes (sym (same_bare xs)) is_set.distinct;
  few = let few = is_set.few in omega (arith, length-map xs bare_of);
}

pub read_bare : (xs : List Stored) → AreRead xs → AreRead (map bare_of xs)
read_bare xs read = all_map (λ x. IsRead x.block (block_text x.block)) bare_of xs read

pub live_bare : (store : Store) (hash : List ℕ) (xs : List Stored) → LosesLive store hash (with_blocks store xs) → LosesLive store hash (with_blocks store (map bare_of xs))
live_bare store hash xs loses network kept chain live =
    let holds = loses network kept chain live in
    record {
      members = λ b. subst (λ (bs : List Block). Contains bs b ↔ Contains (live_blocks network (without_hash hash kept) chain) b) (sym (same_bare xs)) (holds.members b);
      count = length-map xs bare_of ∙ holds.count;
    }

pub set_left : (store : Store) (hash : List ℕ) → IsSet store → IsSet (with_blocks store (filter (lacks_hash hash) store.blocks))
set_left store hash is_set = record {
  distinct = subst HaveDistinctHashes (sym (left_blocks hash store.blocks)) (distinct_filter (λ b. not (bytes_eq (block_hash_of b) hash)) (blocks_of store) is_set.distinct);
  few = let few = is_set.few in omega (arith, no_longer (lacks_hash hash) store.blocks);
}

pub read_left : (store : Store) (hash : List ℕ) → AreRead store.blocks → AreRead (filter (lacks_hash hash) store.blocks)
read_left store hash read = all_filter (λ x. IsRead x.block (block_text x.block)) (lacks_hash hash) store.blocks read

-- where the store holds the live blocks, what is left of them is live where those of the hash are kept no more
pub live_without : (store : Store) (hash : List ℕ) → IsSet store → LosesLive store hash (with_blocks store (filter (lacks_hash hash) store.blocks))
live_without store hash is_set network kept chain live = record {
  members = λ b. subst (λ (bs : List Block). Contains bs b ↔ Contains fewer b) (sym (left_blocks hash store.blocks)) (out b, back b);
  count = sym (length-map (filter (lacks_hash hash) store.blocks) block_of) ∙ (ap length (left_blocks hash store.blocks)
      ∙ same_count left fewer (distinct_filter other (blocks_of store) is_set.distinct) distinct out back);
}
  where
    other : Block → Bool
    other b = not (bytes_eq (block_hash_of b) hash)

    past : Block → Bool
    past b = nat_lt (immutable_length network chain) b.header.number

    left : List Block
    left = filter other (blocks_of store)

    fewer : List Block
    fewer = live_blocks network (without_hash hash kept) chain

    out : (b : Block) → Contains left b → Contains fewer b
    out b member =
        let there = filter_member other (blocks_of store) b member in
        let was = filter_member past kept b ((live.members b).0 there.0) in
        contains_filter past (without_hash hash kept) b (contains_filter other kept b was.0 there.1) was.1

    back : (b : Block) → Contains fewer b → Contains left b
    back b member =
        let there = filter_member past (without_hash hash kept) b member in
        let was = filter_member other kept b there.0 in
        contains_filter other (blocks_of store) b ((live.members b).1 (contains_filter past kept b was.0 there.1)) was.1

    distinct : HaveDistinctHashes fewer
    distinct = distinct_passing past other kept
        (distinct_by_count (blocks_of store) (live_blocks network kept chain) is_set.distinct (λ b. (live.members b).0) (λ b. (live.members b).1)
        (let count = live.count in omega (arith, length-map store.blocks block_of)))

-- ---- a block that comes

one_text : (a b : Block) → IsRead a (block_text a) → IsRead b (block_text b) → block_text a ≡ block_text b → a ≡ b
one_text a b read read_too same = one_block a b (block_text b) (subst (SpellsBlock a) same read.read) read_too.read

read_member : (store : Store) (b : Block) → AreRead store.blocks → HasBlock store b → IsRead b (block_text b)
read_member store b read member =
    let found = contains_before block_of store.blocks b member in
    subst (λ (c : Block). IsRead c (block_text c)) found.2 (all_of_member (λ x. IsRead x.block (block_text x.block)) store.blocks found.0 read found.1)

-- a live block with its text is this block
pub known_is_live : (store : Store) (b : Block) → AreRead store.blocks → IsRead b (block_text b) → IsKnown store b ↔ HasBlock store b
known_is_live store b read read_too = (
  (λ known. subst (HasBlock store) (one_text known.0 b (read_member store known.0 read known.1) read_too known.2) known.1),
  (λ member. (b, member, refl)),
)

pub unknown : (store : Store) (b : Block) (hash : List ℕ) → AreRead store.blocks → IsRead b (block_text b) → hash ≡ block_hash_of b → HasNoneAt store hash → IsKnown store b → ⊥
unknown store b hash read read_too is none known = none b ((known_is_live store b read read_too).0 known) (sym is)

pub no_clash : (store : Store) (b : Block) (hash : List ℕ) → hash ≡ block_hash_of b → HasNoneAt store hash → IsClash store b → ⊥
no_clash store b hash is none clash = none clash.0 clash.1 (clash.2 ∙ sym is)

pub known_at : (store : Store) (b : Block) (hash : List ℕ) (x : Stored) → IsAt store hash x → block_text x.block ≡ block_text b → IsKnown store b
known_at store b hash x at same = (x.block, contains_map block_of store.blocks x at.member, same)

pub clash_at : (store : Store) (b : Block) (hash : List ℕ) (x : Stored) → hash ≡ block_hash_of b → IsAt store hash x → block_text x.block ≢ block_text b → IsClash store b
clash_at store b hash x is at other = (x.block, contains_map block_of store.blocks x at.member, at.same ∙ is, other)

-- the block that has the hash has another text, so that none has this one
pub unknown_at : (store : Store) (b : Block) (hash : List ℕ) (x : Stored) → IsSet store → AreRead store.blocks → IsRead b (block_text b) → hash ≡ block_hash_of b → IsAt store hash x → block_text x.block ≢ block_text b
    → IsKnown store b → ⊥
unknown_at store b hash x is_set read read_too is at other known =
    other (ap block_text (one_with_hash (blocks_of store) x.block b is_set.distinct (contains_map block_of store.blocks x at.member)
    ((known_is_live store b read read_too).0 known) (at.same ∙ is)))

pub inserted : (store : Store) (b : Block) (blocks : List Stored) → blocks ≡ store.blocks ++ unmarked b ∷ [] → IsInserted store b (with_blocks store blocks)
inserted store b blocks is =
    subst (λ (xs : List Stored). IsInserted store b (with_blocks store xs)) (sym is)
    (record {
      capacity = refl;
      root = refl;
      members = λ x. (
        (λ member. elim (Contains-push_cases store.blocks (unmarked b) x member) [ inl before ↦ inl before | inr is ↦ inr (sym is) ]),
        (λ either. elim either [
          | inl before ↦ Contains-append_left store.blocks (unmarked b ∷ []) x before
          | inr is ↦ subst (Contains (store.blocks ++ unmarked b ∷ [])) (sym is) (Contains-push store.blocks (unmarked b))
        ]),
      );
      count = length-append store.blocks (unmarked b ∷ []);
    })

pub set_with : (store : Store) (b : Block) (blocks : List Stored) → blocks ≡ store.blocks ++ unmarked b ∷ [] → IsSet store → HasNoneAt store (block_hash_of b) → (IsFull store (length (block_text b)) → ⊥) → IsSet (with_blocks store blocks)
set_with store b blocks is is_set none room =
    subst (λ (xs : List Stored). IsSet (with_blocks store xs)) (sym is)
    (record {
      distinct = subst HaveDistinctHashes (sym (map_push block_of store.blocks (unmarked b)))
          (distinct_push (blocks_of store) b is_set.distinct (all_from_members (λ c. block_hash_of c ≢ block_hash_of b) (blocks_of store) none));
      few = elim (cases_lt (length store.blocks) store.capacity.blocks) [
        | inl below ↦ omega (arith, length-append store.blocks (unmarked b ∷ []))
        | inr full ↦ absurd (room (inl full))
      ];
    })

pub read_with : (store : Store) (b : Block) (blocks : List Stored) → blocks ≡ store.blocks ++ unmarked b ∷ [] → AreRead store.blocks → IsRead b (block_text b) → AreRead blocks
read_with store b blocks is read read_too = subst AreRead (sym is) (all_push (λ x. IsRead x.block (block_text x.block)) store.blocks (unmarked b) read read_too)

live_more : (store : Store) (b : Block) (network : Network) (kept chain : List Block) → HoldsLive network kept chain store → immutable_length network chain < b.header.number
    → HoldsLive network (b ∷ kept) chain (with_blocks store (store.blocks ++ unmarked b ∷ []))
live_more store b network kept chain live past = record {
  members = λ c. subst (λ (bs : List Block). Contains (blocks_of (with_blocks store (store.blocks ++ unmarked b ∷ []))) c ↔ Contains bs c) (sym more)
      (subst (λ (bs : List Block). Contains bs c ↔ Contains (b ∷ before) c) (sym (map_push block_of store.blocks (unmarked b))) (out c, back c));
  count = let count = live.count in
      let longer : length (store.blocks ++ unmarked b ∷ []) ≡ length (b ∷ before) = omega (arith, length-append store.blocks (unmarked b ∷ [])) in
      longer ∙ ap length (sym more);
}
  where
    before : List Block
    before = live_blocks network kept chain

    more : live_blocks network (b ∷ kept) chain ≡ b ∷ before
    more = ap (λ (t : Bool). cond t (b ∷ before) before) (lt-ltb (immutable_length network chain) b.header.number past)

    out : (c : Block) → Contains (blocks_of store ++ b ∷ []) c → Contains (b ∷ before) c
    out c member = elim (Contains-push_cases (blocks_of store) b c member) [
      | inl was ↦ contains_later b before c ((live.members c).0 was)
      | inr is ↦ subst (Contains (b ∷ before)) is (contains_first b before)
    ]

    back : (c : Block) → Contains (b ∷ before) c → Contains (blocks_of store ++ b ∷ []) c
    back c member = elim (contains_cases b before c member) [
      | inl is ↦ subst (Contains (blocks_of store ++ b ∷ [])) is (Contains-push (blocks_of store) b)
      | inr was ↦ Contains-append_left (blocks_of store) (b ∷ []) c ((live.members c).1 was)
    ]

pub live_with : (store : Store) (b : Block) (blocks : List Stored) → blocks ≡ store.blocks ++ unmarked b ∷ [] → GainsLive store b (with_blocks store blocks)
live_with store b blocks is network kept chain live past =
    subst (λ (xs : List Stored). HoldsLive network (b ∷ kept) chain (with_blocks store xs)) (sym is) (live_more store b network kept chain live past)

-- what was read from some bytes is what is read from its text
pub read_again : (b : Block) (bytes : List ℕ) → IsRead b bytes → IsRead b (block_text b)
read_again b bytes read = subst (IsRead b) (sym (block_text_is b bytes read.read)) read
