-- That the blocks which are found from the last age to the first are those that aren't noted, each once, and in that order;
-- and that these are those that no way leads to.
use Rattle.std.proofs.Common.{◌≡◌, ◌≢◌, ◌↔◌, ℕ, ◌≤◌, Bool, true, false, cond, List, [], ◌∷◌, ◌++◌, map, Contains, Option, Some, None, refl, sym, ap, subst, ◌∙◌, append_assoc, arith, inl, inr}
use Rattle.std.specs.List.{AllByRecursion}
use Rattle.std.specs.Ordering.{is_gt, is_eq, nat_cmp, ordering_then}
use Rattle.std.specs.Cmp.{nat_cmp_is, tied_itself}
use Rattle.std.specs.Cmp.Lexicographic.{slice_cmp}
use Rattle.std.specs.declared.cmp.Ordering.{Ordering}
use Rattle.std.specs.declared.cmp.Ordering.TheVariants.{Less, Equal}
use Rattle.std.specs.List.Sorted.{IsStrictlySortedBy}
use Rattle.std.specs.BTreeSet.{BTreeSet, contains}
use Rattle.std.specs.BTreeSet as set
use Rattle.std.specs.BTreeMap.{BTreeMap, get, IsOrdered}
use Rattle.std.proofs.lemmas.Cmp.{nat_list_cmp_total}
use Rattle.std.proofs.lemmas.Option.{same_Some}
use Rattle.std.proofs.lemmas.Map.Keys.{sorted_head, sorted_tail}
use Rattle.std.proofs.lemmas.List.Elements.{Contains-append_left, Contains-append_right, Contains-append_cases}
use Rattle.model.specs.Block.{Block, block_hash_of}
use Rattle.model.specs.Chain.{HaveDistinctHashes}
use Rattle.model.specs.Asked.{AreNonIncreasing}
use Rattle.model.proofs.Lists.{all_from_members, all_of_member, all_push, contains_first, contains_later, contains_cases, nothing_contained}
use Rattle.blockstore.specs.Stored.{Stored, Store}
use Rattle.blockstore.specs.Placed.{Placed, Held, is_noted, stored_at, blocks_in, notes_in, held_in, IsKeyed}
use Rattle.blockstore.specs.Keys.{hash_cmp, age_cmp, IsAgeOf, AreKeysOf}
use Rattle.blockstore.specs.Ways.{HasWay, HasStep, IsReached, AreNotes}
use Rattle.blockstore.specs.OffWays.{IsOnWay, AreOffWays, AreUnnoted, unnoted, unnoted_at}
use Rattle.blockstore.specs.declared.keys.Age.{Age}
use Rattle.blockstore.proofs.KeySets.{exact_age, has_member, one_age}
use Rattle.blockstore.proofs.Lists.{map_push, distinct_push}
use Rattle.blockstore.proofs.Shelves.{placed_at, stands_at, value_at, holds_at, noted_some, older}
use Rattle.blockstore.proofs.LinkRanges.{ends_here}
use Rattle.blockstore.proofs.Rising.{step_is_way}

-- the block at the last age comes first
pub last_first : (m : BTreeMap (List ℕ) Placed) (ages : List Age) (age : Age) → unnoted_at m (ages ++ age ∷ []) ≡ unnoted (get hash_cmp m age.hash) ++ unnoted_at m ages
last_first m [] age = sym (ends_here (unnoted (get hash_cmp m age.hash)))
last_first m (a ∷ ages) age =
    ap (λ (bs : List Block). bs ++ unnoted (get hash_cmp m a.hash)) (last_first m ages age)
    ∙ append_assoc (unnoted (get hash_cmp m age.hash)) (unnoted_at m ages) (unnoted (get hash_cmp m a.hash))

-- where the block at the last age is noted, or there is none, what is found is what is found at the others
pub passed : (m : BTreeMap (List ℕ) Placed) (ages rest : List Age) (age : Age) (all : List Block) → ages ≡ rest ++ age ∷ [] → unnoted (get hash_cmp m age.hash) ≡ [] → unnoted_at m ages ≡ all → unnoted_at m rest ≡ all
passed m ages rest age all parts none is =
    sym (ap (unnoted_at m) parts ∙ (last_first m rest age ∙ ap (λ (bs : List Block). bs ++ unnoted_at m rest) none)) ∙ is

-- and else it is that block before those
pub given : (m : BTreeMap (List ℕ) Placed) (ages rest : List Age) (age : Age) (p : Placed) (all : List Block) → ages ≡ rest ++ age ∷ [] → get hash_cmp m age.hash ≡ Some p → p.reached ≡ false → unnoted_at m ages ≡ all
    → all ≡ p.stored.block ∷ unnoted_at m rest
given m ages rest age p all parts there never is =
    sym is ∙ (ap (unnoted_at m) parts ∙ (last_first m rest age ∙ ap (λ (bs : List Block). bs ++ unnoted_at m rest) (ap unnoted there ∙ ap (λ (t : Bool). cond t [] (p.stored.block ∷ [])) never)))

pub none_at_hash : (o : Option Placed) → o ≡ None → unnoted o ≡ []
none_at_hash o none = ap unnoted none

pub noted_at_hash : (o : Option Placed) (p : Placed) → o ≡ Some p → p.reached ≡ true → unnoted o ≡ []
noted_at_hash o p there noted = ap unnoted there ∙ ap (λ (t : Bool). cond t [] (p.stored.block ∷ [])) noted

-- ---- a block at a hash

placed_in : (o : Option Placed) (b : Block) → Contains (unnoted o) b → (p : Placed) × (o ≡ Some p) × (p.reached ≡ false) × (p.stored.block ≡ b)
placed_in None b member = absurd (nothing_contained b member)
placed_in (Some p) b member = one p.reached refl member
  where
    one : (t : Bool) → p.reached ≡ t → Contains (cond t [] (p.stored.block ∷ [])) b → (q : Placed) × (Some p ≡ Some q) × (q.reached ≡ false) × (q.stored.block ≡ b)
    one true is there = absurd (nothing_contained b there)
    one false is there = elim (contains_cases p.stored.block [] b there) [
      | inl same ↦ (p, refl, is, same)
      | inr none ↦ absurd (nothing_contained b none)
    ]

there_is : (o : Option Placed) (p : Placed) → o ≡ Some p → p.reached ≡ false → Contains (unnoted o) p.stored.block
there_is o p is never =
    subst (λ (q : Option Placed). Contains (unnoted q) p.stored.block) (sym is)
    (subst (λ (t : Bool). Contains (cond t [] (p.stored.block ∷ [])) p.stored.block) (sym never) (contains_first p.stored.block []))

at_age : (m : BTreeMap (List ℕ) Placed) (ages : List Age) (b : Block) → Contains (unnoted_at m ages) b → (k : Age) × Contains ages k × Contains (unnoted (get hash_cmp m k.hash)) b
at_age m [] b member = absurd (nothing_contained b member)
at_age m (a ∷ ages) b member = elim (Contains-append_cases (unnoted_at m ages) (unnoted (get hash_cmp m a.hash)) b member) [
  | inl later ↦ let k = at_age m ages b later in (k.0, contains_later a ages k.0 k.1, k.2)
  | inr here ↦ (a, contains_first a ages, here)
]

of_age : (m : BTreeMap (List ℕ) Placed) (ages : List Age) (k : Age) (b : Block) → Contains ages k → Contains (unnoted (get hash_cmp m k.hash)) b → Contains (unnoted_at m ages) b
of_age m [] k b member there = absurd (nothing_contained k member)
of_age m (a ∷ ages) k b member there = elim (contains_cases a ages k member) [
  | inl same ↦ Contains-append_right (unnoted_at m ages) (unnoted (get hash_cmp m a.hash)) b (subst (λ (j : Age). Contains (unnoted (get hash_cmp m j.hash)) b) (sym same) there)
  | inr later ↦ Contains-append_left (unnoted_at m ages) (unnoted (get hash_cmp m a.hash)) b (of_age m ages k b later there)
]

-- ---- an order

-- no age comes before itself
not_before : (k : Age) → age_cmp k k ≡ Less → ⊥
not_before k less =
    let same : age_cmp k k ≡ Equal =
    ap (λ (o : Ordering). ordering_then o (slice_cmp nat_cmp k.hash k.hash)) (sym (nat_cmp_is k.number k.number Equal refl)) ∙ tied_itself nat_list_cmp_total k.hash in
    let e : false ≡ true = ap is_eq (sym less ∙ same) in cc

push_order : (bs : List Block) (b : Block) → AreNonIncreasing (map (λ c. c.header.number) bs) → ((c : Block) → Contains bs c → b.header.number ≤ c.header.number) → AreNonIncreasing (map (λ c. c.header.number) (bs ++ b ∷ []))
push_order [] b order low = (tt, tt)
push_order (c ∷ cs) b order low = (
  subst (AllByRecursion (λ m. m ≤ c.header.number)) (sym (map_push (λ (d : Block). d.header.number) cs b))
      (all_push (λ m. m ≤ c.header.number) (map (λ (d : Block). d.header.number) cs) b.header.number order.0 (low c (contains_first c cs))),
  push_order cs b order.1 (λ d member. low d (contains_later c cs d member)),
)

-- ---- what is found at ages of live blocks

module _ (m : BTreeMap (List ℕ) Placed) (keyed : IsKeyed m) where
  -- each age is that of a block
  abbrev AreNamed : List Age → Type 0
  AreNamed ages = (k : Age) → Contains ages k → (hash : List ℕ) × (x : Stored) × (stored_at m hash ≡ Some x) × IsAgeOf x.block k

  record IsFound (ages : List Age) (b : Block) : Type 0 where
    pub age : Age
    pub member : Contains ages age
    pub stored : Stored
    pub at : stored_at m (block_hash_of b) ≡ Some stored
    pub block : stored.block ≡ b
    pub is : IsAgeOf b age
    pub noted : is_noted (notes_in m) (block_hash_of b) ≡ false

  found : (ages : List Age) (b : Block) → AreNamed ages → Contains (unnoted_at m ages) b → IsFound ages b
  found ages b named member =
      let k = at_age m ages b member in
      let p = placed_in (get hash_cmp m k.0.hash) b k.2 in
      let n = named k.0 k.1 in
      let stands : stored_at m k.0.hash ≡ Some p.0.stored = stands_at m k.0.hash p.0 p.1 in
      let hash : block_hash_of b ≡ k.0.hash = ap block_hash_of (sym p.3) ∙ keyed k.0.hash p.0.stored stands in
      let there : stored_at m k.0.hash ≡ Some n.1 = ap (stored_at m) (n.3.1 ∙ keyed n.0 n.1 n.2) ∙ n.2 in
      let same : n.1.block ≡ b = ap (λ (x : Stored). x.block) (same_Some n.1 p.0.stored (sym there ∙ stands)) ∙ p.3 in
      record {
        age = k.0;
        member = k.1;
        stored = p.0.stored;
        at = ap (stored_at m) hash ∙ stands;
        block = p.3;
        is = subst (λ (c : Block). IsAgeOf c k.0) same n.3;
        noted = ap (is_noted (notes_in m)) hash ∙ (noted_some m k.0.hash p.0 p.1 ∙ p.2);
      }

  -- blocks of one hash are one block
  one_block_at : (ages more : List Age) (b c : Block) → IsFound ages b → IsFound more c → block_hash_of b ≡ block_hash_of c → b ≡ c
  one_block_at ages more b c is too same =
      sym is.block ∙ (ap (λ (x : Stored). x.block) (same_Some is.stored too.stored (sym is.at ∙ (ap (stored_at m) same ∙ too.at))) ∙ too.block)

  later_named : (k : Age) (ages : List Age) → AreNamed (k ∷ ages) → AreNamed ages
  later_named k ages named j member = named j (contains_later k ages j member)

  -- what is found at the first age comes behind what is found at the others
  module _ (k : Age) (ages : List Age) (sorted : IsStrictlySortedBy age_cmp (k ∷ ages)) (named : AreNamed (k ∷ ages)) where
    less : (j : Age) → Contains ages j → age_cmp k j ≡ Less
    less j member = all_of_member (λ y. age_cmp k y ≡ Less) ages j (sorted_head age_cmp k ages sorted) member

    first_found : (b : Block) → Contains (unnoted (get hash_cmp m k.hash)) b → IsFound (k ∷ []) b
    first_found b member = found (k ∷ []) b (λ j one. named j (elim (contains_cases k [] j one) [ inl same ↦ subst (Contains (k ∷ ages)) same (contains_first k ages) | inr none ↦ absurd (nothing_contained j none) ])) (of_age m (k ∷ []) k b (contains_first k []) member)

    its_age : (b : Block) → Contains (unnoted (get hash_cmp m k.hash)) b → IsAgeOf b k
    its_age b member =
        let f = first_found b member in
        elim (contains_cases k [] f.age f.member) [ inl same ↦ subst (IsAgeOf b) (sym same) f.is | inr none ↦ absurd (nothing_contained f.age none) ]

    apart : (b c : Block) → Contains (unnoted (get hash_cmp m k.hash)) b → Contains (unnoted_at m ages) c → block_hash_of c ≢ block_hash_of b
    apart b c here there same =
        let f = found ages c (later_named k ages named) there in
        let one = one_block_at ages (k ∷ []) c b f (first_found b here) same in
        let ages_too : k ≡ f.age = one_age b k f.age (its_age b here) (subst (λ (d : Block). IsAgeOf d f.age) one f.is) in
        not_before k (ap (age_cmp k) ages_too ∙ less f.age f.member)

    low : (b c : Block) → Contains (unnoted (get hash_cmp m k.hash)) b → Contains (unnoted_at m ages) c → b.header.number ≤ c.header.number
    low b c here there =
        let f = found ages c (later_named k ages named) there in
        let le = older k f.age (ap is_gt (less f.age f.member)) in
        let a = (its_age b here).0 in
        let d = f.is.0 in
        omega (arith, le, a, d)

  record IsInOrder (bs : List Block) : Type 0 where
    pub once : HaveDistinctHashes bs
    pub order : AreNonIncreasing (map (λ b. b.header.number) bs)

  pushed : (bs : List Block) (o : Option Placed) → IsInOrder bs → ((b c : Block) → Contains (unnoted o) b → Contains bs c → block_hash_of c ≢ block_hash_of b) → ((b c : Block) → Contains (unnoted o) b → Contains bs c → b.header.number ≤ c.header.number)
      → IsInOrder (bs ++ unnoted o)
  pushed bs None was apart_from less_than = subst IsInOrder (sym (ends_here bs)) was
  pushed bs (Some p) was apart_from less_than = one p.reached apart_from less_than
    where
      one : (t : Bool) → ((b c : Block) → Contains (cond t [] (p.stored.block ∷ [])) b → Contains bs c → block_hash_of c ≢ block_hash_of b) → ((b c : Block) → Contains (cond t [] (p.stored.block ∷ [])) b → Contains bs c → b.header.number ≤ c.header.number)
          → IsInOrder (bs ++ cond t [] (p.stored.block ∷ []))
      one true a l = subst IsInOrder (sym (ends_here bs)) was
      one false a l = record {
        once = distinct_push bs p.stored.block was.once (all_from_members (λ c. block_hash_of c ≢ block_hash_of p.stored.block) bs (λ c member. a p.stored.block c (contains_first p.stored.block []) member));
        order = push_order bs p.stored.block was.order (λ c member. l p.stored.block c (contains_first p.stored.block []) member);
      }

  in_order : (ages : List Age) → IsStrictlySortedBy age_cmp ages → AreNamed ages → IsInOrder (unnoted_at m ages)
  in_order [] sorted named = record { once = tt; order = tt }
  in_order (k ∷ ages) sorted named =
      pushed (unnoted_at m ages) (get hash_cmp m k.hash) (in_order ages (sorted_tail age_cmp k ages sorted) (later_named k ages named)) (apart k ages sorted named) (low k ages sorted named)

  -- those at all ages are all that aren't noted
  pub are_unnoted : (ages : BTreeSet Age) → IsOrdered hash_cmp m → set.IsOrdered age_cmp ages → AreKeysOf IsAgeOf (contains age_cmp ages) (stored_at m) → ((k : Age) → Contains ages.keys k → contains age_cmp ages k ≡ true)
      → AreUnnoted (held_in m) (unnoted_at m ages.keys)
  are_unnoted ages ordered sorted keys has = record {
    members = λ b. (out b, back b);
    once = is.once;
    order = is.order;
  }
    where
      named : AreNamed ages.keys
      named k member = keys.named k (has k member)

      is : IsInOrder (unnoted_at m ages.keys)
      is = in_order ages.keys sorted named

      out : (b : Block) → Contains (unnoted_at m ages.keys) b → (x : Stored) × Contains (blocks_in m) x × (x.block ≡ b) × (is_noted (notes_in m) (block_hash_of b) ≡ false)
      out b member = let f = found ages.keys b named member in (f.stored, value_at m (block_hash_of b) f.stored f.at, f.block, f.noted)

      back : (b : Block) → (x : Stored) × Contains (blocks_in m) x × (x.block ≡ b) × (is_noted (notes_in m) (block_hash_of b) ≡ false) → Contains (unnoted_at m ages.keys) b
      back b there =
          let x = there.0 in
          let at : stored_at m (block_hash_of x.block) ≡ Some x = holds_at m ordered keyed x there.1 in
          let p = placed_at (get hash_cmp m (block_hash_of x.block)) x at in
          let k = keys.kept (block_hash_of x.block) x at in
          let here : get hash_cmp m k.0.hash ≡ Some p.0 = ap (get hash_cmp m) k.2.1 ∙ p.1 in
          let never : p.0.reached ≡ false = sym (noted_some m (block_hash_of x.block) p.0 p.1) ∙ (ap (λ (c : Block). is_noted (notes_in m) (block_hash_of c)) there.2 ∙ there.3) in
          subst (Contains (unnoted_at m ages.keys)) (ap (λ (y : Stored). y.block) p.2 ∙ there.2)
          (of_age m ages.keys k.0 p.0.stored.block (has_member age_cmp exact_age ages k.0 k.1) (there_is (get hash_cmp m k.0.hash) p.0 here never))

-- ---- and no way leads to these

pub are_off_ways : (store : Store) (held : Held) (bs : List Block) → store.blocks ≡ held.blocks → AreNotes (Some store.root) held.blocks held.notes → AreUnnoted held bs → AreOffWays store bs
are_off_ways store held bs same notes are = record {
  members = λ b. (out b, back b);
  once = are.once;
  order = are.order;
}
  where
    -- a live block is noted just where it is on a way
    on_way : (x : Stored) → Contains held.blocks x → is_noted held.notes (block_hash_of x.block) ≡ true → IsOnWay store x
    on_way x member noted =
        let is = notes.right true x member noted in
        record { unmarked = is.unmarked; way = subst (λ (xs : List Stored). HasWay store.root xs x.block) (sym same) ((step_is_way store.root held.blocks held.notes x.block notes).0 is.step) }

    off_way : (x : Stored) → Contains held.blocks x → is_noted held.notes (block_hash_of x.block) ≡ false → IsOnWay store x → ⊥
    off_way x member noted on =
        notes.right false x member noted
        (record { unmarked = on.unmarked; step = (step_is_way store.root held.blocks held.notes x.block notes).1 (subst (λ (xs : List Stored). HasWay store.root xs x.block) same on.way) })

    out : (b : Block) → Contains bs b → (x : Stored) × Contains store.blocks x × (x.block ≡ b) × (IsOnWay store x → ⊥)
    out b member =
        let x = (are.members b).0 member in
        (x.0, subst (λ (xs : List Stored). Contains xs x.0) (sym same) x.1, x.2, off_way x.0 x.1 (ap (λ (c : Block). is_noted held.notes (block_hash_of c)) x.2 ∙ x.3))

    back : (b : Block) → (x : Stored) × Contains store.blocks x × (x.block ≡ b) × (IsOnWay store x → ⊥) → Contains bs b
    back b x =
        let member = subst (λ (xs : List Stored). Contains xs x.0) same x.1 in
        (are.members b).1 (x.0, member, x.2, one x.0 x.2 x.3 member (is_noted held.notes (block_hash_of b)) refl)
      where
        one : (y : Stored) → y.block ≡ b → (IsOnWay store y → ⊥) → Contains held.blocks y → (t : Bool) → is_noted held.notes (block_hash_of b) ≡ t → is_noted held.notes (block_hash_of b) ≡ false
        one y is off member true noted = absurd (off (on_way y member (ap (λ (c : Block). is_noted held.notes (block_hash_of c)) is ∙ noted)))
        one y is off member false noted = noted
