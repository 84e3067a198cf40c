-- The links that lie between the least and the greatest hash behind a block, and the blocks that they name.
use Rattle.std.proofs.Common.{◌≡◌, ◌≢◌, ℕ, zero, suc, ◌<◌, Bool, true, false, List, [], ◌∷◌, ◌++◌, length, map, Contains, Option, Some, None, refl, sym, ap, subst, ◌∙◌, arith, inl, inr, Bor}
use Rattle.std.specs.Prelude.{option_copied, option_map, ◌&&◌, ◌||◌, not, replicate, slice_index}
use Rattle.std.specs.List.{filter, list_any, IsDistinct}
use Rattle.std.specs.Option.{option_cmp}
use Rattle.std.specs.Ordering.{is_eq, is_gt, is_lt, is_le, nat_cmp, eq_by_cmp, ordering_then}
use Rattle.std.specs.Cmp.{nat_cmp_is}
use Rattle.std.specs.Cmp.Lexicographic.{slice_cmp}
use Rattle.std.specs.declared.cmp.Ordering.{Ordering}
use Rattle.std.specs.declared.cmp.Ordering.TheVariants.{Less, Equal, Greater}
use Rattle.std.specs.declared.ops.Bound.TheVariants.{Included}
use Rattle.std.specs.BTreeMap.{BTreeMap, get, IsOrdered}
use Rattle.std.specs.BTreeMap.Range.{range_contains}
use Rattle.std.specs.BTreeSet.{BTreeSet, contains}
use Rattle.std.specs.BTreeSet as sorted
use Rattle.std.proofs.lemmas.Bool.{cases_lt}
use Rattle.std.proofs.lemmas.List.Elements.{Contains-push_cases}
use Rattle.blockstore.proofs.Lists.{map_push}
use Rattle.std.proofs.lemmas.Map.Keys.{IsDistinct-from_sorted}
use Rattle.std.proofs.lemmas.List.Kept.{IsStrictlySortedBy-filter}
use Rattle.model.specs.Block.{block_hash_of}
use Rattle.model.proofs.Lists.{all_from_members, contains_filter, contains_cases}
use Rattle.model.proofs.MappedLists.{contains_map, contains_before, filter_member}
use Rattle.blockstore.specs.Stored.{Stored}
use Rattle.blockstore.specs.Placed.{Placed, stored_at, blocks_in, IsKeyed}
use Rattle.blockstore.specs.Keys.{hash_cmp, link_cmp, IsLinkOf, AreKeysOf, first_link, last_link, links_behind}
use Rattle.blockstore.specs.Shelves.{AreAfter, HasAfter, AreLinksAfter}
use Rattle.blockstore.specs.declared.keys.Link.{Link}
use Rattle.blockstore.proofs.KeySets.{exact_link, tied_link, exact_hashes, tied_hashes, has_member, none_some}
use Rattle.blockstore.proofs.Shelves.{stands_at, value_at, holds_at, apart_on, distinct_by_keys}

-- ---- the least and the greatest hash

pub least_hash : (n : ℕ) (q : List ℕ) → length q ≡ n → is_gt (slice_cmp nat_cmp (replicate n 0) q) ≡ false
least_hash zero [] long = refl
least_hash zero (x ∷ xs) long = absurd (omega (arith, long))
least_hash (suc n) [] long = absurd (omega (arith, long))
least_hash (suc n) (zero ∷ xs) long = least_hash n xs (omega (arith, long))
least_hash (suc n) (suc x ∷ xs) long =
    ap (λ (o : Ordering). is_gt (ordering_then o (slice_cmp nat_cmp (replicate n 0) xs))) (sym (nat_cmp_is 0 (suc x) Less (omega arith)))

one_byte : (n x : ℕ) (xs : List ℕ) → x < 256 → is_lt (slice_cmp nat_cmp (replicate n 255) xs) ≡ false → is_lt (ordering_then (nat_cmp 255 x) (slice_cmp nat_cmp (replicate n 255) xs)) ≡ false
one_byte n x xs fits rest = elim (cases_lt x 255) [
  | inl less ↦ ap (λ (o : Ordering). is_lt (ordering_then o (slice_cmp nat_cmp (replicate n 255) xs))) (sym (nat_cmp_is 255 x Greater less))
  | inr more ↦ let same : 255 ≡ x = omega (arith, more, fits) in
      ap (λ (o : Ordering). is_lt (ordering_then o (slice_cmp nat_cmp (replicate n 255) xs))) (sym (nat_cmp_is 255 x Equal same)) ∙ rest
]

pub greatest_hash : (n : ℕ) (q : List ℕ) → length q ≡ n → ((i : ℕ) → slice_index q i < 256) → is_lt (slice_cmp nat_cmp (replicate n 255) q) ≡ false
greatest_hash zero [] long fits = refl
greatest_hash zero (x ∷ xs) long fits = absurd (omega (arith, long))
greatest_hash (suc n) [] long fits = absurd (omega (arith, long))
greatest_hash (suc n) (x ∷ xs) long fits = one_byte n x xs (fits 0) (greatest_hash n xs (omega (arith, long)) (λ i. fits (suc i)))

pub forward : (previous : Option (List ℕ)) → is_gt (link_cmp (first_link previous) (last_link previous)) ≡ false
forward previous = rw (tied_hashes previous) (least_hash 32 (replicate 32 255) refl)

-- ---- what lies between them

between_true : (o low high : Ordering) → o ≡ Equal → is_gt low ≡ false → is_lt high ≡ false → (is_le (ordering_then o low) && not (is_lt (ordering_then o high))) ≡ true
between_true Less low high same above below = absurd (let e : Less ≡ Equal = same in cc)
between_true Greater low high same above below = absurd (let e : Greater ≡ Equal = same in cc)
between_true Equal low Less same above below = absurd (let e : true ≡ false = below in cc)
between_true Equal Greater high same above below = absurd (let e : true ≡ false = above in cc)
between_true Equal Less Equal same above below = refl
between_true Equal Less Greater same above below = refl
between_true Equal Equal Equal same above below = refl
between_true Equal Equal Greater same above below = refl

is_between : (previous : Option (List ℕ)) (l : Link) → l.previous ≡ previous → length l.hash ≡ 32 → ((i : ℕ) → slice_index l.hash i < 256)
    → range_contains link_cmp (Included (first_link previous)) (Included (last_link previous)) l ≡ true
is_between previous l same long fits =
    between_true (option_cmp (slice_cmp nat_cmp) previous l.previous) (slice_cmp nat_cmp (replicate 32 0) l.hash) (slice_cmp nat_cmp (replicate 32 255) l.hash)
    (ap (option_cmp (slice_cmp nat_cmp) previous) same ∙ tied_hashes previous) (least_hash 32 l.hash long) (greatest_hash 32 l.hash long fits)

from_between : (o low high : Ordering) → (is_le (ordering_then o low) && not (is_lt (ordering_then o high))) ≡ true → o ≡ Equal
from_between Less low high h = absurd (let e : false ≡ true = h in cc)
from_between Equal low high h = refl
from_between Greater low high h = absurd (let e : false ≡ true = h in cc)

has_previous : (previous : Option (List ℕ)) (l : Link) → range_contains link_cmp (Included (first_link previous)) (Included (last_link previous)) l ≡ true → l.previous ≡ previous
has_previous previous l h =
    sym (exact_hashes previous l.previous
    (from_between (option_cmp (slice_cmp nat_cmp) previous l.previous) (slice_cmp nat_cmp (replicate 32 0) l.hash) (slice_cmp nat_cmp (replicate 32 255) l.hash) h))

either : (b : Bool) → (b || true) ≡ true
either true = refl
either false = refl

-- a key that is among those of a set is found there
member_has : (q : Link) (ks : List Link) → Contains ks q → list_any (λ k. is_eq (link_cmp q k)) ks ≡ true
member_has q [] member = absurd (omega (arith, member.1))
member_has q (k ∷ ks) member = elim (contains_cases k ks q member) [
  | inl same ↦ rw (subst (λ (l : Link). is_eq (link_cmp q l) ≡ true) (sym same) (ap is_eq (tied_link q))) refl
  | inr later ↦ rw (member_has q ks later) (either (is_eq (link_cmp q k)))
]

pub are_links : (m : BTreeMap (List ℕ) Placed) (links : BTreeSet Link) (previous : Option (List ℕ)) (found : List Link) → IsOrdered hash_cmp m → IsKeyed m
    → AreKeysOf IsLinkOf (contains link_cmp links) (stored_at m) → sorted.IsOrdered link_cmp links → found ≡ sorted.keys_between link_cmp (Included (first_link previous)) (Included (last_link previous)) links → AreLinksAfter (blocks_in m) previous found
are_links m links previous found ordered keyed keys rise is = record {
  named = λ l member.
      let at = keys.named l (member_has l links.keys (filter_member inside links.keys l (subst (λ (ls : List Link). Contains ls l) is member)).0) in (at.1, value_at m at.0 at.1 at.2, at.3);
  same = λ l member. has_previous previous l (filter_member inside links.keys l (subst (λ (ls : List Link). Contains ls l) is member)).1;
  kept = λ x member same.
      let at = keys.kept (block_hash_of x.block) x (holds_at m ordered keyed x member) in (
        at.0,
        subst (λ (ls : List Link). Contains ls at.0) (sym is)
            (contains_filter inside links.keys at.0 (has_member link_cmp exact_link links at.0 at.1) (is_between previous at.0 (at.2.0 ∙ same) at.2.2.0 at.2.2.1)),
        at.2,
      );
  once = subst (IsDistinct (eq_by_cmp link_cmp)) (sym is) (IsDistinct-from_sorted link_cmp (filter inside links.keys) (IsStrictlySortedBy-filter link_cmp inside links.keys rise));
}
  where
    inside : Link → Bool
    inside l = range_contains link_cmp (Included (first_link previous)) (Included (last_link previous)) l

-- ---- from links to blocks

apart_links : (previous : Option (List ℕ)) (k j : Link) → k.previous ≡ previous → j.previous ≡ previous → eq_by_cmp link_cmp k j ≡ false → k.hash ≢ j.hash
apart_links previous k j here there apart same =
    let one : k ≡ j = λ i. record { previous = (here ∙ sym there) i; hash = same i } in
    let e : true ≡ false = sym (ap is_eq (tied_link k)) ∙ (ap (eq_by_cmp link_cmp k) one ∙ apart) in cc

-- where a link is there a block follows
pub one_after : (m : BTreeMap (List ℕ) Placed) (previous : Option (List ℕ)) (links : List Link) (k : Link) → AreLinksAfter (blocks_in m) previous links → Contains links k → HasAfter (blocks_in m) previous
one_after m previous links k are member =
    let named = are.named k member in
    (named.0, named.1, sym named.2.0 ∙ are.same k member)

-- what the links name is what comes after
pub are_after : (m : BTreeMap (List ℕ) Placed) (previous : Option (List ℕ)) (links : List Link) (found : List Stored) → IsOrdered hash_cmp m → IsKeyed m → AreLinksAfter (blocks_in m) previous links
    → map (λ (x : Stored). block_hash_of x.block) found ≡ map (λ (l : Link). l.hash) links → ((x : Stored) → Contains found x → Contains (blocks_in m) x) → AreAfter (blocks_in m) previous found
are_after m previous links found ordered keyed are same within = record {
  members = λ x. (out x, back x);
  once = distinct_by_keys (eq_by_cmp link_cmp) (λ (l : Link). l.hash) (λ (l : Link). l.previous ≡ previous) (apart_links previous) links (map (λ (s : Stored). s.block) found) are.once
      (all_from_members (λ (l : Link). l.previous ≡ previous) links are.same) (mapped found ∙ same);
}
  where
    mapped : (xs : List Stored) → map block_hash_of (map (λ (s : Stored). s.block) xs) ≡ map (λ (x : Stored). block_hash_of x.block) xs
    mapped [] = refl
    mapped (x ∷ xs) = ap (λ (hs : List (List ℕ)). block_hash_of x.block ∷ hs) (mapped xs)

    out : (x : Stored) → Contains found x → Contains (blocks_in m) x × (x.block.header.previous ≡ previous)
    out x member =
        let here = within x member in
        let l = contains_before (λ (l : Link). l.hash) links (block_hash_of x.block)
        (subst (λ (hs : List (List ℕ)). Contains hs (block_hash_of x.block)) same (contains_map (λ (y : Stored). block_hash_of y.block) found x member)) in
        let y = are.named l.0 l.1 in
        let is : x ≡ y.0 = apart_on m ordered keyed x y.0 here y.1 (sym l.2 ∙ y.2.1) in
        (here, ap (λ (z : Stored). z.block.header.previous) is ∙ (sym y.2.0 ∙ are.same l.0 l.1))

    back : (x : Stored) → Contains (blocks_in m) x × (x.block.header.previous ≡ previous) → Contains found x
    back x was =
        let l = are.kept x was.0 was.1 in
        let y = contains_before (λ (y : Stored). block_hash_of y.block) found l.0.hash
        (subst (λ (hs : List (List ℕ)). Contains hs l.0.hash) (sym same) (contains_map (λ (k : Link). k.hash) links l.0 l.1)) in
        subst (Contains found) (apart_on m ordered keyed y.0 x (within y.0 y.1) was.0 (y.2 ∙ l.2.1)) y.1

-- ---- one link after the other

abbrev pub hashes_found : List (Bor Stored) → List (List ℕ)
hashes_found found = map (λ (x : Stored). block_hash_of x.block) (map (λ (x : Bor Stored). x.now) found)

abbrev pub hashes_of : List Link → List (List ℕ)
hashes_of links = map (λ (k : Link). k.hash) links

push_on : {X : Type 0} (xs : List X) (x : X) (ys : List X) → (xs ++ x ∷ []) ++ ys ≡ xs ++ x ∷ ys
push_on [] x ys = refl
push_on (z ∷ zs) x ys = ap (λ ws. z ∷ ws) (push_on zs x ys)

pub ends_here : {X : Type 0} (xs : List X) → xs ++ [] ≡ xs
ends_here [] = refl
ends_here (x ∷ xs) = ap (λ ys. x ∷ ys) (ends_here xs)

pub one_found : (k : Link) (rest : List Link) (all : List (List ℕ)) (found more : List (Bor Stored)) (stored : Bor Stored) → more ≡ found ++ stored ∷ [] → block_hash_of stored.now.block ≡ k.hash
    → hashes_found found ++ hashes_of (k ∷ rest) ≡ all → hashes_found more ++ hashes_of rest ≡ all
one_found k rest all found more stored is at so_far =
    ap (λ (hs : List (List ℕ)). hs ++ hashes_of rest) pushed ∙ (push_on (hashes_found found) (block_hash_of stored.now.block) (hashes_of rest) ∙ (ap (λ (h : List ℕ). hashes_found found ++ h ∷ hashes_of rest) at ∙ so_far))
  where
    pushed : hashes_found more ≡ hashes_found found ++ block_hash_of stored.now.block ∷ []
    pushed = ap hashes_found is
        ∙ (ap (map (λ (x : Stored). block_hash_of x.block)) (map_push (λ (x : Bor Stored). x.now) found stored)
        ∙ map_push (λ (x : Stored). block_hash_of x.block) (map (λ (x : Bor Stored). x.now) found) stored.now)

pub still_within : (m : BTreeMap (List ℕ) Placed) (found more : List (Bor Stored)) (stored : Bor Stored) → more ≡ found ++ stored ∷ [] → Contains (blocks_in m) stored.now
    → ((x : Stored) → Contains (map (λ (y : Bor Stored). y.now) found) x → Contains (blocks_in m) x) → (x : Stored) → Contains (map (λ (y : Bor Stored). y.now) more) x → Contains (blocks_in m) x
still_within m found more stored is here within x member =
    elim (Contains-push_cases (map (λ (y : Bor Stored). y.now) found) stored.now x
    (subst (λ (xs : List Stored). Contains xs x) (ap (map (λ (y : Bor Stored). y.now)) is ∙ map_push (λ (y : Bor Stored). y.now) found stored) member)) [
      | inl was ↦ within x was
      | inr is_it ↦ subst (Contains (blocks_in m)) is_it here
    ]

-- the block of a link is found
pub is_found : (m : BTreeMap (List ℕ) Placed) (previous : Option (List ℕ)) (links : List Link) (k : Link) (r : Option (Bor Placed)) → IsOrdered hash_cmp m → IsKeyed m
    → AreLinksAfter (blocks_in m) previous links → Contains links k → option_copied r ≡ get hash_cmp m k.hash → ((x : Bor Placed) → r ≡ Some x → ⊥) → ⊥
is_found m previous links k r ordered keyed are member is none =
    let x = are.named k member in
    let there : stored_at m k.hash ≡ Some x.0 =
    subst (λ (q : List ℕ). stored_at m q ≡ Some x.0) (sym x.2.1) (holds_at m ordered keyed x.0 x.1) in
    not_none r x.0 (ap (option_map (λ (p : Placed). p.stored)) is ∙ there) none
  where
    not_none : (o : Option (Bor Placed)) (y : Stored) → option_map (λ (p : Placed). p.stored) (option_copied o) ≡ Some y → ((z : Bor Placed) → o ≡ Some z → ⊥) → ⊥
    not_none None y some out = none_some y some
    not_none (Some z) y some out = out z refl

pub found_there : (m : BTreeMap (List ℕ) Placed) (q : List ℕ) (r : Option (Bor Placed)) (placed : Bor Placed) → option_copied r ≡ get hash_cmp m q → r ≡ Some placed → stored_at m q ≡ Some placed.now.stored
found_there m q r placed is some = stands_at m q placed.now (sym is ∙ ap option_copied some)
