-- The blocks of a map, each at its hash, as a list: what is found there, and what becomes of it.
use Rattle.std.proofs.Common.{◌≡◌, ◌≢◌, ◌⊎◌, ◌↔◌, ℕ, ◌+◌, ◌<◌, ◌≤◌, Bool, true, false, cond, List, [], ◌∷◌, ◌++◌, length, map, Contains, Option, Some, None, refl, sym, ap, subst, ◌∙◌, arith, inl, inr, not, Bor}
use Rattle.std.specs.List.{AllByRecursion, IsDistinct}
use Rattle.std.specs.Prelude.{⊤, MatchOption, IsSome, option_copied, option_map, unwrap_or}
use Rattle.std.specs.Ordering.{is_eq, is_gt, is_lt, nat_cmp, eq_by_cmp, ordering_then}
use Rattle.std.specs.declared.cmp.Ordering.{Ordering}
use Rattle.std.specs.declared.cmp.Ordering.TheVariants.{Less, Greater}
use Rattle.std.specs.Cmp.{eq_by_cmp_equiv, tied_itself, nat_cmp_is}
use Rattle.std.specs.Cmp.Lexicographic.{slice_cmp}
use Rattle.std.specs.BTreeSet.{BTreeSet, contains}
use Rattle.std.specs.Map.{lookup, set_value}
use Rattle.std.specs.BTreeMap.{BTreeMap, get, values, keys, is_at, IsOrdered, btree_map_len}
use Rattle.std.specs.BTreeMap as tree
use Rattle.std.proofs.lemmas.Cmp.{nat_list_cmp_total}
use Rattle.std.proofs.lemmas.Bool.{false_from_ne_true, cases_lt}
use Rattle.std.proofs.lemmas.Slice.Eq.{bytes_eq-Decides}
use Rattle.std.proofs.lemmas.List.{length-map, length-append}
use Rattle.std.proofs.lemmas.List.Elements.{Contains-append_left, Contains-push, Contains-push_cases}
use Rattle.std.proofs.lemmas.Map.Keys.{IsDistinct-from_sorted, IsDistinct-head, IsDistinct-tail}
use Rattle.std.proofs.lemmas.Map.Lookups.{exact_bytes}
use Rattle.std.proofs.lemmas.Map.Views.{Contains-from_lookup, lookup-from_Contains}
use Rattle.std.proofs.lemmas.Option.{same_Some}
use Rattle.model.specs.Block.{Block, block_hash_of}
use Rattle.model.specs.Chain.{Tip, tip_at, Follows, HaveDistinctHashes}
use Rattle.model.proofs.Lists.{all_from_members, contains_first, contains_later}
use Rattle.model.proofs.MappedLists.{contains_map, contains_before}
use Rattle.blockstore.specs.Stored.{Stored, marked}
use Rattle.blockstore.specs.Tests.{has_hash, marked_at}
use Rattle.blockstore.specs.Placed.{Placed, is_noted, place_of, stored_at, blocks_in, notes_in, held_in, IsKeyed, AreSameBlocks}
use Rattle.blockstore.specs.Ways.{Agrees, IsLed, IsNotedAt, IsTurned, IsPlaceOf, AreSameNotes, IsLookedAt}
use Rattle.block.specs.declared.tip.Tip.{Tip as Place}
use Rattle.blockstore.specs.Keys.{hash_cmp, age_cmp, IsAgeOf, AreKeysOf}
use Rattle.blockstore.specs.declared.keys.Age.{Age}
use Rattle.blockstore.specs.Shelves.{HasPast, IsSame, AreApart, HasNone, HasAge}
use Rattle.blockstore.proofs.KeySets.{BecomesAt, eq_from, is_hash, at_others, none_some, exact_age, has_member}

same_hash : (a b : List ℕ) → eq_by_cmp hash_cmp a b ≡ true → a ≡ b
same_hash a b is = exact_bytes a b (eq_from (hash_cmp a b) is)

-- what stands at a hash is the block of what is placed there
pub placed_at : (o : Option Placed) (x : Stored) → option_map (λ (p : Placed). p.stored) o ≡ Some x → (p : Placed) × (o ≡ Some p) × (p.stored ≡ x)
placed_at None x is = absurd (none_some x is)
placed_at (Some p) x is = (p, refl, same_Some p.stored x is)

pub stands_at : (m : BTreeMap (List ℕ) Placed) (hash : List ℕ) (p : Placed) → get hash_cmp m hash ≡ Some p → stored_at m hash ≡ Some p.stored
stands_at m hash p there = ap (option_map (λ (q : Placed). q.stored)) there

pub none_at : (m : BTreeMap (List ℕ) Placed) (hash : List ℕ) → get hash_cmp m hash ≡ None → stored_at m hash ≡ None
none_at m hash none = ap (option_map (λ (q : Placed). q.stored)) none

pub none_placed : (o : Option Placed) → option_map (λ (p : Placed). p.stored) o ≡ None → o ≡ None
none_placed None none = refl
none_placed (Some p) none = absurd (none_some p.stored (sym none))

-- a map with the same entries
pub unchanged_at : (m n : BTreeMap (List ℕ) Placed) → n.entries ≡ m.entries → (q : List ℕ) → stored_at n q ≡ stored_at m q
unchanged_at m n same q = ap (λ (es : List (List ℕ × Placed)). option_map (λ (p : Placed). p.stored) (lookup (is_at (hash_cmp q)) es)) same

pub blocks_unchanged : (m n : BTreeMap (List ℕ) Placed) → n.entries ≡ m.entries → blocks_in n ≡ blocks_in m
blocks_unchanged m n same = ap (λ (es : List (List ℕ × Placed)). map (λ (p : Placed). p.stored) (map (λ (e : List ℕ × Placed). e.1) es)) same

pub value_at : (m : BTreeMap (List ℕ) Placed) (hash : List ℕ) (x : Stored) → stored_at m hash ≡ Some x → Contains (blocks_in m) x
value_at m hash x there =
    let p = placed_at (get hash_cmp m hash) x there in
    let entry = contains_map (λ (e : List ℕ × Placed). e.1) m.entries (hash, p.0) (Contains-from_lookup same_hash hash p.0 m.entries p.1) in
    subst (Contains (blocks_in m)) p.2 (contains_map (λ (q : Placed). q.stored) (values m) p.0 entry)

pub holds_at : (m : BTreeMap (List ℕ) Placed) → IsOrdered hash_cmp m → IsKeyed m → (x : Stored) → Contains (blocks_in m) x → stored_at m (block_hash_of x.block) ≡ Some x
holds_at m ordered keyed x member =
    let q = contains_before (λ (q : Placed). q.stored) (values m) x member in
    let e = contains_before (λ (e : List ℕ × Placed). e.1) m.entries q.0 q.1 in
    let there : get hash_cmp m e.0.0 ≡ Some e.0.1 =
    lookup-from_Contains (eq_by_cmp_equiv nat_list_cmp_total) e.0.0 e.0.1 m.entries (IsDistinct-from_sorted hash_cmp (keys m) ordered) e.1 in
    let at : stored_at m e.0.0 ≡ Some x = stands_at m e.0.0 e.0.1 there ∙ ap Some (ap (λ (r : Placed). r.stored) e.2 ∙ q.2) in
    subst (λ (h : List ℕ). stored_at m h ≡ Some x) (sym (keyed e.0.0 x at)) at

pub len_in : (m : BTreeMap (List ℕ) Placed) → length (blocks_in m) ≡ btree_map_len m
len_in m = length-map (values m) (λ (q : Placed). q.stored) ∙ length-map m.entries (λ (e : List ℕ × Placed). e.1)

-- no two blocks of a map have one hash
pub apart_on : (m : BTreeMap (List ℕ) Placed) → IsOrdered hash_cmp m → IsKeyed m → AreApart (blocks_in m)
apart_on m ordered keyed x y here there same =
    same_Some x y (sym (holds_at m ordered keyed x here) ∙ (ap (stored_at m) same ∙ holds_at m ordered keyed y there))

-- ---- what is noted

lookup_map : {X Y : Type 0} (f : X → Y) (t : List ℕ → Bool) (es : List (List ℕ × X)) → lookup t (map (λ (e : List ℕ × X). (e.0, f e.1)) es) ≡ option_map f (lookup t es)
lookup_map f t [] = refl
lookup_map {X} {Y} f t (e ∷ es) = one (t e.0) (lookup_map f t es)
  where
    one : (b : Bool) → lookup t (map (λ (d : List ℕ × X). (d.0, f d.1)) es) ≡ option_map f (lookup t es)
        → cond b (Some (f e.1)) (lookup t (map (λ (d : List ℕ × X). (d.0, f d.1)) es)) ≡ option_map f (cond b (Some e.1) (lookup t es))
    one true more = refl
    one false more = more

abbrev note_of : Option Placed → Bool
note_of o = unwrap_or (option_map (λ (p : Placed). p.reached) o) false

noted_at : (m : BTreeMap (List ℕ) Placed) (hash : List ℕ) → is_noted (notes_in m) hash ≡ note_of (get hash_cmp m hash)
noted_at m hash = ap (λ (o : Option Bool). unwrap_or o false) (lookup_map (λ (p : Placed). p.reached) (is_at (hash_cmp hash)) m.entries)

pub noted_some : (m : BTreeMap (List ℕ) Placed) (hash : List ℕ) (p : Placed) → get hash_cmp m hash ≡ Some p → is_noted (notes_in m) hash ≡ p.reached
noted_some m hash p there = noted_at m hash ∙ ap note_of there

pub noted_none : (m : BTreeMap (List ℕ) Placed) (hash : List ℕ) → get hash_cmp m hash ≡ None → is_noted (notes_in m) hash ≡ false
noted_none m hash none = noted_at m hash ∙ ap note_of none

pub noted_becomes : (m n : BTreeMap (List ℕ) Placed) (hash : List ℕ) (w : Option Placed) → tree.UpdatesBy hash_cmp (hash_cmp hash) m n w → IsNotedAt hash (note_of w) (notes_in m) (notes_in n)
noted_becomes m n hash w updates = record {
  here = noted_at n hash ∙ ap note_of updates.1;
  others = λ q other. noted_at n q ∙ (ap note_of (at_others m n hash w updates q other) ∙ sym (noted_at m q));
}

-- a note that was written turned, or stayed
pub note_turns : (m n : BTreeMap (List ℕ) Placed) (hash : List ℕ) (x y : Placed) (turns : Bool) → block_hash_of x.stored.block ≡ hash → get hash_cmp m hash ≡ Some x → tree.UpdatesBy hash_cmp (hash_cmp hash) m n (Some y)
    → x.reached ≡ not turns → y.reached ≡ turns → IsTurned (block_hash_of x.stored.block) turns (notes_in m) (notes_in n)
note_turns m n hash x y turns at there updates was is =
    let noted = noted_becomes m n hash (Some y) updates in
    subst (λ (h : List ℕ). IsTurned h turns (notes_in m) (notes_in n)) (sym at)
    (record { before = noted_some m hash x there ∙ was; after = noted.here ∙ is; others = noted.others })

pub note_stays : (m n : BTreeMap (List ℕ) Placed) (hash : List ℕ) (x y : Placed) → get hash_cmp m hash ≡ Some x → tree.UpdatesBy hash_cmp (hash_cmp hash) m n (Some y) → y.reached ≡ x.reached → AreSameNotes (notes_in m) (notes_in n)
note_stays m n hash x y there updates is q =
    let noted = noted_becomes m n hash (Some y) updates in
    elim (is_hash hash q) [
      | inl same ↦ ap (is_noted (notes_in n)) same ∙ (noted.here ∙ (is ∙ (sym (noted_some m hash x there) ∙ sym (ap (is_noted (notes_in m)) same))))
      | inr other ↦ noted.others q other
    ]

pub seen_same : (place : Tip) (root : Option Tip) (turns : Bool) (m n : BTreeMap (List ℕ) Placed) (x : Placed) (hash : List ℕ) (waiting : List Place) → block_hash_of x.stored.block ≡ hash → get hash_cmp m hash ≡ Some x
    → AreSameNotes (notes_in m) (notes_in n) → (Follows place x.stored.block → ⊥) ⊎ ((x.reached ≡ turns) ⊎ Agrees (not turns) (IsLed root turns x.stored))
    → IsLookedAt place root turns x.stored (notes_in m) (notes_in n) waiting waiting
seen_same place root turns m n x hash waiting at there same (inl aside) = inr (same, refl, inl aside)
seen_same place root turns m n x hash waiting at there same (inr (inl said)) = inr (same, refl, inr (inl (ap (is_noted (notes_in m)) at ∙ (noted_some m hash x there ∙ said))))
seen_same place root turns m n x hash waiting at there same (inr (inr led)) = inr (same, refl, inr (inr led))

-- where the block of a hash stands, if it is noted
pub place_at : (m : BTreeMap (List ℕ) Placed) (hash : List ℕ) (p : Placed) (place : Option Tip) → IsKeyed m → get hash_cmp m hash ≡ Some p → place ≡ place_of p → IsPlaceOf (held_in m) hash place
place_at m hash p place keyed there is = subst (IsPlaceOf (held_in m) hash) (sym is) (one p.reached refl)
  where
    one : (t : Bool) → p.reached ≡ t → IsPlaceOf (held_in m) hash (cond t (Some (tip_at p.stored.block)) None)
    one true reached = let at = stands_at m hash p there in (p.stored, value_at m hash p.stored at, keyed hash p.stored at, noted_some m hash p there ∙ reached, refl)
    one false reached = noted_some m hash p there ∙ reached

-- ---- a note that is written

abbrev bare : List ℕ × Placed → List ℕ × Stored
bare e = (e.0, e.1.stored)

set_same : (t : List ℕ → Bool) (es : List (List ℕ × Placed)) (x y : Placed) → lookup t es ≡ Some x → y.stored ≡ x.stored → map bare (set_value t es y) ≡ map bare es
set_same t [] x y is same = refl
set_same t (e ∷ es) x y is same = one (t e.0) is (λ later. set_same t es x y later same)
  where
    one : (b : Bool) → cond b (Some e.1) (lookup t es) ≡ Some x → (lookup t es ≡ Some x → map bare (set_value t es y) ≡ map bare es)
        → map bare (cond b ((e.0, y) ∷ es) (e ∷ set_value t es y)) ≡ map bare (e ∷ es)
    one true here rest = ap (λ (s : Stored). bare (e.0, record { stored = s; reached = false }) ∷ map bare es) (same ∙ ap (λ (p : Placed). p.stored) (sym (same_Some e.1 x here)))
    one false here rest = ap (λ (ds : List (List ℕ × Stored)). bare e ∷ ds) (rest here)

pub same_written : (m n : BTreeMap (List ℕ) Placed) (hash : List ℕ) (x y : Placed) → get hash_cmp m hash ≡ Some x → y.stored ≡ x.stored → n.entries ≡ set_value (is_at (hash_cmp hash)) m.entries y → AreSameBlocks m n
same_written m n hash x y there same is = ap (map bare) is ∙ set_same (is_at (hash_cmp hash)) m.entries x y there same

-- a value that is written where it stands changes nothing
same_value : (t : List ℕ → Bool) (es : List (List ℕ × Placed)) (x y : Placed) → lookup t es ≡ Some x → y ≡ x → set_value t es y ≡ es
same_value t [] x y is same = refl
same_value t (e ∷ es) x y is same = one (t e.0) is (λ later. same_value t es x y later same)
  where
    one : (b : Bool) → cond b (Some e.1) (lookup t es) ≡ Some x → (lookup t es ≡ Some x → set_value t es y ≡ es) → cond b ((e.0, y) ∷ es) (e ∷ set_value t es y) ≡ e ∷ es
    one true here rest = ap (λ (p : Placed). (e.0, p) ∷ es) (same ∙ sym (same_Some e.1 x here))
    one false here rest = ap (λ (ds : List (List ℕ × Placed)). e ∷ ds) (rest here)

pub rewritten : (m n : BTreeMap (List ℕ) Placed) (hash : List ℕ) (x y : Placed) → get hash_cmp m hash ≡ Some x → y ≡ x → n.entries ≡ set_value (is_at (hash_cmp hash)) m.entries y → n.entries ≡ m.entries
rewritten m n hash x y there same is = is ∙ same_value (is_at (hash_cmp hash)) m.entries x y there same

-- so it is if what is written is what stood there, and a map with the same entries has the same blocks
pub same_blocks : (m n : BTreeMap (List ℕ) Placed) → n.entries ≡ m.entries → AreSameBlocks m n
same_blocks m n is = ap (map bare) is

-- what a shelf stands for rests on the entries alone
pub held_same : (m n : BTreeMap (List ℕ) Placed) → n.entries ≡ m.entries → held_in n ≡ held_in m
held_same m n is = ap (λ (es : List (List ℕ × Placed)). record { blocks = map (λ (p : Placed). p.stored) (map (λ (e : List ℕ × Placed). e.1) es); notes = map (λ (e : List ℕ × Placed). (e.0, e.1.reached)) es }) is

mapped_in : (es : List (List ℕ × Placed)) → map (λ (p : Placed). p.stored) (map (λ (e : List ℕ × Placed). e.1) es) ≡ map (λ (e : List ℕ × Stored). e.1) (map bare es)
mapped_in [] = refl
mapped_in (e ∷ es) = ap (λ (xs : List Stored). e.1.stored ∷ xs) (mapped_in es)

pub blocks_same : (m n : BTreeMap (List ℕ) Placed) → AreSameBlocks m n → blocks_in n ≡ blocks_in m
blocks_same m n same = mapped_in n.entries ∙ (ap (map (λ (e : List ℕ × Stored). e.1)) same ∙ sym (mapped_in m.entries))

pub stored_same : (m n : BTreeMap (List ℕ) Placed) → AreSameBlocks m n → (q : List ℕ) → stored_at n q ≡ stored_at m q
stored_same m n same q =
    sym (lookup_map (λ (p : Placed). p.stored) (is_at (hash_cmp q)) n.entries)
    ∙ (ap (lookup (is_at (hash_cmp q))) same ∙ lookup_map (λ (p : Placed). p.stored) (is_at (hash_cmp q)) m.entries)

pub keyed_same : (m n : BTreeMap (List ℕ) Placed) → AreSameBlocks m n → IsKeyed m → IsKeyed n
keyed_same m n same keyed q x there = keyed q x (sym (stored_same m n same q) ∙ there)

-- ---- a block comes

module _ (m p : BTreeMap (List ℕ) Placed) (hash : List ℕ) (x : Stored) (at : block_hash_of x.block ≡ hash) (put : BecomesAt (stored_at m) (stored_at p) hash (Some x)) (keyed : IsKeyed m) where
  pub keyed_put : IsKeyed p
  keyed_put q y there = elim (is_hash hash q) [
    | inl same ↦ ap (λ (z : Stored). block_hash_of z.block) (same_Some y x (sym there ∙ (ap (stored_at p) same ∙ put.here))) ∙ (at ∙ sym same)
    | inr other ↦ keyed q y (sym (put.others q other) ∙ there)
  ]

  pub same_put : stored_at m hash ≡ None → IsOrdered hash_cmp m → IsOrdered hash_cmp p → btree_map_len p ≡ btree_map_len m + 1 → IsSame (blocks_in p) (blocks_in m ++ x ∷ [])
  same_put free ordered ordered_too len = record {
    members = λ y. (out y, back y);
    count = let a = len_in p in let b = len_in m in omega (arith, len, a, b, length-append (blocks_in m) (x ∷ []));
  }
    where
      out : (y : Stored) → Contains (blocks_in p) y → Contains (blocks_in m ++ x ∷ []) y
      out y member =
          let there = holds_at p ordered_too keyed_put y member in
          elim (is_hash hash (block_hash_of y.block)) [
            | inl same ↦ subst (Contains (blocks_in m ++ x ∷ [])) (same_Some x y (sym put.here ∙ (ap (stored_at p) (sym same) ∙ there))) (Contains-push (blocks_in m) x)
            | inr other ↦ Contains-append_left (blocks_in m) (x ∷ []) y (value_at m (block_hash_of y.block) y (sym (put.others (block_hash_of y.block) other) ∙ there))
          ]

      back : (y : Stored) → Contains (blocks_in m ++ x ∷ []) y → Contains (blocks_in p) y
      back y member = elim (Contains-push_cases (blocks_in m) x y member) [
        | inl was ↦
            let there = holds_at m ordered keyed y was in
            let other : block_hash_of y.block ≢ hash = λ same. none_some y (sym free ∙ (ap (stored_at m) (sym same) ∙ there)) in
            value_at p (block_hash_of y.block) y (put.others (block_hash_of y.block) other ∙ there)
        | inr is ↦ value_at p hash y (put.here ∙ ap Some is)
      ]

-- ---- a block goes

module _ (m p : BTreeMap (List ℕ) Placed) (hash : List ℕ) (took : BecomesAt (stored_at m) (stored_at p) hash None) (keyed : IsKeyed m) where
  pub keyed_took : IsKeyed p
  keyed_took q y there = elim (is_hash hash q) [
    | inl same ↦ absurd (none_some y (sym took.here ∙ (ap (stored_at p) (sym same) ∙ there)))
    | inr other ↦ keyed q y (sym (took.others q other) ∙ there)
  ]

  pub left_of : IsOrdered hash_cmp m → IsOrdered hash_cmp p → (y : Stored) → Contains (blocks_in p) y ↔ (Contains (blocks_in m) y × (block_hash_of y.block ≢ hash))
  left_of ordered ordered_too y = (out, back)
    where
      out : Contains (blocks_in p) y → Contains (blocks_in m) y × (block_hash_of y.block ≢ hash)
      out member =
          let there = holds_at p ordered_too keyed_took y member in
          let other : block_hash_of y.block ≢ hash = λ same. none_some y (sym took.here ∙ (ap (stored_at p) (sym same) ∙ there)) in
          (value_at m (block_hash_of y.block) y (sym (took.others (block_hash_of y.block) other) ∙ there), other)

      back : Contains (blocks_in m) y × (block_hash_of y.block ≢ hash) → Contains (blocks_in p) y
      back was = value_at p (block_hash_of y.block) y (took.others (block_hash_of y.block) was.1 ∙ holds_at m ordered keyed y was.0)

-- ---- a mark

pub unmarked_at : (hash : List ℕ) (y : Stored) → block_hash_of y.block ≢ hash → marked_at hash y ≡ y
unmarked_at hash y other = ap (λ (t : Bool). cond t (marked y) y) (false_from_ne_true (has_hash hash y) (λ same. other ((bytes_eq-Decides (block_hash_of y.block) hash).0 same)))

pub marked_there : (hash : List ℕ) (y : Stored) → block_hash_of y.block ≡ hash → marked_at hash y ≡ marked y
marked_there hash y same = ap (λ (t : Bool). cond t (marked y) y) ((bytes_eq-Decides (block_hash_of y.block) hash).1 same)

module _ (m p : BTreeMap (List ℕ) Placed) (hash : List ℕ) (x : Stored) (there : stored_at m hash ≡ Some x) (wrote : BecomesAt (stored_at m) (stored_at p) hash (Some (marked x))) (keyed : IsKeyed m) where
  pub keyed_marked : IsKeyed p
  keyed_marked = keyed_put m p hash (marked x) (keyed hash x there) wrote keyed

  pub same_marked : IsOrdered hash_cmp m → IsOrdered hash_cmp p → btree_map_len p ≡ btree_map_len m → IsSame (blocks_in p) (map (marked_at hash) (blocks_in m))
  same_marked ordered ordered_too len = record {
    members = λ y. (out y, back y);
    count = let a = len_in p in let b = len_in m in omega (arith, len, a, b, length-map (blocks_in m) (marked_at hash));
  }
    where
      out : (y : Stored) → Contains (blocks_in p) y → Contains (map (marked_at hash) (blocks_in m)) y
      out y member =
          let here = holds_at p ordered_too keyed_marked y member in
          elim (is_hash hash (block_hash_of y.block)) [
            | inl same ↦
                let is : marked x ≡ y = same_Some (marked x) y (sym wrote.here ∙ (ap (stored_at p) (sym same) ∙ here)) in
                subst (Contains (map (marked_at hash) (blocks_in m))) (marked_there hash x (keyed hash x there) ∙ is)
                (contains_map (marked_at hash) (blocks_in m) x (value_at m hash x there))
            | inr other ↦
                let was = value_at m (block_hash_of y.block) y (sym (wrote.others (block_hash_of y.block) other) ∙ here) in
                subst (Contains (map (marked_at hash) (blocks_in m))) (unmarked_at hash y other) (contains_map (marked_at hash) (blocks_in m) y was)
          ]

      one_back : (y z : Stored) → Contains (blocks_in m) z → marked_at hash z ≡ y → Contains (blocks_in p) y
      one_back y z was is =
          let here = holds_at m ordered keyed z was in
          elim (is_hash hash (block_hash_of z.block)) [
            | inl same ↦
                let one : x ≡ z = same_Some x z (sym there ∙ (ap (stored_at m) (sym same) ∙ here)) in
                value_at p hash y (wrote.here ∙ ap Some (ap marked one ∙ (sym (marked_there hash z same) ∙ is)))
            | inr other ↦
                value_at p (block_hash_of z.block) y (wrote.others (block_hash_of z.block) other ∙ (here ∙ ap Some (sym (unmarked_at hash z other) ∙ is)))
          ]

      back : (y : Stored) → Contains (map (marked_at hash) (blocks_in m)) y → Contains (blocks_in p) y
      back y member = let z = contains_before (marked_at hash) (blocks_in m) y member in one_back y z.0 z.1 z.2

-- where none has the hash nothing is marked
pub same_unmarked : (m p : BTreeMap (List ℕ) Placed) (hash : List ℕ) → IsOrdered hash_cmp m → IsKeyed m → stored_at m hash ≡ None → p.entries ≡ m.entries → IsSame (blocks_in p) (map (marked_at hash) (blocks_in m))
same_unmarked m p hash ordered keyed none same =
    subst (λ (es : List (List ℕ × Placed)). IsSame (map (λ (q : Placed). q.stored) (map (λ e. e.1) es)) (map (marked_at hash) (blocks_in m))) (sym same)
    (record {
      members = λ y. (
        (λ member. subst (Contains (map (marked_at hash) (blocks_in m))) (unmarked_at hash y (apart y member)) (contains_map (marked_at hash) (blocks_in m) y member)),
        (λ member. let z = contains_before (marked_at hash) (blocks_in m) y member in subst (Contains (blocks_in m)) (sym (unmarked_at hash z.0 (apart z.0 z.1)) ∙ z.2) z.1),
      );
      count = sym (length-map (blocks_in m) (marked_at hash));
    })
  where
    apart : (y : Stored) → Contains (blocks_in m) y → block_hash_of y.block ≢ hash
    apart y member at = none_some y (sym none ∙ (ap (stored_at m) (sym at) ∙ holds_at m ordered keyed y member))

-- ---- what a look-up finds

pub look_up : (m : BTreeMap (List ℕ) Placed) (hash : List ℕ) (r : Option (Bor Placed)) → IsOrdered hash_cmp m → IsKeyed m → option_copied r ≡ get hash_cmp m hash
    → MatchOption r (HasNone (blocks_in m) hash) (λ found. Contains (blocks_in m) found.now.stored × (block_hash_of found.now.stored.block ≡ hash) × (is_noted (notes_in m) hash ≡ found.now.reached))
look_up m hash None ordered keyed is = λ y member at. none_some y (sym (none_at m hash (sym is)) ∙ (ap (stored_at m) (sym at) ∙ holds_at m ordered keyed y member))
look_up m hash (Some found) ordered keyed is =
    let there = stands_at m hash found.now (sym is) in (value_at m hash found.now.stored there, keyed hash found.now.stored there, noted_some m hash found.now (sym is))

-- what has a hash that a map lacks isn't there
pub free_at : (m : BTreeMap (List ℕ) Placed) (hash : List ℕ) → IsKeyed m → HasNone (blocks_in m) hash → stored_at m hash ≡ None
free_at m hash keyed none = one (stored_at m hash) refl
  where
    one : (r : Option Stored) → stored_at m hash ≡ r → stored_at m hash ≡ None
    one None is = is
    one (Some x) is = absurd (none x (value_at m hash x is) (keyed hash x is))

-- ---- distinct hashes

module _ {K : Type 0} (e : K → K → Bool) (f : K → List ℕ) (P : K → Type 0) (apart : (k j : K) → P k → P j → e k j ≡ false → f k ≢ f j) where
  others_apart : (k : K) (b : Block) (ks : List K) (bs : List Block) → P k → block_hash_of b ≡ f k → AllByRecursion (λ j. e k j ≡ false) ks → AllByRecursion P ks
      → map block_hash_of bs ≡ map f ks → AllByRecursion (λ c. block_hash_of c ≢ block_hash_of b) bs
  others_apart k b [] [] pk is far all same = tt
  others_apart k b (j ∷ ks) [] pk is far all same = tt
  others_apart k b [] (c ∷ bs) pk is far all same = absurd cc
  others_apart k b (j ∷ ks) (c ∷ bs) pk is far all same =
      let first : block_hash_of c ≡ f j = cc in
      let rest : map block_hash_of bs ≡ map f ks = cc in
      ((λ one. apart k j pk all.0 far.0 (sym is ∙ (sym one ∙ first))), others_apart k b ks bs pk is far.1 all.1 rest)

  pub distinct_by_keys : (ks : List K) (bs : List Block) → IsDistinct e ks → AllByRecursion P ks → map block_hash_of bs ≡ map f ks → HaveDistinctHashes bs
  distinct_by_keys ks [] distinct all same = tt
  distinct_by_keys [] (b ∷ bs) distinct all same = absurd cc
  distinct_by_keys (k ∷ ks) (b ∷ bs) distinct all same =
      let first : block_hash_of b ≡ f k = cc in
      let rest : map block_hash_of bs ≡ map f ks = cc in
      (others_apart k b ks bs all.0 first (IsDistinct-head e k ks distinct) all.1 rest, distinct_by_keys ks bs (IsDistinct-tail e k ks distinct) all.1 rest)

-- no two blocks of a map have one hash
entries_keyed : (m : BTreeMap (List ℕ) Placed) → IsOrdered hash_cmp m → IsKeyed m → (e : List ℕ × Placed) → Contains m.entries e → block_hash_of e.1.stored.block ≡ e.0
entries_keyed m ordered keyed e member =
    keyed e.0 e.1.stored (stands_at m e.0 e.1 (lookup-from_Contains (eq_by_cmp_equiv nat_list_cmp_total) e.0 e.1 m.entries (IsDistinct-from_sorted hash_cmp (keys m) ordered) member))

keyed_hashes : (es : List (List ℕ × Placed)) → ((e : List ℕ × Placed) → Contains es e → block_hash_of e.1.stored.block ≡ e.0)
    → map block_hash_of (map (λ (s : Stored). s.block) (map (λ (q : Placed). q.stored) (map (λ (e : List ℕ × Placed). e.1) es))) ≡ map (λ (h : List ℕ). h) (map (λ (e : List ℕ × Placed). e.0) es)
keyed_hashes [] at = refl
keyed_hashes (e ∷ es) at = λ i. at e (contains_first e es) i ∷ keyed_hashes es (λ f member. at f (contains_later e es f member)) i

pub distinct_on : (m : BTreeMap (List ℕ) Placed) → IsOrdered hash_cmp m → IsKeyed m → HaveDistinctHashes (map (λ (s : Stored). s.block) (blocks_in m))
distinct_on m ordered keyed =
    distinct_by_keys (eq_by_cmp hash_cmp) (λ (h : List ℕ). h) (λ (h : List ℕ). ⊤)
    (λ k j pk pj e same. let t : true ≡ false = sym (same_true k) ∙ (ap (eq_by_cmp hash_cmp k) same ∙ e) in cc)
    (keys m) (map (λ (s : Stored). s.block) (blocks_in m)) (IsDistinct-from_sorted hash_cmp (keys m) ordered) (all_from_members (λ (h : List ℕ). ⊤) (keys m) (λ h member. tt))
    (keyed_hashes m.entries (entries_keyed m ordered keyed))
  where
    same_true : (k : List ℕ) → eq_by_cmp hash_cmp k k ≡ true
    same_true k = ap is_eq (tied_itself nat_list_cmp_total k)

-- ---- the oldest

-- a lesser age has a number that is no greater
pub older : (a b : Age) → is_gt (age_cmp a b) ≡ false → a.number ≤ b.number
older a b h = elim (cases_lt b.number a.number) [
  | inl less ↦ absurd (let e : true ≡ false = ap (λ (o : Ordering). is_gt (ordering_then o (slice_cmp nat_cmp a.hash b.hash))) (nat_cmp_is a.number b.number Greater less) ∙ h in cc)
  | inr le ↦ le
]

-- nor is a greater age's less
pub newer : (a b : Age) → is_lt (age_cmp a b) ≡ false → b.number ≤ a.number
newer a b h = elim (cases_lt a.number b.number) [
  | inl less ↦ absurd (let e : true ≡ false = ap (λ (o : Ordering). is_lt (ordering_then o (slice_cmp nat_cmp a.hash b.hash))) (nat_cmp_is a.number b.number Less less) ∙ h in cc)
  | inr le ↦ le
]

module _ (m : BTreeMap (List ℕ) Placed) (ordered : IsOrdered hash_cmp m) (keyed : IsKeyed m) (ages : BTreeSet Age) (keys : AreKeysOf IsAgeOf (contains age_cmp ages) (stored_at m)) where
  -- where there is no age there is no block
  pub none_without_ages : (0 < length ages.keys → ⊥) → (x : Stored) → Contains (blocks_in m) x → ⊥
  none_without_ages none x member =
      let k = keys.kept (block_hash_of x.block) x (holds_at m ordered keyed x member) in
      let at = has_member age_cmp exact_age ages k.0 k.1 in none (omega (arith, at.1))

  -- where the least age is past a number, all are
  pub past_oldest : (number : ℕ) (oldest : Age) → ((q : Age) → contains age_cmp ages q ≡ true → is_gt (age_cmp oldest q) ≡ false) → number < oldest.number → (x : Stored) → Contains (blocks_in m) x → number < x.block.header.number
  past_oldest number oldest least far x member =
      let k = keys.kept (block_hash_of x.block) x (holds_at m ordered keyed x member) in
      let le = older oldest k.0 (least k.0 k.1) in
      let is = k.2.0 in omega (arith, far, le, is)

  -- where the greatest age isn't past a number, none is
  pub none_past : (number : ℕ) (newest : Age) → ((q : Age) → contains age_cmp ages q ≡ true → is_lt (age_cmp newest q) ≡ false) → newest.number ≤ number → HasPast number (blocks_in m) → ⊥
  none_past number newest greatest within past =
      let k = keys.kept (block_hash_of past.0.block) past.0 (holds_at m ordered keyed past.0 past.1) in
      let le = newer newest k.0 (greatest k.0 k.1) in
      let is = k.2.0 in
      let above = past.2 in
      omega (arith, within, le, is, above)

  -- and where it is past the number, its block is
  pub one_past : (number : ℕ) (newest : Age) → contains age_cmp ages newest ≡ true → number < newest.number → HasPast number (blocks_in m)
  one_past number newest has past =
      let at = keys.named newest has in
      let is = at.3.0 in
      (at.1, value_at m at.0 at.1 at.2, omega (arith, past, is))

  -- each age is that of a block
  pub there_at : (k : Age) → contains age_cmp ages k ≡ true → HasAge (blocks_in m) k
  there_at k has = let at = keys.named k has in record { block = at.1; member = value_at m at.0 at.1 at.2; is = at.3 }

pub no_first : {X : Type 0} (r : Option X) → ((x : X) → r ≡ Some x → ⊥) → IsSome r → ⊥
no_first None none some = let e : false ≡ true = some in cc
no_first (Some x) none some = none x refl

pub none_found : {X : Type 0} (r : Option X) → ((x : X) → r ≡ Some x → ⊥) → r ≡ None
none_found None none = refl
none_found (Some x) none = absurd (none x refl)
