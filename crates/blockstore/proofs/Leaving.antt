-- What is left where a live block is discarded: it gets its mark, so that no way leads on by it, and goes.
use Rattle.std.proofs.Common.{◌≡◌, ◌≢◌, ◌↔◌, ℕ, ◌+◌, Bool, true, false, cond, not, List, [], ◌∷◌, length, map, Contains, Option, refl, sym, ap, subst, ◌∙◌, arith, inl, inr}
use Rattle.std.specs.List.{filter}
use Rattle.std.proofs.lemmas.List.{length-map}
use Rattle.model.specs.Block.{Block, block_hash_of}
use Rattle.model.specs.Chain.{Tip}
use Rattle.model.proofs.Lists.{all_of_member, contains_first, contains_later, contains_cases, contains_filter, nothing_contained}
use Rattle.model.proofs.MappedLists.{contains_map, contains_before, filter_member}
use Rattle.blockstore.specs.Stored.{Stored}
use Rattle.blockstore.specs.Placed.{Notes, is_noted}
use Rattle.blockstore.specs.Tests.{has_hash, lacks_hash, marked_at}
use Rattle.blockstore.specs.Shelves.{IsSame, HasNone, IsWithout}
use Rattle.blockstore.specs.Ways.{Agrees, HasStep, IsReached, AreNotes, IsNotedAt}
use Rattle.blockstore.specs.declared.keys.Age.{Age}
use Rattle.blockstore.proofs.KeySets.{is_hash}
use Rattle.blockstore.proofs.Tests.{hash_is, hash_is_not, same_block}
use Rattle.blockstore.proofs.Sizes.{AreDistinct}
use Rattle.blockstore.proofs.Shelves.{unmarked_at, marked_there}
use Rattle.blockstore.proofs.Noting.{step_with}

-- ---- the blocks that lack a hash

lacks_if_not : (t : Bool) → not t ≡ true → t ≡ false
lacks_if_not true passes = absurd (let e : false ≡ true = passes in cc)
lacks_if_not false passes = refl

not_if_lacks : (hash : List ℕ) (x : Stored) (t : Bool) → has_hash hash x ≡ t → block_hash_of x.block ≢ hash → not t ≡ true
not_if_lacks hash x true is apart = absurd (apart (hash_is hash x is))
not_if_lacks hash x false is apart = refl

-- those that are left were there, and have another hash
pub left_members : (hash : List ℕ) (xs : List Stored) (x : Stored) → Contains (filter (lacks_hash hash) xs) x ↔ (Contains xs x × (block_hash_of x.block ≢ hash))
left_members hash xs x = (
  (λ member. let found = filter_member (lacks_hash hash) xs x member in (found.0, hash_is_not hash x (lacks_if_not (has_hash hash x) found.1))),
  (λ there. contains_filter (lacks_hash hash) xs x there.0 (not_if_lacks hash x (has_hash hash x) refl there.1)),
)

-- where none has it all are left
all_left : (hash : List ℕ) (xs : List Stored) → HasNone xs hash → filter (lacks_hash hash) xs ≡ xs
all_left hash [] none = refl
all_left hash (x ∷ xs) none = one (has_hash hash x) refl (all_left hash xs (λ y member. none y (contains_later x xs y member)))
  where
    one : (t : Bool) → has_hash hash x ≡ t → filter (lacks_hash hash) xs ≡ xs → cond (not t) (x ∷ filter (lacks_hash hash) xs) (filter (lacks_hash hash) xs) ≡ x ∷ xs
    one true is rest = absurd (none x (contains_first x xs) (hash_is hash x is))
    one false is rest = ap (λ (ys : List Stored). x ∷ ys) rest

-- and where one has it, all but that one
count_left : (hash : List ℕ) (xs : List Stored) (x : Stored) → AreDistinct xs → Contains xs x → block_hash_of x.block ≡ hash → length (filter (lacks_hash hash) xs) + 1 ≡ length xs
count_left hash [] x distinct member at = absurd (nothing_contained x member)
count_left hash (y ∷ ys) x distinct member at = one (has_hash hash y) refl (λ later. count_left hash ys x distinct.1 later at)
  where
    others : block_hash_of y.block ≡ hash → HasNone ys hash
    others same z there at_too = all_of_member (λ c. block_hash_of c ≢ block_hash_of y.block) (map (λ (s : Stored). s.block) ys) z.block distinct.0 (contains_map (λ (s : Stored). s.block) ys z there) (at_too ∙ sym same)

    one : (t : Bool) → has_hash hash y ≡ t → (Contains ys x → length (filter (lacks_hash hash) ys) + 1 ≡ length ys)
        → length (cond (not t) (y ∷ filter (lacks_hash hash) ys) (filter (lacks_hash hash) ys)) + 1 ≡ length (y ∷ ys)
    one true is rest = let all : length (filter (lacks_hash hash) ys) ≡ length ys = ap length (all_left hash ys (others (hash_is hash y is))) in omega arith
    one false is rest = elim (contains_cases y ys x member) [
      | inl same ↦ absurd (hash_is_not hash y is (ap (λ (s : Stored). block_hash_of s.block) same ∙ at))
      | inr later ↦ let more = rest later in omega arith
    ]

-- ---- after the mark

module _ (old mid : List Stored) (hash : List ℕ) (marked_all : IsSame mid (map (marked_at hash) old)) where
  -- what has another hash is as it was
  was_there : (y : Stored) → Contains mid y → block_hash_of y.block ≢ hash → Contains old y
  was_there y member other =
      let z = contains_before (marked_at hash) old y ((marked_all.members y).0 member) in
      let apart : block_hash_of z.0.block ≢ hash = λ same. other (ap (λ (s : Stored). block_hash_of s.block) (sym z.2) ∙ (ap block_hash_of (same_block hash z.0) ∙ same)) in
      subst (Contains old) (sym (unmarked_at hash z.0 apart) ∙ z.2) z.1

  is_there : (y : Stored) → Contains old y → block_hash_of y.block ≢ hash → Contains mid y
  is_there y member other = (marked_all.members y).1 (subst (Contains (map (marked_at hash) old)) (unmarked_at hash y other) (contains_map (marked_at hash) old y member))

  -- the block of the hash, before it got its mark
  before_mark : (x : Stored) → Contains mid x → block_hash_of x.block ≡ hash → (z : Stored) × Contains old z × (block_hash_of z.block ≡ hash) × (x.invalid ≡ true)
  before_mark x member at =
      let z = contains_before (marked_at hash) old x ((marked_all.members x).0 member) in
      let same : block_hash_of z.0.block ≡ hash = ap block_hash_of (sym (same_block hash z.0)) ∙ (ap (λ (s : Stored). block_hash_of s.block) z.2 ∙ at) in
      (z.0, z.1, same, ap (λ (s : Stored). s.invalid) (sym z.2 ∙ marked_there hash z.0 same))

  -- where none has it, nothing goes
  pub none_goes : HasNone mid hash → IsSame mid (filter (lacks_hash hash) old)
  none_goes none = record {
    members = λ y. (
      (λ member. (left_members hash old y).1 (was_there y member (none y member), none y member)),
      (λ left. let there = (left_members hash old y).0 left in is_there y there.0 there.1),
    );
    count = marked_all.count ∙ (length-map old (marked_at hash) ∙ sym (ap length (all_left hash old none_before)));
  }
    where
      none_before : HasNone old hash
      none_before y member at = none (marked_at hash y) ((marked_all.members (marked_at hash y)).1 (contains_map (marked_at hash) old y member)) (ap block_hash_of (same_block hash y) ∙ at)

  module _ (new : List Stored) (age : Age) (x : Stored) (member : Contains mid x) (at : block_hash_of x.block ≡ hash) (of_age : age.hash ≡ hash) (goes : IsWithout mid age new) where
    other_age : (y : Stored) → block_hash_of y.block ≢ hash → block_hash_of y.block ≢ age.hash
    other_age y other same = other (same ∙ of_age)

    pub one_goes : AreDistinct old → IsSame new (filter (lacks_hash hash) old)
    one_goes distinct =
        let z = before_mark x member at in
        let fewer = count_left hash old z.0 distinct z.1 z.2 in
        let less = goes.count in
        let as_many = marked_all.count in
        record {
          members = λ y. (
            (λ there. let was = (goes.members y).0 there in let other : block_hash_of y.block ≢ hash = (λ same. was.1 (same ∙ sym of_age)) in (left_members hash old y).1 (was_there y was.0 other, other)),
            (λ left. let there = (left_members hash old y).0 left in (goes.members y).1 (is_there y there.0 there.1, other_age y there.1)),
          );
          count = omega (arith, fewer, less, as_many, length-map old (marked_at hash));
        }

    module _ (root : Option Tip) (notes after : Notes) (was : AreNotes root mid notes) (noted : IsNotedAt age.hash false notes after) where
      -- no way leads on by the block that goes
      not_noted : is_noted notes hash ≡ false
      not_noted = one (is_noted notes hash) refl
        where
          one : (t : Bool) → is_noted notes hash ≡ t → is_noted notes hash ≡ false
          one true is = absurd (
              let reached = was.right true x member (ap (is_noted notes) at ∙ is) in
              let z = before_mark x member at in
              let e : false ≡ true = sym reached.unmarked ∙ z.3 in cc
              )
          one false is = is

      apart : (other : List ℕ) → is_noted notes other ≡ true → other ≢ hash
      apart other is same = let e : false ≡ true = sym not_noted ∙ (ap (is_noted notes) (sym same) ∙ is) in cc

      as_it_was : (other : List ℕ) → other ≢ hash → is_noted after other ≡ is_noted notes other
      as_it_was other far = noted.others other (λ same. far (same ∙ of_age))

      far_after : (other : List ℕ) → is_noted after other ≡ true → other ≢ hash
      far_after other is same = let e : false ≡ true = sym noted.here ∙ (ap (is_noted after) (of_age ∙ sym same) ∙ is) in cc

      grown : (y : Block) → HasStep root mid notes y → HasStep root new after y
      grown y step = step_with root mid new notes after y
          (λ p there had follows. let far = apart (block_hash_of p.block) had in (p, (goes.members p).1 (there, other_age p far), refl, as_it_was (block_hash_of p.block) far ∙ had)) step

      shrunk : (y : Block) → HasStep root new after y → HasStep root mid notes y
      shrunk y step = step_with root new mid after notes y
          (λ p there had follows. let far = far_after (block_hash_of p.block) had in (p, ((goes.members p).0 there).0, refl, sym (as_it_was (block_hash_of p.block) far) ∙ had)) step

      agrees : (t : Bool) (y : Stored) → Agrees t (IsReached root mid notes y) → Agrees t (IsReached root new after y)
      agrees true y reached = record { unmarked = reached.unmarked; step = grown y.block reached.step }
      agrees false y never = λ reached. never (record { unmarked = reached.unmarked; step = shrunk y.block reached.step })

      pub notes_left : AreNotes root new after
      notes_left = record {
        named = λ other is.
            let far = far_after other is in
            let p = was.named other (sym (as_it_was other far) ∙ is) in
            (p.0, (goes.members p.0).1 (p.1, other_age p.0 (λ same. far (sym p.2 ∙ same))), p.2);
        right = λ t y there is.
            let there_before = (goes.members y).0 there in
            let far : block_hash_of y.block ≢ hash = λ same. there_before.1 (same ∙ sym of_age) in
            agrees t y (was.right t y there_before.0 (sym (as_it_was (block_hash_of y.block) far) ∙ is));
      }
