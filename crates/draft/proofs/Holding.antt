-- Parts with keys, of which one more is added.
use Rattle.std.proofs.Common.{◌≡◌, ℕ, ◌<◌, ◌≤◌, Bool, true, false, cond, ◌&&◌, ◌||◌, List, [], ◌∷◌, ◌++◌, Some, None, map, refl, sym, ap, ◌∙◌, arith}
use Rattle.std.specs.Prelude.{bytes_eq, ◌==◌, nat_lt, nat_le, IsSome}
use Rattle.std.specs.List.{list_any, AllZip}
use Rattle.std.specs.BTreeSet.{contains}
use Rattle.std.specs.Ordering.{is_eq, nat_cmp, ordering_then}
use Rattle.std.specs.Cmp.{tied_then}
use Rattle.std.specs.Cmp.Lexicographic.{slice_cmp}
use Rattle.std.specs.declared.cmp.Ordering.{Ordering}
use Rattle.std.specs.declared.cmp.Ordering.TheVariants.{Less, Equal, Greater}
use Rattle.std.proofs.lemmas.Bool.Decides.{nat_tests}
use Rattle.std.proofs.lemmas.List.{map-append}
use Rattle.std.proofs.lemmas.List.Folds.{list_any-append}
use Rattle.std.proofs.lemmas.Map.Text.{is_eq-slice_cmp}
use Rattle.byte_keys.proofs.ForCallers.{bytes_from, bytes_self}
use Rattle.draft.specs.declared.keyed.Keyed.{Keyed}
use Rattle.draft.specs.Draft.{Draft, unless}
use Rattle.draft.specs.View.{Holds}

-- ---- tests

either : (a b : Bool) → a || b ≡ b || (a || false)
either true true = refl
either true false = refl
either false true = refl
either false false = refl

pub left_true : (a b : Bool) → a ≡ true → a || b ≡ true
left_true a b h = rw h refl

pub right_true : (a b : Bool) → b ≡ true → a || b ≡ true
right_true true b h = refl
right_true false b h = h

pub both_false : (a b : Bool) → a ≡ false → b ≡ false → a || b ≡ false
both_false a b h g = rw (h, g) refl

pub below_false : (a b : ℕ) → b ≤ a → nat_lt a b ≡ false
below_false a b h = grind (arith, nat_tests)

pub at_most_false : (a b : ℕ) → b < a → nat_le a b ≡ false
at_most_false a b h = grind (arith, nat_tests)

pub at_most_true : (a b : ℕ) → a ≤ b → nat_le a b ≡ true
at_most_true a b h = grind (arith, nat_tests)

pub ruled_out : (b : Bool) (d : Draft) → b ≡ true → unless b d ≡ None
ruled_out b d h = rw h refl

pub let_in : (b : Bool) (d : Draft) → b ≡ false → unless b d ≡ Some d
let_in b d h = rw h refl

pub some_in : (b : Bool) (d : Draft) → b ≡ false → IsSome (unless b d)
some_in b d h = rw h refl

-- ---- ties

pub bytes_tie : (a b : List ℕ) → is_eq (slice_cmp nat_cmp a b) ≡ bytes_eq a b
bytes_tie a b = is_eq-slice_cmp a b

tests : (below same : Bool) → (below ≡ true → same ≡ false) → is_eq (cond below Less (cond same Equal Greater)) ≡ same
tests true same apart = sym (apart refl)
tests false true apart = refl
tests false false apart = refl

pub same_tests : (a b : Bool) → (a ≡ true → b ≡ true) → (b ≡ true → a ≡ true) → a ≡ b
same_tests true b to from = sym (to refl)
same_tests false true to from = from refl
same_tests false false to from = refl

one_way : (a b : List ℕ) → bytes_eq a b ≡ true → bytes_eq b a ≡ true
one_way a b h = ap (bytes_eq b) (bytes_from a b h) ∙ bytes_self b

pub bytes_swap : (a b : List ℕ) → bytes_eq a b ≡ bytes_eq b a
bytes_swap a b = same_tests (bytes_eq a b) (bytes_eq b a) (one_way a b) (one_way b a)

nat_tie : (a b : ℕ) → is_eq (nat_cmp a b) ≡ (a == b)
nat_tie a b = tests (nat_lt a b) (a == b) (λ h. grind (arith, nat_tests))

pub input_tie : (a b : List ℕ) (i j : ℕ) → is_eq (ordering_then (slice_cmp nat_cmp a b) (nat_cmp i j)) ≡ bytes_eq a b && (i == j)
input_tie a b i j = sym (tied_then (slice_cmp nat_cmp a b) (nat_cmp i j)) ∙ rw (bytes_tie a b, nat_tie i j) refl

pub named_tie : (a b c d : List ℕ) → is_eq (ordering_then (slice_cmp nat_cmp a b) (slice_cmp nat_cmp c d)) ≡ bytes_eq b a && bytes_eq d c
named_tie a b c d = sym (tied_then (slice_cmp nat_cmp a b) (slice_cmp nat_cmp c d)) ∙ rw (bytes_tie a b, bytes_tie c d, bytes_swap a b, bytes_swap c d) refl

-- ---- parts

pub zip_more : {A B : Type 0} (R : A → B → Type 0) (xs : List A) (ys : List B) (x : A) (y : B) → AllZip R xs ys → R x y → AllZip R (xs ++ x ∷ []) (ys ++ y ∷ [])
zip_more R [] [] x y all one = (one, tt)
zip_more R [] (b ∷ ys) x y all one = absurd all
zip_more R (a ∷ xs) [] x y all one = absurd all
zip_more R (a ∷ xs) (b ∷ ys) x y all one = (all.0, zip_more R xs ys x y all.1 one)

module _ {K T X : Type 0} (cmp : K → K → Ordering) (view : T → X) (same : K → X → Bool) where
  -- what is held
  abbrev pub IsHeld : Keyed K T → List X → Type 0
  IsHeld code parts = Holds cmp view (λ q xs. list_any (same q) xs) code parts

  -- one more with its key
  pub held_more : (old new : Keyed K T) (parts : List X) (key : K) (item : T) → IsHeld old parts → new.items.items ≡ old.items.items ++ item ∷ []
      → ((q : K) → contains cmp new.keys q ≡ is_eq (cmp key q) || contains cmp old.keys q) → ((q : K) → is_eq (cmp key q) ≡ same q (view item))
      → IsHeld new (parts ++ view item ∷ [])
  held_more old new parts key item held items keys ties = record {
    items = ap (λ (xs : List X). xs ++ view item ∷ []) held.items ∙ sym (map-append view old.items.items (item ∷ [])) ∙ sym (ap (map view) items);
    keys = λ q. keys q ∙ rw (ties q, held.keys q) (either (same q (view item)) (list_any (same q) parts)) ∙ sym (list_any-append (same q) parts (view item ∷ []));
  }

  -- none more
  pub held_same : (old new : Keyed K T) (parts : List X) → IsHeld old parts → new.items.items ≡ old.items.items
      → ((q : K) → contains cmp new.keys q ≡ contains cmp old.keys q) → IsHeld new parts
  held_same old new parts held items keys = record {
    items = held.items ∙ sym (ap (map view) items);
    keys = λ q. keys q ∙ held.keys q;
  }
