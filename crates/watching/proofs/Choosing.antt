-- How a choice of outputs is made and asked.
use Rattle.std.proofs.Common.{◌≡◌, ℕ, ◌+◌, ◌<◌, ◌≤◌, Bool, true, false, ◌||◌, List, [], ◌∷◌, length, drop, get_or, map, refl, sym, ap, ◌∙◌}
use Rattle.std.specs.List.{list_any}
use Rattle.std.specs.Ordering.{is_eq, match_ordering}
use Rattle.std.specs.declared.cmp.Ordering.TheVariants.{Less, Equal, Greater}
use Rattle.std.specs.BTreeSet.{insert_key}
use Rattle.std.specs.FinSet as set
use Rattle.std.proofs.lemmas.List.{drop_all}
use Rattle.cbor.proofs.ForCallers.{drop_here}
use Rattle.watching.specs.Owned.{owner_cmp}
use Rattle.watching.proofs.Owning.{owners_total, owners_same}

-- ---- one after the other, until one passes

module _ {A : Type 0} (test : A → Bool) (xs : List A) where
  -- none of those that were looked at passes
  abbrev pub ArePartSeen : ℕ → Type 0
  ArePartSeen i = list_any test (drop i xs) ≡ list_any test xs

  pub one_seen : (i : ℕ) (x : A) → i < length xs → x ≡ get_or xs i x → test x ≡ false → ArePartSeen i → ArePartSeen (i + 1)
  one_seen i x lt is not part =
      ap (λ (b : Bool). b || list_any test (drop (i + 1) xs)) (sym not) ∙ ap (list_any test) (sym (drop_here xs i x lt is)) ∙ part

  pub one_passes : (i : ℕ) (x : A) → i < length xs → x ≡ get_or xs i x → test x ≡ true → ArePartSeen i → true ≡ list_any test xs
  one_passes i x lt is passes part =
      ap (λ (b : Bool). b || list_any test (drop (i + 1) xs)) (sym passes) ∙ ap (list_any test) (sym (drop_here xs i x lt is)) ∙ part

  pub none_passes : (i : ℕ) → length xs ≤ i → ArePartSeen i → false ≡ list_any test xs
  none_passes i le part = ap (list_any test) (sym (drop_all i xs le)) ∙ part

pub any_of_map : {A B : Type 0} (test : B → Bool) (f : A → B) (xs : List A) → list_any (λ x. test (f x)) xs ≡ list_any test (map f xs)
any_of_map test f [] = refl
any_of_map test f (x ∷ xs) = ap (λ (b : Bool). test (f x) || b) (any_of_map test f xs)

-- ---- sets of byte strings

-- one of these has these bytes
abbrev pub has : {K : Type 0} → (K → List ℕ) → List K → List ℕ → Bool
has bytes ks q = list_any (λ k. is_eq (owner_cmp q (bytes k))) ks

or_swap : (a b c : Bool) → (a || (b || c)) ≡ (b || (a || c))
or_swap true true c = refl
or_swap true false c = refl
or_swap false b c = refl

or_again : (a b : Bool) → (a || b) ≡ (a || (a || b))
or_again true b = refl
or_again false b = refl

or_moves : (a b c : Bool) → ((a || b) || c) ≡ (b || (a || c))
or_moves true true c = refl
or_moves true false c = refl
or_moves false b c = refl

or_nothing : (a : Bool) → a ≡ (a || false)
or_nothing true = refl
or_nothing false = refl

inserted_has : {K : Type 0} (bytes : K → List ℕ) (k : K) (ks : List K) (q : List ℕ) → has bytes (insert_key (λ a b. owner_cmp (bytes a) (bytes b)) ks k) q ≡ (is_eq (owner_cmp q (bytes k)) || has bytes ks q)
inserted_has bytes k [] q = refl
inserted_has {K} bytes k (x ∷ xs) q =
    let new = is_eq (owner_cmp q (bytes k)) in
    let first = is_eq (owner_cmp q (bytes x)) in
    let rest = has bytes xs q in
    let more = insert_key (λ (a b : K). owner_cmp (bytes a) (bytes b)) xs k in
    elim (owner_cmp (bytes k) (bytes x)) as (λ r. owner_cmp (bytes k) (bytes x) ≡ r → has bytes (match_ordering r (k ∷ x ∷ xs) (x ∷ xs) (x ∷ more)) q ≡ (new || (first || rest))) [
      | Less ↦ λ _. refl
      | Equal ↦ λ tie.
          let same : new ≡ first = ap (λ (b : List ℕ). is_eq (owner_cmp q b)) (owners_same (bytes k) (bytes x) tie) in
          or_again first rest ∙ ap (λ (b : Bool). b || (first || rest)) (sym same)
      | Greater ↦ λ _. ap (λ (b : Bool). first || b) (inserted_has bytes k xs q) ∙ or_swap first new rest
    ] refl

module _ {K A : Type 0} (bytes : K → List ℕ) (f : A → List ℕ) (xs : List A) where
  -- with those that are still to be put in it has all
  abbrev pub ArePartHeld : List K → ℕ → Type 0
  ArePartHeld ks i = (q : List ℕ) → (has bytes ks q || has f (drop i xs) q) ≡ has f xs q

  pub none_held : (ks : List K) → ks ≡ [] → ArePartHeld ks 0
  none_held ks none q = ap (λ (l : List K). has bytes l q || has f xs q) none

  pub one_held : (ks new : List K) (i : ℕ) (k : K) (x : A) → i < length xs → x ≡ get_or xs i x → bytes k ≡ f x → new ≡ insert_key (λ a b. owner_cmp (bytes a) (bytes b)) ks k → ArePartHeld ks i → ArePartHeld new (i + 1)
  one_held ks new i k x lt at same is part q =
      let rest = has f (drop (i + 1) xs) q in
      ap (λ (l : List K). has bytes l q || rest) is
      ∙ ap (λ (b : Bool). b || rest) (inserted_has bytes k ks q)
      ∙ ap (λ (b : List ℕ). (is_eq (owner_cmp q b) || has bytes ks q) || rest) same
      ∙ or_moves (is_eq (owner_cmp q (f x))) (has bytes ks q) rest
      ∙ ap (λ (l : List A). has bytes ks q || has f l q) (sym (drop_here xs i x lt at))
      ∙ part q

  pub all_held : (ks : List K) (i : ℕ) → length xs ≤ i → ArePartHeld ks i → (q : List ℕ) → has bytes ks q ≡ has f xs q
  all_held ks i le part q = or_nothing (has bytes ks q) ∙ ap (λ (l : List A). has bytes ks q || has f l q) (sym (drop_all i xs le)) ∙ part q

-- what stands in the set of these
pub set_has : (bs : List (List ℕ)) (q : List ℕ) → set.contains (set.from_list {R = owner_cmp} bs) q ≡ has (λ b. b) bs q
set_has bs q = set.contains-from_list owners_total bs q

pub map_has : {A : Type 0} (f : A → List ℕ) (xs : List A) (q : List ℕ) → has f xs q ≡ set.contains (set.from_list {R = owner_cmp} (map f xs)) q
map_has f xs q = any_of_map (λ (b : List ℕ). is_eq (owner_cmp q b)) f xs ∙ sym (set_has (map f xs) q)

-- sets that answer alike are the same
pub same_choice : (xs ys : List (List ℕ)) → ((q : List ℕ) → has (λ b. b) xs q ≡ has (λ b. b) ys q) → set.from_list {R = owner_cmp} xs ≡ set.from_list ys
same_choice xs ys same = set.same_set owners_total owners_same (set.from_list xs) (set.from_list ys) (λ q. set_has xs q ∙ same q ∙ sym (set_has ys q))
