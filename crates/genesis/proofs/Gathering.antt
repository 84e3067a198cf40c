-- A loop that gathers what a step finds for each element, and stops at the first for which it finds nothing.
use Rattle.std.proofs.Common.{◌≡◌, ℕ, ◌+◌, ◌<◌, ◌≤◌, List, [], ◌∷◌, ◌++◌, length, get_or, drop, map, Option, Some, None, refl, sym, ap, ◌∙◌, append_assoc, append-nil}
use Rattle.std.proofs.lemmas.List.{map-append, drop_all, drop_more}
use Rattle.std.specs.Prelude.{Result, Ok, Err, ok_or, option_map}
use Rattle.genesis.specs.declared.genesis_fault.GenesisFault.{GenesisFault}
use Rattle.genesis.specs.declared.genesis_fault.GenesisFault.TheVariants as faults
use Rattle.genesis.specs.Steps.{◌>>=◌, each, Gives}

-- what a step found that was taken for this
pub some_found : {R B : Type 0} (told : R → B) (found : Option R) (y : R) (fault : GenesisFault) (seen : Option B) → option_map told found ≡ seen → Ok y ≡ ok_or found fault → seen ≡ Some (told y)
some_found told None y fault seen is taken = absurd (let e : Ok y ≡ Err fault = taken in cc)
some_found told (Some x) y fault seen is taken = sym is ∙ (let e : Ok x ≡ Ok y = sym taken in let same : x ≡ y = cc in ap (λ z. Some (told z)) same)

-- nothing was found
pub none_seen : {R B : Type 0} (told : R → B) (found : Option R) (seen : Option B) → option_map told found ≡ seen → found ≡ None → seen ≡ None
none_seen told found seen is none = sym is ∙ ap (option_map told) none

-- a fault is told where there is nothing
gives_fault : {X Y : Type 0} (view : X → Y) (fault : GenesisFault) → Gives view (Err fault) (Err fault)
gives_fault view faults.OutOfMemory = tt
gives_fault view fault = refl

pub fault_told : {X Y : Type 0} (view : X → Y) (fault : GenesisFault) (result : Result X GenesisFault) (answer : Option Y) → result ≡ Err fault → answer ≡ None → Gives view result (ok_or answer fault)
fault_told view fault result answer is none = rw (is, none) (gives_fault view fault)

module _ {S A R B : Type 0} (view : S → A) (told : R → B) (f : A → Option B) where
  -- what was found first, and then the rest
  abbrev pub with_front : List B → Option (List B) → Option (List B)
  with_front front None = None
  with_front front (Some rest) = Some (front ++ rest)

  -- what was found and what is still to be looked at make the whole
  abbrev pub IsPartFound : List R → List S → ℕ → Type 0
  IsPartFound found all i = with_front (map told found) (each f (map view (drop i all))) ≡ each f (map view all)

  nothing_in_front : (rest : Option (List B)) → with_front [] rest ≡ rest
  nothing_in_front None = refl
  nothing_in_front (Some rest) = refl

  -- nothing yet
  pub none_found : (found : List R) (all : List S) → found ≡ [] → IsPartFound found all 0
  none_found found all none = rw none (nothing_in_front (each f (map view all)))

  regroup : (front : List B) (y : B) (rest : Option (List B)) → with_front front (rest >>= λ ys. Some (y ∷ ys)) ≡ with_front (front ++ y ∷ []) rest
  regroup front y None = refl
  regroup front y (Some rest) = ap Some (sym (append_assoc front (y ∷ []) rest))

  -- one more
  pub one_found : (found new : List R) (all : List S) (i : ℕ) (d x : S) (y : R) → i < length all → x ≡ get_or all i d → f (view x) ≡ Some (told y) → new ≡ found ++ y ∷ []
      → IsPartFound found all i → IsPartFound new all (i + 1)
  one_found found new all i d x y below is here pushed part =
      let rest = each f (map view (drop (i + 1) all)) in
      let front = map told found in
      let split : drop i all ≡ x ∷ drop (i + 1) all = drop_more all i d below ∙ ap (λ (z : S). z ∷ drop (i + 1) all) (sym is) in
      let next : each f (map view (drop i all)) ≡ (rest >>= λ ys. Some (told y ∷ ys)) = rw (split, here) refl in
      let whole : map told new ≡ front ++ told y ∷ [] = ap (map told) pushed ∙ map-append told found (y ∷ []) in
      rw whole (sym (regroup front (told y) rest) ∙ sym (ap (with_front front) next) ∙ part)

  -- nothing is found for this one, and so for the whole
  pub stops : (found : List R) (all : List S) (i : ℕ) (d x : S) → i < length all → x ≡ get_or all i d → f (view x) ≡ None → IsPartFound found all i → each f (map view all) ≡ None
  stops found all i d x below is here part =
      let split : drop i all ≡ x ∷ drop (i + 1) all = drop_more all i d below ∙ ap (λ (z : S). z ∷ drop (i + 1) all) (sym is) in
      let next : each f (map view (drop i all)) ≡ None = rw (split, here) refl in
      sym part ∙ ap (with_front (map told found)) next

  -- something is found for all
  pub ends : (found : List R) (all : List S) (i : ℕ) → length all ≤ i → IsPartFound found all i → each f (map view all) ≡ Some (map told found)
  ends found all i past part =
      let next : each f (map view (drop i all)) ≡ Some [] = rw (drop_all i all past) refl in
      sym part ∙ ap (with_front (map told found)) next ∙ ap Some (append-nil (map told found))
