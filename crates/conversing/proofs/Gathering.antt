-- A loop that gathers what a step finds for each element, and stops at the first for which it finds nothing.
use Rattle.std.proofs.Common.{◌≡◌, ℕ, ◌+◌, ◌<◌, ◌≤◌, true, false, nat_le, List, [], ◌∷◌, ◌++◌, length, get_or, drop, map, Option, Some, None, refl, sym, ap, ◌∙◌, append_assoc, append-nil, arith, le-leb}
use Rattle.std.proofs.lemmas.Bool.Decides.{nat_tests}
use Rattle.std.proofs.lemmas.List.{map-append, drop_all, drop_more, length-map}
use Rattle.std.specs.Prelude.{Result, Ok, Err, ok_or}
use Rattle.serde_json.specs.Data.{Data}
use Rattle.serde_json.specs.Find.{as_array}
use Rattle.serde_json.specs.View.{view, items_view}
use Rattle.serde_json.specs.declared.value.Value.{Value}
use Rattle.conversing.specs.declared.call_fault.CallFault.{CallFault}
use Rattle.conversing.specs.declared.call_fault.CallFault.TheVariants as faults
use Rattle.conversing.specs.Steps.{◌>>=◌, each, Gives}
use Rattle.conversing.specs.Params.{list_limit, values_of, if_few}

-- the values of an array
pub values_of-view : (vs : List Value) → values_of (items_view vs) ≡ map view vs
values_of-view [] = refl
values_of-view (v ∷ vs) = ap (λ (ds : List Data). view v ∷ ds) (values_of-view vs)

-- what an answer was, where nothing would have been a fault
pub no_fault : {A : Type 0} (found : Option A) (fault : CallFault) (x : A) → ok_or found fault ≡ Ok x → found ≡ Some x
no_fault {A} None fault x is = absurd (let e : ◌≡◌ {A = Result A CallFault} (Err fault) (Ok x) = is in cc)
no_fault {A} (Some y) fault x is = (let e : ◌≡◌ {A = Result A CallFault} (Ok y) (Ok x) = is in let same : y ≡ x = cc in ap Some same)

-- a fault at one of several is the fault of all
pub fault_of_all : {A B X Y : Type 0} (view : X → A) (view' : Y → B) (found : Option A) (whole : Option B) (fault : CallFault) → Gives view (Err fault) (ok_or found faults.InvalidParams) → (found ≡ None → whole ≡ None) → Gives view' (Err fault) (ok_or whole faults.InvalidParams)
fault_of_all view view' found whole faults.OutOfMemory gives none = tt
fault_of_all view view' None whole fault gives none = rw (none refl) (told gives)
  where
    told : {A B : Type 0} → ◌≡◌ {A = Result A CallFault} (Err faults.InvalidParams) (Err fault) → ◌≡◌ {A = Result B CallFault} (Err faults.InvalidParams) (Err fault)
    told {A} {B} e = let same : faults.InvalidParams ≡ fault = cc in ap (λ (f : CallFault). Err f) same
fault_of_all {A} view view' (Some x) whole fault gives none = absurd (let e : ◌≡◌ {A = Result A CallFault} (Ok x) (Err fault) = gives in cc)

module _ {S A R B : Type 0} (view : S → A) (told : R → B) (f : A → Option B) where
  -- what was found first, and then the rest
  abbrev pub with_front : List B → Option (List B) → Option (List B)
  with_front front None = None
  with_front front (Some rest) = Some (front ++ rest)

  -- what was found and what is still to be looked at make the whole
  abbrev pub IsPartFound : List R → List S → ℕ → Type 0
  IsPartFound found all i = with_front (map told found) (each f (map view (drop i all))) ≡ each f (map view all)

  nothing_in_front : (rest : Option (List B)) → with_front [] rest ≡ rest
  nothing_in_front None = refl
  nothing_in_front (Some rest) = refl

  -- nothing yet
  pub none_found : (found : List R) (all : List S) → found ≡ [] → IsPartFound found all 0
  none_found found all none = rw none (nothing_in_front (each f (map view all)))

  regroup : (front : List B) (y : B) (rest : Option (List B)) → with_front front (rest >>= λ ys. Some (y ∷ ys)) ≡ with_front (front ++ y ∷ []) rest
  regroup front y None = refl
  regroup front y (Some rest) = ap Some (sym (append_assoc front (y ∷ []) rest))

  -- one more
  pub one_found : (found new : List R) (all : List S) (i : ℕ) (d x : S) (y : R) → i < length all → x ≡ get_or all i d → f (view x) ≡ Some (told y) → new ≡ found ++ y ∷ []
      → IsPartFound found all i → IsPartFound new all (i + 1)
  one_found found new all i d x y below is here pushed part =
      let rest = each f (map view (drop (i + 1) all)) in
      let front = map told found in
      let split : drop i all ≡ x ∷ drop (i + 1) all = drop_more all i d below ∙ ap (λ (z : S). z ∷ drop (i + 1) all) (sym is) in
      let next : each f (map view (drop i all)) ≡ (rest >>= λ ys. Some (told y ∷ ys)) = rw (split, here) refl in
      let whole : map told new ≡ front ++ told y ∷ [] = ap (map told) pushed ∙ map-append told found (y ∷ []) in
      rw whole (sym (regroup front (told y) rest) ∙ sym (ap (with_front front) next) ∙ part)

  -- nothing is found for this one, and so for the whole
  pub stops : (found : List R) (all : List S) (i : ℕ) (d x : S) → i < length all → x ≡ get_or all i d → f (view x) ≡ None → IsPartFound found all i → each f (map view all) ≡ None
  stops found all i d x below is here part =
      let split : drop i all ≡ x ∷ drop (i + 1) all = drop_more all i d below ∙ ap (λ (z : S). z ∷ drop (i + 1) all) (sym is) in
      let next : each f (map view (drop i all)) ≡ None = rw (split, here) refl in
      sym part ∙ ap (with_front (map told found)) next

  -- something is found for all
  pub ends : (found : List R) (all : List S) (i : ℕ) → length all ≤ i → IsPartFound found all i → each f (map view all) ≡ Some (map told found)
  ends found all i past part =
      let next : each f (map view (drop i all)) ≡ Some [] = rw (drop_all i all past) refl in
      sym part ∙ ap (with_front (map told found)) next ∙ ap Some (append-nil (map told found))

-- the values of an array that has few, and that of one that has too many
pub few_listed : (found : Option Data) (value : Data) (vs : List Value) → found ≡ Some value → as_array value ≡ Some (items_view vs) → length vs ≤ list_limit → (found >>= as_array >>= λ items. if_few (values_of items)) ≡ Some (map view vs)
few_listed found value vs is array few =
    let fits : nat_le (length (map view vs)) list_limit ≡ true = le-leb (length (map view vs)) list_limit (omega (arith, length-map vs view)) in
    rw (is, array, values_of-view vs, fits) refl

pub many_listed : (found : Option Data) (value : Data) (vs : List Value) → found ≡ Some value → as_array value ≡ Some (items_view vs) → list_limit < length vs → (found >>= as_array >>= λ items. if_few (values_of items)) ≡ None
many_listed found value vs is array many =
    let over : nat_le (length (map view vs)) list_limit ≡ false = lt-leb-false (length (map view vs)) list_limit (omega (arith, length-map vs view)) in
    rw (is, array, values_of-view vs, over) refl
  where
    lt-leb-false : (a b : ℕ) → b < a → nat_le a b ≡ false
    lt-leb-false a b h = grind (arith, nat_tests)
