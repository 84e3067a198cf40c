-- A loop that looks for the first element for which something is found.
use Rattle.std.proofs.Common.{◌≡◌, ℕ, ◌+◌, ◌<◌, ◌≤◌, List, ◌∷◌, length, get_or, drop, map, Option, Some, None, refl, sym, ap, ◌∙◌}
use Rattle.std.proofs.lemmas.List.{drop_all, drop_more}
use Rattle.std.specs.Prelude.{option_map}
use Rattle.hints.specs.GenesisSpots.{first_found}

module _ {S A B : Type 0} (view : S → A) (f : ℕ → A → Option B) where
  -- what is found from here on is what is found at all
  abbrev pub IsStillFound : List S → ℕ → Type 0
  IsStillFound all i = first_found f i (map view (drop i all)) ≡ first_found f 0 (map view all)

  -- something is found for this one
  pub found_here : (all : List S) (i : ℕ) (d x : S) (b : B) → i < length all → x ≡ get_or all i d → f i (view x) ≡ Some b → IsStillFound all i → first_found f 0 (map view all) ≡ Some b
  found_here all i d x b below is here part =
      let split : drop i all ≡ x ∷ drop (i + 1) all = drop_more all i d below ∙ ap (λ (z : S). z ∷ drop (i + 1) all) (sym is) in
      let next : first_found f i (map view (drop i all)) ≡ Some b = rw (split, here) refl in
      sym part ∙ next

  -- nothing is
  pub not_here : (all : List S) (i : ℕ) (d x : S) → i < length all → x ≡ get_or all i d → f i (view x) ≡ None → IsStillFound all i → IsStillFound all (i + 1)
  not_here all i d x below is here part =
      let split : drop i all ≡ x ∷ drop (i + 1) all = drop_more all i d below ∙ ap (λ (z : S). z ∷ drop (i + 1) all) (sym is) in
      let next : first_found f i (map view (drop i all)) ≡ first_found f (i + 1) (map view (drop (i + 1) all)) = rw (split, here) refl in
      sym next ∙ part

  -- nor for any other
  pub nowhere : (all : List S) (i : ℕ) → length all ≤ i → IsStillFound all i → first_found f 0 (map view all) ≡ None
  nowhere all i past part =
      let next : first_found f i (map view (drop i all)) ≡ None = rw (drop_all i all past) refl in
      sym part ∙ next

-- what was found, as it is seen
pub some_seen : {R B : Type 0} (told : R → B) (found : Option R) (y : R) (seen : Option B) → option_map told found ≡ seen → found ≡ Some y → seen ≡ Some (told y)
some_seen told found y seen is some = sym is ∙ ap (option_map told) some

pub none_seen : {R B : Type 0} (told : R → B) (found : Option R) (seen : Option B) → option_map told found ≡ seen → found ≡ None → seen ≡ None
none_seen told found seen is none = sym is ∙ ap (option_map told) none
