-- Lists that a loop makes, one value for each element.
use Rattle.std.proofs.Common.{◌≡◌, ℕ, ◌+◌, ◌<◌, ◌≤◌, List, [], ◌∷◌, ◌++◌, length, get_or, drop, map, Vec, Global, sym, ap, ◌∙◌, append_assoc, append-nil}
use Rattle.std.proofs.lemmas.List.{map-append, drop_all, drop_more}
use Rattle.serde_json.specs.Data.{Data, array}
use Rattle.serde_json.specs.View.{view, items_of}
use Rattle.serde_json.specs.declared.value.Value.{Value, Array}
use Rattle.serde_json.proofs.Views.{view-Array}
use Rattle.describing.specs.Parts.{json_list}

module _ {A : Type 0} (f : A → Data) (all : List A) where
  pub one_listed : (list new : List Value) (i : ℕ) (x : A) (v : Value) → i < length all → x ≡ get_or all i x → new ≡ list ++ v ∷ [] → view v ≡ f x
      → map view list ++ map f (drop i all) ≡ map f all → map view new ++ map f (drop (i + 1) all) ≡ map f all
  one_listed list new i x v lt is pushed seen part =
      let rest = map f (drop (i + 1) all) in
      let here : map f (drop i all) ≡ f x ∷ rest = ap (map f) (drop_more all i x lt) ∙ ap (λ (y : A). f y ∷ rest) (sym is) in
      let grown : map view new ≡ map view list ++ f x ∷ [] = ap (map view) pushed ∙ map-append view list (v ∷ []) ∙ ap (λ (d : Data). map view list ++ d ∷ []) seen in
      ap (λ (ds : List Data). ds ++ rest) grown ∙ append_assoc (map view list) (f x ∷ []) rest ∙ ap (λ (ds : List Data). map view list ++ ds) (sym here) ∙ part

  pub all_listed : (list : Vec Value Global) (i : ℕ) → length all ≤ i → map view list.items ++ map f (drop i all) ≡ map f all → view (Array list) ≡ json_list f all
  all_listed list i le part =
      let whole : map view list.items ≡ map f all = sym (append-nil (map view list.items)) ∙ ap (λ (ys : List A). map view list.items ++ map f ys) (sym (drop_all i all le)) ∙ part in
      view-Array list ∙ ap (λ (ds : List Data). array (items_of ds)) whole
