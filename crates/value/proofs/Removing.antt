-- Maps whose keys are read as bytes: away from an insertion, after a removal, and what holds of each value.
use Rattle.std.proofs.Common.{◌≡◌, ℕ, Bool, true, false, cond, List, [], ◌∷◌, Option, Some, None, refl, sym, ◌∙◌, ap, subst}
use Rattle.std.specs.Prelude.{bytes_eq, IfSome}
use Rattle.std.specs.List.{AllByRecursion}
use Rattle.std.specs.List.Sorted.{IsStrictlySortedBy}
use Rattle.std.specs.Map.{lookup, keys_of, values_of, remove_entry}
use Rattle.std.specs.BTreeMap.{insert_entry}
use Rattle.std.specs.Ordering.{is_eq, nat_cmp}
use Rattle.std.specs.Cmp.Lexicographic.{slice_cmp}
use Rattle.std.specs.declared.cmp.Ordering.TheVariants.{Less}
use Rattle.std.proofs.lemmas.Map.Keys.{sorted_head, sorted_tail}
use Rattle.std.proofs.lemmas.Map.Text.{is_eq-slice_cmp}
use Rattle.byte_keys.proofs.ForCallers.{has_bytes, by_bytes, bytes_from, same_from, same_to, swapped, lookup_insert}

nothing : {X : Type 0} (b : Bool) (o : Option X) → o ≡ None → o ≡ cond b None o
nothing true o none = none
nothing false o none = refl

gone : {X : Type 0} (b : Bool) (v : X) (later : Option X) → (b ≡ true → later ≡ None) → later ≡ cond b None (cond b (Some v) later)
gone true v later none = none refl
gone false v later none = refl

module _ {K X : Type 0} (f : K → List ℕ) where
  -- an insertion changes nothing at other bytes
  pub insert_apart : (q bytes : List ℕ) (es : List (K × X)) (k : K) (v : X) → f k ≡ bytes → bytes_eq q bytes ≡ false
      → lookup (has_bytes f q) (insert_entry (by_bytes f) es k v) ≡ lookup (has_bytes f q) es
  insert_apart q bytes es k v key apart =
      let no : has_bytes f q k ≡ false = is_eq-slice_cmp q (f k) ∙ ap (bytes_eq q) key ∙ apart in
      rw (lookup_insert f q es k v, no) refl

  -- no later key has the bytes of the first
  pub no_later : (k : K) (q : List ℕ) (es : List (K × X)) → f k ≡ q → AllByRecursion (λ y. by_bytes f k y ≡ Less) (keys_of es) → lookup (has_bytes f q) es ≡ None
  no_later k q [] is less = refl
  no_later k q (e ∷ es) is less =
      let apart : has_bytes f q e.0 ≡ false = ap is_eq (ap (λ (b : List ℕ). slice_cmp nat_cmp b (f e.0)) (sym is) ∙ less.0) in
      rw apart (no_later k q es is less.1)

  remove_step : (q bytes : List ℕ) (e : K × X) (es rest : List (K × X)) (b : Bool) → b ≡ has_bytes f bytes e.0 → IsStrictlySortedBy (by_bytes f) (keys_of (e ∷ es))
      → lookup (has_bytes f q) rest ≡ cond (bytes_eq q bytes) None (lookup (has_bytes f q) es)
      → lookup (has_bytes f q) (cond b es (e ∷ rest)) ≡ cond (bytes_eq q bytes) None (lookup (has_bytes f q) (e ∷ es))
  remove_step q bytes e es rest true is sorted onward =
      let same : f e.0 ≡ bytes = sym (same_from bytes (f e.0) (sym is)) in
      let tests : has_bytes f q e.0 ≡ bytes_eq q bytes = is_eq-slice_cmp q (f e.0) ∙ ap (bytes_eq q) same in
      rw tests (gone (bytes_eq q bytes) e.1 (lookup (has_bytes f q) es) (λ h. no_later e.0 q es (same ∙ sym (bytes_from q bytes h)) (sorted_head (by_bytes f) e.0 (keys_of es) sorted)))
  remove_step q bytes e es rest false is sorted onward =
      let apart : bytes_eq q bytes ≡ true → has_bytes f q e.0 ≡ true → ⊥ =
      λ here there. let yes : has_bytes f bytes e.0 ≡ true = subst (λ (b : List ℕ). has_bytes f b e.0 ≡ true) (bytes_from q bytes here) there in cc in
      rw onward (swapped (bytes_eq q bytes) (has_bytes f q e.0) (Some e.1) None (lookup (has_bytes f q) es) apart)

  -- what a map has at some bytes after a removal
  pub lookup_removed : (q bytes : List ℕ) (es : List (K × X)) → IsStrictlySortedBy (by_bytes f) (keys_of es)
      → lookup (has_bytes f q) (remove_entry (has_bytes f bytes) es) ≡ cond (bytes_eq q bytes) None (lookup (has_bytes f q) es)
  lookup_removed q bytes [] sorted = nothing (bytes_eq q bytes) None refl
  lookup_removed q bytes (e ∷ es) sorted = remove_step q bytes e es (remove_entry (has_bytes f bytes) es) (has_bytes f bytes e.0) refl sorted (lookup_removed q bytes es (sorted_tail (by_bytes f) e.0 (keys_of es) sorted))

  module _ (P : X → Type 0) where
    tail_found : (b : Bool) (x : X) (o : Option X) → (b ≡ true → o ≡ None) → IfSome (cond b (Some x) o) P → IfSome o P
    tail_found true x o none h = subst (λ (m : Option X). IfSome m P) (sym (none refl)) tt
    tail_found false x o none h = h

    -- what holds of what is found at any bytes holds of each value
    pub all_from_found : (es : List (K × X)) → IsStrictlySortedBy (by_bytes f) (keys_of es) → ((q : List ℕ) → IfSome (lookup (has_bytes f q) es) P) → AllByRecursion P (values_of es)
    all_from_found [] sorted found = tt
    all_from_found (e ∷ es) sorted found =
        let own : has_bytes f (f e.0) e.0 ≡ true = same_to (f e.0) (f e.0) refl in
        let here : IfSome (cond true (Some e.1) (lookup (has_bytes f (f e.0)) es)) P = subst (λ (b : Bool). IfSome (cond b (Some e.1) (lookup (has_bytes f (f e.0)) es)) P) own (found (f e.0)) in
        let later = sorted_head (by_bytes f) e.0 (keys_of es) sorted in (
          here,
          all_from_found es (sorted_tail (by_bytes f) e.0 (keys_of es) sorted)
              (λ q. tail_found (has_bytes f q e.0) e.1 (lookup (has_bytes f q) es) (λ is. no_later e.0 q es (sym (same_from q (f e.0) is)) later) (found q)),
        )
