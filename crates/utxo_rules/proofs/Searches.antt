-- What sorting keeps of a list of hashes, and what a binary search finds there.
use Rattle.std.proofs.Common.{◌≡◌, ℕ, Bool, true, false, ◌&&◌, List, [], ◌∷◌, length, get_or, Result, Ok, Err, sym, ap, ap₂, refl, ◌∙◌, inl, inr, arith}
use Rattle.std.specs.Prelude.{bytes_eq}
use Rattle.std.specs.Result.{is_ok}
use Rattle.std.specs.FinMap.{nat_cmp-IsAntisymmetric, slice_cmp-IsAntisymmetric}
use Rattle.std.specs.List.Sorted.{IsPermutation, IsSorted, IsSearchInRange, IsBinarySearchResult}
use Rattle.std.specs.Ordering.{nat_cmp}
use Rattle.std.specs.declared.cmp.Ordering.{Ordering}
use Rattle.std.specs.declared.cmp.Ordering.TheVariants.{Less, Equal, Greater}
use Rattle.std.specs.Cmp.{tied_itself}
use Rattle.std.specs.Cmp.Lexicographic.{slice_cmp}
use Rattle.std.proofs.lemmas.Bool.{false_from_ne_true, cases_lt}
use Rattle.std.proofs.lemmas.Cmp.{nat_list_cmp_total}
use Rattle.std.proofs.lemmas.List.Folds.{list_any_at, list_any_none}
use Rattle.std.proofs.lemmas.List.Sorted.{list_any-IsPermutation, searchable_from_sorted}
use Rattle.std.proofs.lemmas.Slice.Eq.{bytes_eq-Decides}
use Rattle.model.specs.Rules.{is_among, are_among}

-- a list in another order has the same hashes
pub same_hashes : (before after : List (List ℕ)) (hash : List ℕ) → IsPermutation before after → is_among after hash ≡ is_among before hash
same_hashes before after hash moved = sym (list_any-IsPermutation (λ (b : List ℕ). bytes_eq b hash) before after moved)

-- bytes that tie are the same, and others differ
tied : (a b : List ℕ) → slice_cmp nat_cmp a b ≡ Equal → bytes_eq a b ≡ true
tied a b equal = (bytes_eq-Decides a b).1 (slice_cmp-IsAntisymmetric nat_cmp-IsAntisymmetric a b equal)

apart : (a b : List ℕ) (order : Ordering) → slice_cmp nat_cmp a b ≡ order → (order ≡ Equal → ⊥) → bytes_eq a b ≡ false
apart a b order is not_equal =
    false_from_ne_true (bytes_eq a b) (λ same. not_equal (sym is ∙ ap (slice_cmp nat_cmp a) (sym ((bytes_eq-Decides a b).0 same)) ∙ tied_itself nat_list_cmp_total a))

pub found : (hashes : List (List ℕ)) (hash : List ℕ) (r : Result ℕ ℕ) → IsSorted (slice_cmp nat_cmp) hashes → IsSearchInRange r (length hashes)
    → IsBinarySearchResult (λ y. slice_cmp nat_cmp y hash) hashes r → is_ok r ≡ is_among hashes hash
found hashes hash (Ok i) rise lt at = sym (list_any_at (λ (b : List ℕ). bytes_eq b hash) hashes i hash lt (tied (get_or hashes i hash) hash (at hash)))
found hashes hash (Err i) rise le parts =
    let split = parts (searchable_from_sorted nat_list_cmp_total (λ (b : List ℕ). b) hashes hash rise) in
    sym (list_any_none (λ (b : List ℕ). bytes_eq b hash) hashes (λ k d lt. elim (cases_lt k i) [
      | inl before ↦ apart (get_or hashes k d) hash Less (split.0 k d (omega arith) before) (λ e. absurd cc)
      | inr after ↦ apart (get_or hashes k d) hash Greater (split.1 k d after lt) (λ e. absurd cc)
    ]))

-- lists that have the same hashes have them of each list
pub same_among : (some a b : List (List ℕ)) → ((hash : List ℕ) → is_among a hash ≡ is_among b hash) → are_among some a ≡ are_among some b
same_among [] a b same = refl
same_among (hash ∷ hashes) a b same = ap₂ (λ (x y : Bool). x && y) (same hash) (same_among hashes a b same)
