-- Members and entries of which there are more on one side are not the same.
use Rattle.std.proofs.Common.{◌≡◌, suc, false, ◌&&◌, Bool, true, List, [], ◌∷◌, length, refl, ap}
use Rattle.cbor.specs.declared.item.Item.{Item}
use Rattle.cbor.specs.declared.item.Entry.{Entry}
use Rattle.cbor.specs.Tree.{item_of, members_of, entries_of}
use Rattle.cbor.specs.Same.{item_eq, items_eq, pairs_eq, same_entry}

and_false : (a b : Bool) → false ≡ b → false ≡ a && b
and_false true b h = h
and_false false b h = refl

pub other_count : (is js : List Item) → (length is ≡ length js → ⊥) → false ≡ items_eq (members_of is) (members_of js)
other_count [] [] differ = absurd (differ refl)
other_count [] (j ∷ js) differ = refl
other_count (i ∷ is) [] differ = refl
other_count (i ∷ is) (j ∷ js) differ =
    and_false (item_eq (item_of i) (item_of j)) (items_eq (members_of is) (members_of js)) (other_count is js (λ e. differ (ap suc e)))

pub other_count_of_entries : (es fs : List Entry) → (length es ≡ length fs → ⊥) → false ≡ pairs_eq (entries_of es) (entries_of fs)
other_count_of_entries [] [] differ = absurd (differ refl)
other_count_of_entries [] (f ∷ fs) differ = refl
other_count_of_entries (e ∷ es) [] differ = refl
other_count_of_entries (e ∷ es) (f ∷ fs) differ =
    and_false (same_entry e f) (pairs_eq (entries_of es) (entries_of fs)) (other_count_of_entries es fs (λ e. differ (ap suc e)))
