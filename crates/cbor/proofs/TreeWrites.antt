-- What members and entries consist of, as a loop that writes them goes over them.
use Rattle.std.proofs.Common.{◌≡◌, ℕ, zero, suc, ◌≤◌, ◌<◌, List, [], ◌∷◌, ◌++◌, length, get_or, refl, sym, ap, subst, ◌∙◌, append_assoc, arith}
use Rattle.model.specs.Cbor as cbor
use Rattle.model.specs.Cbor.{items_text, pairs_text}
use Rattle.cbor.specs.declared.item.Item.{Item}
use Rattle.cbor.specs.declared.item.Entry.{Entry}
use Rattle.cbor.specs.Tree.{item_of, members_of, entries_of}

-- as many members are told as there are
pub members_of-count : (is : List Item) → cbor.items_count (members_of is) ≡ length is
members_of-count [] = refl
members_of-count (i ∷ is) = ap suc (members_of-count is)

-- as many entries are told as there are
pub entries_of-count : (es : List Entry) → cbor.pairs_count (entries_of es) ≡ length es
entries_of-count [] = refl
entries_of-count (e ∷ es) = ap suc (entries_of-count es)

member_nests_at : (is : List Item) (k : ℕ) (d : Item) → k < length is → cbor.nesting (item_of (get_or is k d)) ≤ cbor.items_nesting (members_of is)
member_nests_at [] k d lt = absurd (omega arith)
member_nests_at (i ∷ is) zero d lt = omega arith
member_nests_at (i ∷ is) (suc k) d lt = omega (arith, member_nests_at is k d (omega arith))

entry_nests_at : (es : List Entry) (k : ℕ) (d : Entry) → k < length es
    → (cbor.nesting (item_of (get_or es k d).key) ≤ cbor.pairs_nesting (entries_of es)) × (cbor.nesting (item_of (get_or es k d).value) ≤ cbor.pairs_nesting (entries_of es))
entry_nests_at [] k d lt = absurd (omega arith)
entry_nests_at (e ∷ es) zero d lt = (omega arith, omega arith)
entry_nests_at (e ∷ es) (suc k) d lt = let h = entry_nests_at es k d (omega arith) in (omega (arith, h.0), omega (arith, h.1))

-- a member nests no deeper than the members
pub member_nests : (is : List Item) (k : ℕ) (i : Item) → k < length is → i ≡ get_or is k i → cbor.nesting (item_of i) ≤ cbor.items_nesting (members_of is)
member_nests is k i lt e = subst (λ (x : Item). cbor.nesting (item_of x) ≤ cbor.items_nesting (members_of is)) (sym e) (member_nests_at is k i lt)

-- a key and a value nest no deeper than the entries
pub entry_nests : (es : List Entry) (k : ℕ) (e : Entry) → k < length es → e ≡ get_or es k e
    → (cbor.nesting (item_of e.key) ≤ cbor.pairs_nesting (entries_of es)) × (cbor.nesting (item_of e.value) ≤ cbor.pairs_nesting (entries_of es))
entry_nests es k e lt is =
    subst (λ (x : Entry). (cbor.nesting (item_of x.key) ≤ cbor.pairs_nesting (entries_of es)) × (cbor.nesting (item_of x.value) ≤ cbor.pairs_nesting (entries_of es))) (sym is) (entry_nests_at es k e lt)

-- a head that counts the members, and the members
pub array_written : (is : List Item) (members : cbor.Items) (before headed after : List ℕ) → members_of is ≡ members → headed ≡ before ++ cbor.head 4 (length is) → after ≡ headed ++ items_text (members_of is)
    → after ≡ before ++ (cbor.head 4 (cbor.items_count members) ++ items_text members)
array_written is members before headed after told h a =
    a ∙ ap (λ (t : List ℕ). t ++ items_text (members_of is)) (h ∙ ap (λ (n : ℕ). before ++ cbor.head 4 n) (sym (members_of-count is))) ∙ append_assoc before (cbor.head 4 (cbor.items_count (members_of is))) (items_text (members_of is))
    ∙ ap (λ (x : cbor.Items). before ++ (cbor.head 4 (cbor.items_count x) ++ items_text x)) told

-- a head that counts the entries, and the entries
pub map_written : (es : List Entry) (entries : cbor.Pairs) (before headed after : List ℕ) → entries_of es ≡ entries → headed ≡ before ++ cbor.head 5 (length es) → after ≡ headed ++ pairs_text (entries_of es)
    → after ≡ before ++ (cbor.head 5 (cbor.pairs_count entries) ++ pairs_text entries)
map_written es entries before headed after told h a =
    a ∙ ap (λ (t : List ℕ). t ++ pairs_text (entries_of es)) (h ∙ ap (λ (n : ℕ). before ++ cbor.head 5 n) (sym (entries_of-count es))) ∙ append_assoc before (cbor.head 5 (cbor.pairs_count (entries_of es))) (pairs_text (entries_of es))
    ∙ ap (λ (x : cbor.Pairs). before ++ (cbor.head 5 (cbor.pairs_count x) ++ pairs_text x)) told
