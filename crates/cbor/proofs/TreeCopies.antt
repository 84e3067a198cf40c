-- Copying members and entries one after the other, as a loop does.
use Rattle.std.proofs.Common.{◌≡◌, ℕ, suc, ◌+◌, ◌≤◌, ◌<◌, List, [], ◌∷◌, ◌++◌, length, get_or, drop, sym, ap, ◌∙◌, add-one, drop-cons}
use Rattle.std.proofs.lemmas.List.{drop_all}
use Rattle.model.specs.Cbor as cbor
use Rattle.cbor.specs.declared.item.Item.{Item}
use Rattle.cbor.specs.declared.item.Entry.{Entry}
use Rattle.cbor.specs.Tree.{item_of, members_of, entries_of}
use Rattle.cbor.proofs.TreeLoops.{members_then, one_more_member, no_more_members, members_of-push, entries_then, one_more_entry, no_more_entries, entries_of-push}

-- one member was copied
pub member_copied : (copies members : List Item) (k : ℕ) (member copy : Item) → k < length members → member ≡ get_or members k member → item_of copy ≡ item_of member
    → members_then (members_of copies) (members_of (drop k members)) ≡ members_of members → members_then (members_of (copies ++ copy ∷ [])) (members_of (drop (k + 1) members)) ≡ members_of members
member_copied copies members k member copy lt is same so_far =
    let rest = members_of (drop (k + 1) members) in
    let next : drop k members ≡ member ∷ drop (k + 1) members = rw (add-one, drop-cons members k member lt) (ap (λ (j : Item). j ∷ drop (suc k) members) (sym is)) in
    ap (λ (x : cbor.Items). members_then x rest) (members_of-push copies copy) ∙ sym (one_more_member (members_of copies) (item_of copy) rest)
    ∙ ap (λ (x : cbor.Item). members_then (members_of copies) (cbor.NextItem x rest)) same ∙ ap (λ (js : List Item). members_then (members_of copies) (members_of js)) (sym next) ∙ so_far

-- all members were copied
pub members_copied : (copies members : List Item) (k : ℕ) → length members ≤ k → members_then (members_of copies) (members_of (drop k members)) ≡ members_of members → members_of copies ≡ members_of members
members_copied copies members k le so_far =
    sym (no_more_members (members_of copies)) ∙ ap (λ (js : List Item). members_then (members_of copies) (members_of js)) (sym (drop_all k members le)) ∙ so_far

-- one entry was copied
pub entry_copied : (copies entries : List Entry) (k : ℕ) (entry copy : Entry) → k < length entries → entry ≡ get_or entries k entry → item_of copy.key ≡ item_of entry.key → item_of copy.value ≡ item_of entry.value
    → entries_then (entries_of copies) (entries_of (drop k entries)) ≡ entries_of entries → entries_then (entries_of (copies ++ copy ∷ [])) (entries_of (drop (k + 1) entries)) ≡ entries_of entries
entry_copied copies entries k entry copy lt is same_key same_value so_far =
    let rest = entries_of (drop (k + 1) entries) in
    let next : drop k entries ≡ entry ∷ drop (k + 1) entries = rw (add-one, drop-cons entries k entry lt) (ap (λ (j : Entry). j ∷ drop (suc k) entries) (sym is)) in
    ap (λ (x : cbor.Pairs). entries_then x rest) (entries_of-push copies copy) ∙ sym (one_more_entry (entries_of copies) (item_of copy.key) (item_of copy.value) rest)
    ∙ (λ d. entries_then (entries_of copies) (cbor.NextPair (same_key d) (same_value d) rest)) ∙ ap (λ (js : List Entry). entries_then (entries_of copies) (entries_of js)) (sym next) ∙ so_far

-- all entries were copied
pub entries_copied : (copies entries : List Entry) (k : ℕ) → length entries ≤ k → entries_then (entries_of copies) (entries_of (drop k entries)) ≡ entries_of entries → entries_of copies ≡ entries_of entries
entries_copied copies entries k le so_far =
    sym (no_more_entries (entries_of copies)) ∙ ap (λ (js : List Entry). entries_then (entries_of copies) (entries_of js)) (sym (drop_all k entries le)) ∙ so_far
