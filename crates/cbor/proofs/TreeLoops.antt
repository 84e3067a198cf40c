-- Reading members and entries one after the other, as a loop does.
use Rattle.std.proofs.Common.{◌≡◌, ℕ, suc, ◌-◌, ◌+◌, ◌≤◌, ◌<◌, List, [], ◌∷◌, ◌++◌, Option, Some, None, refl, sym, ap, ◌∙◌, true, false, arith}
use Rattle.std.specs.Ordering.{nat_cmp, is_lt}
use Rattle.std.specs.Cmp.Lexicographic.{slice_cmp}
use Rattle.model.specs.Cbor as cbor
use Rattle.cbor.specs.declared.item.Item.{Item}
use Rattle.cbor.specs.declared.item.Entry.{Entry}
use Rattle.cbor.specs.declared.fault.CborFault.{CborFault}
use Rattle.cbor.specs.declared.fault.CborFault.TheVariants as faults
use Rattle.cbor.specs.Tree.{item_of, members_of, entries_of}
use Rattle.cbor.specs.Reading.{◌>>=◌}
use Rattle.cbor.specs.ItemReading.{Reader, items_at, pair_at, pairs_at}
use Rattle.cbor.specs.Gives.{Refuses}
use Rattle.cbor.specs.Reading.{front}

-- ---- members

-- these members before those
abbrev pub members_then : cbor.Items → cbor.Items → cbor.Items
members_then cbor.NoItems js = js
members_then (cbor.NextItem i is) js = cbor.NextItem i (members_then is js)

-- these members before what was read
abbrev pub with_members : cbor.Items → Option (cbor.Items × List ℕ) → Option (cbor.Items × List ℕ)
with_members front read = read >>= λ x. Some (members_then front x.0, x.1)

-- members in two steps
pub one_more_member : (front : cbor.Items) (i : cbor.Item) (js : cbor.Items) → members_then front (cbor.NextItem i js) ≡ members_then (members_then front (cbor.NextItem i cbor.NoItems)) js
one_more_member cbor.NoItems i js = refl
one_more_member (cbor.NextItem f fs) i js = ap (cbor.NextItem f) (one_more_member fs i js)

-- none after them
pub no_more_members : (front : cbor.Items) → members_then front cbor.NoItems ≡ front
no_more_members cbor.NoItems = refl
no_more_members (cbor.NextItem f fs) = ap (cbor.NextItem f) (no_more_members fs)

-- a member that is put after the others
pub members_of-push : (is : List Item) (i : Item) → members_of (is ++ i ∷ []) ≡ members_then (members_of is) (cbor.NextItem (item_of i) cbor.NoItems)
members_of-push [] i = refl
members_of-push (j ∷ js) i = ap (cbor.NextItem (item_of j)) (members_of-push js i)

regroup_members : (front : cbor.Items) (i : cbor.Item) (read : Option (cbor.Items × List ℕ)) → with_members front (read >>= λ x. Some (cbor.NextItem i x.0, x.1)) ≡ with_members (members_then front (cbor.NextItem i cbor.NoItems)) read
regroup_members front i None = refl
regroup_members front i (Some x) = ap (λ (is : cbor.Items). Some (is, x.1)) (one_more_member front i x.0)

-- one member was read
pub items_go_on : (read : Reader) (front : cbor.Items) (count i : ℕ) (bytes : List ℕ) (n : cbor.Item) (after : List ℕ) (total : Option (cbor.Items × List ℕ)) → i < count → read bytes ≡ Some (n, after)
    → with_members front (items_at read (count - i) bytes) ≡ total → with_members (members_then front (cbor.NextItem n cbor.NoItems)) (items_at read (count - (i + 1)) after) ≡ total
unfolding items_at
items_go_on read front count i bytes n after total lt h so_far =
    let k : count - i ≡ suc (count - (i + 1)) = omega arith in
    let one : with_members front (items_at read (count - i) bytes) ≡ with_members (members_then front (cbor.NextItem n cbor.NoItems)) (items_at read (count - (i + 1)) after) = rw (k, h) (regroup_members front n (items_at read (count - (i + 1)) after)) in
    sym one ∙ so_far

-- a member was refused
pub items_end : (read : Reader) (fault : CborFault) (front : cbor.Items) (count i : ℕ) (bytes : List ℕ) (total : Option (cbor.Items × List ℕ)) → i < count → Refuses fault (read bytes)
    → with_members front (items_at read (count - i) bytes) ≡ total → Refuses fault total
unfolding items_at
items_end read faults.OutOfMemory front count i bytes total lt h so_far = tt
items_end read faults.Malformed front count i bytes total lt h so_far =
    let k : count - i ≡ suc (count - (i + 1)) = omega arith in
    let one : with_members front (items_at read (count - i) bytes) ≡ None = rw (k, h) refl in
    sym so_far ∙ one

-- all members were read
pub items_done : (read : Reader) (front : cbor.Items) (count i : ℕ) (bytes : List ℕ) (total : Option (cbor.Items × List ℕ)) → count ≤ i → with_members front (items_at read (count - i) bytes) ≡ total → total ≡ Some (front, bytes)
unfolding items_at
items_done read front count i bytes total le so_far =
    let k : count - i ≡ 0 = omega arith in
    let one : with_members front (items_at read (count - i) bytes) ≡ Some (front, bytes) = rw k (ap (λ (is : cbor.Items). Some (is, bytes)) (no_more_members front)) in
    sym so_far ∙ one

-- ---- entries

-- these entries before those
abbrev pub entries_then : cbor.Pairs → cbor.Pairs → cbor.Pairs
entries_then cbor.NoPairs qs = qs
entries_then (cbor.NextPair k v ps) qs = cbor.NextPair k v (entries_then ps qs)

-- these entries before what was read
abbrev pub with_entries : cbor.Pairs → Option (cbor.Pairs × List ℕ) → Option (cbor.Pairs × List ℕ)
with_entries front read = read >>= λ x. Some (entries_then front x.0, x.1)

-- entries in two steps
pub one_more_entry : (front : cbor.Pairs) (k v : cbor.Item) (qs : cbor.Pairs) → entries_then front (cbor.NextPair k v qs) ≡ entries_then (entries_then front (cbor.NextPair k v cbor.NoPairs)) qs
one_more_entry cbor.NoPairs k v qs = refl
one_more_entry (cbor.NextPair l w ps) k v qs = ap (cbor.NextPair l w) (one_more_entry ps k v qs)

-- none after them
pub no_more_entries : (front : cbor.Pairs) → entries_then front cbor.NoPairs ≡ front
no_more_entries cbor.NoPairs = refl
no_more_entries (cbor.NextPair k v ps) = ap (cbor.NextPair k v) (no_more_entries ps)

-- an entry that is put after the others
pub entries_of-push : (es : List Entry) (e : Entry) → entries_of (es ++ e ∷ []) ≡ entries_then (entries_of es) (cbor.NextPair (item_of e.key) (item_of e.value) cbor.NoPairs)
entries_of-push [] e = refl
entries_of-push (d ∷ ds) e = ap (cbor.NextPair (item_of d.key) (item_of d.value)) (entries_of-push ds e)

regroup_entries : (front : cbor.Pairs) (k v : cbor.Item) (read : Option (cbor.Pairs × List ℕ)) → with_entries front (read >>= λ x. Some (cbor.NextPair k v x.0, x.1)) ≡ with_entries (entries_then front (cbor.NextPair k v cbor.NoPairs)) read
regroup_entries front k v None = refl
regroup_entries front k v (Some x) = ap (λ (ps : cbor.Pairs). Some (ps, x.1)) (one_more_entry front k v x.0)

-- one entry was read
pub pairs_go_on : (read : Reader) (front : cbor.Pairs) (before : List ℕ) (count i : ℕ) (bytes : List ℕ) (k v : cbor.Item) (text after : List ℕ) (total : Option (cbor.Pairs × List ℕ)) → i < count → pair_at read before bytes ≡ Some (k, v, text, after)
    → with_entries front (pairs_at read before (count - i) bytes) ≡ total → with_entries (entries_then front (cbor.NextPair k v cbor.NoPairs)) (pairs_at read text (count - (i + 1)) after) ≡ total
unfolding pairs_at
pairs_go_on read front before count i bytes k v text after total lt h so_far =
    let c : count - i ≡ suc (count - (i + 1)) = omega arith in
    let one : with_entries front (pairs_at read before (count - i) bytes) ≡ with_entries (entries_then front (cbor.NextPair k v cbor.NoPairs)) (pairs_at read text (count - (i + 1)) after) = rw (c, h) (regroup_entries front k v (pairs_at read text (count - (i + 1)) after)) in
    sym one ∙ so_far

-- an entry was refused
pub pairs_end : (read : Reader) (fault : CborFault) (front : cbor.Pairs) (before : List ℕ) (count i : ℕ) (bytes : List ℕ) (total : Option (cbor.Pairs × List ℕ)) → i < count → Refuses fault (pair_at read before bytes)
    → with_entries front (pairs_at read before (count - i) bytes) ≡ total → Refuses fault total
unfolding pairs_at
pairs_end read faults.OutOfMemory front before count i bytes total lt h so_far = tt
pairs_end read faults.Malformed front before count i bytes total lt h so_far =
    let c : count - i ≡ suc (count - (i + 1)) = omega arith in
    let one : with_entries front (pairs_at read before (count - i) bytes) ≡ None = rw (c, h) refl in
    sym so_far ∙ one

-- all entries were read
pub pairs_done : (read : Reader) (front : cbor.Pairs) (before : List ℕ) (count i : ℕ) (bytes : List ℕ) (total : Option (cbor.Pairs × List ℕ)) → count ≤ i → with_entries front (pairs_at read before (count - i) bytes) ≡ total → total ≡ Some (front, bytes)
unfolding pairs_at
pairs_done read front before count i bytes total le so_far =
    let c : count - i ≡ 0 = omega arith in
    let one : with_entries front (pairs_at read before (count - i) bytes) ≡ Some (front, bytes) = rw c (ap (λ (ps : cbor.Pairs). Some (ps, bytes)) (no_more_entries front)) in
    sym so_far ∙ one

-- ---- entries in parts

-- the key's text does not stand after the one before
pub pair_refused : (read : Reader) (before bytes : List ℕ) (k : cbor.Item) (after : List ℕ) → read bytes ≡ Some (k, after) → is_lt (slice_cmp nat_cmp before (front bytes after)) ≡ false → pair_at read before bytes ≡ None
unfolding pair_at
pair_refused read before bytes k after h late = rw (h, late) refl

-- it does, and the value was read
pub pair_read : (read : Reader) (before bytes : List ℕ) (k v : cbor.Item) (after rest : List ℕ) → read bytes ≡ Some (k, after) → is_lt (slice_cmp nat_cmp before (front bytes after)) ≡ true → read after ≡ Some (v, rest)
    → pair_at read before bytes ≡ Some (k, v, front bytes after, rest)
unfolding pair_at
pair_read read before bytes k v after rest h rises g = rw (h, rises, g) refl
