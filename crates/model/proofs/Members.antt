-- Arrays and maps that are made of lists: where their items are equal, the lists are.
use Rattle.std.proofs.Common.{◌≡◌, ℕ, suc, ◌≢◌, List, [], ◌∷◌, ◌++◌, map, Option, Some, None, refl, sym, ap, ap₂}
use Rattle.std.specs.List.{AllByRecursion}
use Rattle.model.specs.Cbor.{Item, Items, Pairs, Unsigned, Negative, Bytes, Array, Map, Null, NextItem, NoPairs, NextPair, items_of, pairs_of, array_of}
use Rattle.model.specs.Transaction.{optional_entry, unless_empty}

-- what equal items and entries consist of
pub unsigned_is : (m n : ℕ) → Unsigned m ≡ Unsigned n → m ≡ n
unsigned_is m n e = cc

pub bytes_is : (bs cs : List ℕ) → Bytes bs ≡ Bytes cs → bs ≡ cs
bytes_is bs cs e = cc

pub array_is : (is js : Items) → Array is ≡ Array js → is ≡ js
array_is is js e = cc

pub map_is : (ps qs : Pairs) → Map ps ≡ Map qs → ps ≡ qs
map_is ps qs e = cc

-- a member and the members after it
pub next_item_is : (i j : Item) (is js : Items) → NextItem i is ≡ NextItem j js → (i ≡ j) × (is ≡ js)
next_item_is i j is js e = (cc, cc)

-- an entry and the entries after it
pub record SameNext (k l v w : Item) (ps qs : Pairs) : Type 0 where
  pub key : k ≡ l
  pub value : v ≡ w
  pub rest : ps ≡ qs

-- equal entries have equal parts
pub next_pair_is : (k l v w : Item) (ps qs : Pairs) → NextPair k v ps ≡ NextPair l w qs → SameNext k l v w ps qs
next_pair_is k l v w ps qs e = record { key = cc; value = cc; rest = cc }

-- an array of two members
pub two_are : (a b c d : Item) → array_of (a ∷ b ∷ []) ≡ array_of (c ∷ d ∷ []) → (a ≡ c) × (b ≡ d)
two_are a b c d e = (cc, cc)

-- the members of arrays, where those of some kind have one item each
pub same_members : {X : Type 0} (P : X → Type 0) (item : X → Item) → ((x y : X) → P x → P y → item x ≡ item y → x ≡ y) → (xs ys : List X) → AllByRecursion P xs → AllByRecursion P ys
    → items_of (map item xs) ≡ items_of (map item ys) → xs ≡ ys
same_members P item one [] [] p q e = refl
same_members P item one (x ∷ xs) (y ∷ ys) p q e =
    let s = next_item_is (item x) (item y) (items_of (map item xs)) (items_of (map item ys)) e in
    ap₂ ◌∷◌ (one x y p.0 q.0 s.0) (same_members P item one xs ys p.1 q.1 s.1)
same_members P item one xs ys p q e = absurd cc

-- the entries of maps, where each value has one entry
pub same_entries : {X : Type 0} (entry : X → Item × Item) → ((x y : X) → (entry x).0 ≡ (entry y).0 → (entry x).1 ≡ (entry y).1 → x ≡ y) → (xs ys : List X)
    → pairs_of (map entry xs) ≡ pairs_of (map entry ys) → xs ≡ ys
same_entries entry one [] [] e = refl
same_entries entry one (x ∷ xs) (y ∷ ys) e =
    let s = next_pair_is (entry x).0 (entry y).0 (entry x).1 (entry y).1 (pairs_of (map entry xs)) (pairs_of (map entry ys)) e in
    ap₂ ◌∷◌ (one x y s.key s.value) (same_entries entry one xs ys s.rest)
same_entries entry one xs ys e = absurd cc

-- ---- entries that may be left out

-- one more than the key, where that is a number
abbrev number_of_key : Item → ℕ
number_of_key (Unsigned n) = suc n
number_of_key (Negative n) = 0
number_of_key (Bytes bs) = 0
number_of_key (Array is) = 0
number_of_key (Map ps) = 0
number_of_key Null = 0

-- the same of the first of these entries, and 0 of none
abbrev pub first_key : Pairs → ℕ
first_key NoPairs = 0
first_key (NextPair k v ps) = number_of_key k

-- an entry that either of two maps may leave out, before entries with other keys
pub same_optional : (key : ℕ) (a b : Option ℕ) (es fs : List (Item × Item)) → first_key (pairs_of es) ≢ suc key → first_key (pairs_of fs) ≢ suc key
    → pairs_of (optional_entry key a ++ es) ≡ pairs_of (optional_entry key b ++ fs) → (a ≡ b) × (pairs_of es ≡ pairs_of fs)
same_optional key None None es fs p q e = (refl, e)
same_optional key (Some m) (Some n) es fs p q e =
    let s = next_pair_is (Unsigned key) (Unsigned key) (Unsigned m) (Unsigned n) (pairs_of es) (pairs_of fs) e in
    (ap Some (unsigned_is m n s.value), s.rest)
same_optional key None (Some n) es fs p q e = absurd (p (ap first_key e))
same_optional key (Some m) None es fs p q e = absurd (q (sym (ap first_key e)))

-- the same of an entry that is left out where its list is empty
pub same_unless_empty : {X : Type 0} (key : ℕ) (item : List X → Item) (xs ys : List X) → (item xs ≡ item ys → xs ≡ ys) → (es fs : List (Item × Item)) → first_key (pairs_of es) ≢ suc key → first_key (pairs_of fs) ≢ suc key
    → pairs_of (unless_empty key item xs ++ es) ≡ pairs_of (unless_empty key item ys ++ fs) → (xs ≡ ys) × (pairs_of es ≡ pairs_of fs)
same_unless_empty key item [] [] one es fs p q e = (refl, e)
same_unless_empty key item (x ∷ xs) (y ∷ ys) one es fs p q e =
    let s = next_pair_is (Unsigned key) (Unsigned key) (item (x ∷ xs)) (item (y ∷ ys)) (pairs_of es) (pairs_of fs) e in
    (one s.value, s.rest)
same_unless_empty key item [] (y ∷ ys) one es fs p q e = absurd (p (ap first_key e))
same_unless_empty key item (x ∷ xs) [] one es fs p q e = absurd (q (sym (ap first_key e)))

-- an entry that nothing comes after
pub same_last : {X : Type 0} (key : ℕ) (item : List X → Item) (xs ys : List X) → (item xs ≡ item ys → xs ≡ ys) → pairs_of (unless_empty key item xs) ≡ pairs_of (unless_empty key item ys) → xs ≡ ys
same_last key item [] [] one e = refl
same_last key item (x ∷ xs) (y ∷ ys) one e =
    one (next_pair_is (Unsigned key) (Unsigned key) (item (x ∷ xs)) (item (y ∷ ys)) NoPairs NoPairs e).value
same_last key item xs ys one e = absurd cc
