-- The two laws of reading items: what is read is spelled so and has a text, and what has a text is read,
-- whatever follows it.
use Rattle.std.proofs.Common.{◌≡◌, ℕ, zero, suc, ◌-◌, ◌/◌, ◌≤◌, true, eqb, List, [], ◌∷◌, ◌++◌, length, Some, refl, sym, ap, subst, ◌∙◌, append_assoc, arith, inl, inr}
use Rattle.std.specs.Ordering.{nat_cmp, is_lt}
use Rattle.std.specs.declared.cmp.Ordering.{Ordering}
use Rattle.std.specs.declared.cmp.Ordering.TheVariants.{Less, Equal, Greater}
use Rattle.std.specs.Cmp.Lexicographic.{slice_cmp}
use Rattle.std.proofs.lemmas.Bool.{eqb-true}
use Rattle.std.proofs.lemmas.List.{take_at, length-append}
use Rattle.model.specs.Cbor.{Item, Items, Pairs, Unsigned, Negative, Bytes, Array, Map, Null, NoItems, NextItem, NoPairs, NextPair, items_count, pairs_count, head, text_of, items_text, pairs_text, nesting, items_nesting, pairs_nesting, IsInRange, ItemsAreInRange, PairsAreInRange, IsBeforeFirst, HasRisingKeys, ItemsHaveRisingKeys, PairsHaveRisingKeys}
use Rattle.model.proofs.ItemTexts.{text_not_empty}
use Rattle.cbor.specs.Reading.{◌>>=◌, head_at, bytes_at, null_at}
use Rattle.cbor.specs.ItemReading.{Reader, items_at, pair_at, pairs_at, array_item_at, map_item_at, single_at, item_of_major, item_with, item_at}
use Rattle.cbor.specs.Reading.{front}
use Rattle.cbor.proofs.Steps.{IsBytes, AllByRecursion-bytes, bind_some, guard-true, guard_some, chosen, some_is, Takes, Takes-then, Takes-length}
use Rattle.cbor.proofs.Reading.{head_takes, head_again, bytes_takes, bytes_again, null_takes, null_again}

-- an item that has a text, except that it nests at most `depth` deep
pub record IsItem (depth : ℕ) (item : Item) : Type 0 where
  pub in_range : IsInRange item
  pub rising : HasRisingKeys item
  pub nests : nesting item ≤ depth

pub record AreMembers (depth : ℕ) (is : Items) : Type 0 where
  pub in_range : ItemsAreInRange is
  pub rising : ItemsHaveRisingKeys is
  pub nest : items_nesting is ≤ depth

pub record AreEntries (depth : ℕ) (ps : Pairs) : Type 0 where
  pub in_range : PairsAreInRange ps
  pub rising : PairsHaveRisingKeys ps
  pub nest : pairs_nesting ps ≤ depth

-- the two laws of a reading
pub record Reads (depth : ℕ) (read : Reader) : Type 0 where
  pub takes : (bytes : List ℕ) (item : Item) (rest : List ℕ) → IsBytes bytes → read bytes ≡ Some (item, rest) → Takes bytes (text_of item) rest × IsItem depth item
  pub again : (item : Item) (rest : List ℕ) → IsItem depth item → read (text_of item ++ rest) ≡ Some (item, rest)

-- ---- members

-- members that were read
items_take : (depth : ℕ) (read : Reader) → Reads depth read → (count : ℕ) (bytes : List ℕ) (is : Items) (rest : List ℕ) → IsBytes bytes → items_at read count bytes ≡ Some (is, rest)
    → Takes bytes (items_text is) rest × (items_count is ≡ count) × AreMembers depth is
unfolding items_at
items_take depth read laws zero bytes is rest fits e =
    subst (λ (x : Items × List ℕ). Takes bytes (items_text x.0) x.1 × (items_count x.0 ≡ 0) × AreMembers depth x.0) (some_is (NoItems, bytes) (is, rest) e)
    (record { parts = refl; rest_fits = fits }, refl, record { in_range = tt; rising = tt; nest = omega arith })
items_take depth read laws (suc count) bytes is rest fits e =
    let a = bind_some (read bytes) _ (is, rest) e in
    let b = bind_some (items_at read count a.0.1) _ (is, rest) a.2 in
    let first = laws.takes bytes a.0.0 a.0.1 fits a.1 in
    let others = items_take depth read laws count a.0.1 b.0.0 b.0.1 first.0.rest_fits b.1 in
    let p = first.1 in
    let q = others.2 in
    subst (λ (x : Items × List ℕ). Takes bytes (items_text x.0) x.1 × (items_count x.0 ≡ suc count) × AreMembers depth x.0) (some_is (NextItem a.0.0 b.0.0, b.0.1) (is, rest) b.2) (
      Takes-then bytes (text_of a.0.0) a.0.1 (items_text b.0.0) b.0.1 first.0 others.0,
      ap suc others.1,
      record { in_range = (p.in_range, q.in_range); rising = (p.rising, q.rising); nest = omega (arith, p.nests, q.nest) },
    )

-- members that were written are read
items_again : (depth : ℕ) (read : Reader) → Reads depth read → (is : Items) (rest : List ℕ) → AreMembers depth is → items_at read (items_count is) (items_text is ++ rest) ≡ Some (is, rest)
unfolding items_at
items_again depth read laws NoItems rest p = refl
items_again depth read laws (NextItem i is) rest p =
    let n = p.nest in
    let first = laws.again i (items_text is ++ rest) (record { in_range = p.in_range.0; rising = p.rising.0; nests = omega arith }) in
    let others = items_again depth read laws is rest (record { in_range = p.in_range.1; rising = p.rising.1; nest = omega arith }) in
    ap (items_at read (suc (items_count is))) (append_assoc (text_of i) (items_text is) rest) ∙ rw (first, others) refl

-- ---- entries

-- the bytes that were read are the text
pub front_is : (bytes text rest : List ℕ) → Takes bytes text rest → front bytes rest ≡ text
front_is bytes text rest taken =
    let long : length bytes - length rest ≡ length text = omega (arith, Takes-length bytes text rest taken) in
    rw (long, taken.parts) (take_at text rest (length text) refl)

-- the one answer for which the test holds
pub is_less : (o : Ordering) → is_lt o ≡ true → o ≡ Less
is_less Less e = refl
is_less Equal e = absurd cc
is_less Greater e = absurd cc

-- the text stands before the first key of these entries
abbrev pub IsBefore : List ℕ → Pairs → Type 0
IsBefore text NoPairs = Unit {0}
IsBefore text (NextPair k v ps) = slice_cmp nat_cmp text (text_of k) ≡ Less

-- a key's text that stands before the first key is before the entries
pub is_before_first : (k : Item) (ps : Pairs) → IsBefore (text_of k) ps → IsBeforeFirst k ps
is_before_first k NoPairs h = tt
is_before_first k (NextPair l w ps) h = h

-- no text stands before any
less_than_all : (text : List ℕ) → ([] ≡ text → ⊥) → slice_cmp nat_cmp [] text ≡ Less
less_than_all [] h = absurd (h refl)
less_than_all (b ∷ bs) h = refl

-- none stands before any entries
pub nothing_before : (ps : Pairs) → PairsAreInRange ps → IsBefore [] ps
nothing_before NoPairs p = tt
nothing_before (NextPair k v ps) p = less_than_all (text_of k) (text_not_empty k p.0)

-- and the other way round
pub before_first_is : (k : Item) (ps : Pairs) → IsBeforeFirst k ps → IsBefore (text_of k) ps
before_first_is k NoPairs h = tt
before_first_is k (NextPair l w ps) h = h

-- an entry that was read
pub record TakesPair (depth : ℕ) (before bytes : List ℕ) (key value : Item) (text rest : List ℕ) : Type 0 where
  pub taken : Takes bytes (text_of key ++ text_of value) rest
  pub key_fits : IsItem depth key
  pub value_fits : IsItem depth value
  pub text_is : text ≡ text_of key
  pub rises : slice_cmp nat_cmp before (text_of key) ≡ Less

pair_takes : (depth : ℕ) (read : Reader) → Reads depth read → (before bytes : List ℕ) (key value : Item) (text rest : List ℕ) → IsBytes bytes → pair_at read before bytes ≡ Some (key, value, text, rest)
    → TakesPair depth before bytes key value text rest
unfolding pair_at
pair_takes depth read laws before bytes key value text rest fits e =
    let a = bind_some (read bytes) _ (key, value, text, rest) e in
    let g = guard-true (is_lt (slice_cmp nat_cmp before (front bytes a.0.1))) _ (key, value, text, rest) a.2 in
    let b = bind_some (read a.0.1) _ (key, value, text, rest) g.1 in
    let first = laws.takes bytes a.0.0 a.0.1 fits a.1 in
    let second = laws.takes a.0.1 b.0.0 b.0.1 first.0.rest_fits b.1 in
    let text-is = front_is bytes (text_of a.0.0) a.0.1 first.0 in
    subst (λ (x : Item × Item × List ℕ × List ℕ). TakesPair depth before bytes x.0 x.1 x.2 x.3) (some_is (a.0.0, b.0.0, front bytes a.0.1, b.0.1) (key, value, text, rest) b.2)
    (record {
      taken = Takes-then bytes (text_of a.0.0) a.0.1 (text_of b.0.0) b.0.1 first.0 second.0;
      key_fits = first.1;
      value_fits = second.1;
      text_is = text-is;
      rises = ap (slice_cmp nat_cmp before) (sym text-is) ∙ is_less _ g.0;
    })

pair_again : (depth : ℕ) (read : Reader) → Reads depth read → (before : List ℕ) (key value : Item) (rest : List ℕ) → IsItem depth key → IsItem depth value → slice_cmp nat_cmp before (text_of key) ≡ Less
    → pair_at read before (text_of key ++ (text_of value ++ rest)) ≡ Some (key, value, text_of key, rest)
unfolding pair_at
pair_again depth read laws before key value rest p q rises =
    let first = laws.again key (text_of value ++ rest) p in
    let second = laws.again value rest q in
    let k = text_of key in
    let after = text_of value ++ rest in
    let long : length (k ++ after) - length after ≡ length k = omega (arith, length-append k after) in
    rw (first, long, take_at k after (length k) refl, rises, second) refl

pairs_take : (depth : ℕ) (read : Reader) → Reads depth read → (before : List ℕ) (count : ℕ) (bytes : List ℕ) (ps : Pairs) (rest : List ℕ) → IsBytes bytes → pairs_at read before count bytes ≡ Some (ps, rest)
    → Takes bytes (pairs_text ps) rest × (pairs_count ps ≡ count) × AreEntries depth ps × IsBefore before ps
unfolding pairs_at
pairs_take depth read laws before zero bytes ps rest fits e =
    subst (λ (x : Pairs × List ℕ). Takes bytes (pairs_text x.0) x.1 × (pairs_count x.0 ≡ 0) × AreEntries depth x.0 × IsBefore before x.0) (some_is (NoPairs, bytes) (ps, rest) e)
    (record { parts = refl; rest_fits = fits }, refl, record { in_range = tt; rising = tt; nest = omega arith }, tt)
pairs_take depth read laws before (suc count) bytes ps rest fits e =
    let a = bind_some (pair_at read before bytes) _ (ps, rest) e in
    let b = bind_some (pairs_at read a.0.2 count a.0.3) _ (ps, rest) a.2 in
    let k = a.0.0 in
    let v = a.0.1 in
    let first = pair_takes depth read laws before bytes k v a.0.2 a.0.3 fits a.1 in
    let others = pairs_take depth read laws a.0.2 count a.0.3 b.0.0 b.0.1 first.taken.rest_fits b.1 in
    let both = Takes-then bytes (text_of k ++ text_of v) a.0.3 (pairs_text b.0.0) b.0.1 first.taken others.0 in
    let p = first.key_fits in
    let q = first.value_fits in
    let r = others.2 in
    subst (λ (x : Pairs × List ℕ). Takes bytes (pairs_text x.0) x.1 × (pairs_count x.0 ≡ suc count) × AreEntries depth x.0 × IsBefore before x.0) (some_is (NextPair k v b.0.0, b.0.1) (ps, rest) b.2) (
      subst (λ (t : List ℕ). Takes bytes t b.0.1) (append_assoc (text_of k) (text_of v) (pairs_text b.0.0)) both,
      ap suc others.1,
      record {
        in_range = (p.in_range, q.in_range, r.in_range);
        rising = (p.rising, q.rising, is_before_first k b.0.0 (subst (λ (t : List ℕ). IsBefore t b.0.0) first.text_is others.3), r.rising);
        nest = omega (arith, p.nests, q.nests, r.nest);
      },
      first.rises,
    )

pairs_again : (depth : ℕ) (read : Reader) → Reads depth read → (before : List ℕ) (ps : Pairs) (rest : List ℕ) → AreEntries depth ps → IsBefore before ps → pairs_at read before (pairs_count ps) (pairs_text ps ++ rest) ≡ Some (ps, rest)
unfolding pairs_at
pairs_again depth read laws before NoPairs rest p rises = refl
pairs_again depth read laws before (NextPair k v ps) rest p rises =
    let n = p.nest in
    let first = pair_again depth read laws before k v (pairs_text ps ++ rest) (record { in_range = p.in_range.0; rising = p.rising.0; nests = omega arith }) (record { in_range = p.in_range.1; rising = p.rising.1; nests = omega arith }) rises in
    let others = pairs_again depth read laws (text_of k) ps rest (record { in_range = p.in_range.2; rising = p.rising.3; nest = omega arith }) (before_first_is k ps p.rising.2) in
    let regrouped : pairs_text (NextPair k v ps) ++ rest ≡ text_of k ++ (text_of v ++ (pairs_text ps ++ rest)) = append_assoc (text_of k) (text_of v ++ pairs_text ps) rest ∙ ap (λ (t : List ℕ). text_of k ++ t) (append_assoc (text_of v) (pairs_text ps) rest) in
    ap (pairs_at read before (suc (pairs_count ps))) regrouped ∙ rw (first, others) refl

-- ---- items

-- an item nests
nests_once : (item : Item) → 1 ≤ nesting item
nests_once (Unsigned n) = omega arith
nests_once (Negative n) = omega arith
nests_once (Bytes bs) = omega arith
nests_once (Array is) = omega arith
nests_once (Map ps) = omega arith
nests_once Null = omega arith

-- an item that was read
abbrev TakesNested : ℕ → List ℕ → Item × List ℕ → Type 0
TakesNested depth bytes x = Takes bytes (text_of x.0) x.1 × IsItem depth x.0

unsigned_takes : (bytes : List ℕ) (x : Item × List ℕ) → IsBytes bytes → (head_at 0 bytes >>= λ n. Some (Unsigned n.0, n.1)) ≡ Some x → TakesNested 1 bytes x
unsigned_takes bytes x fits e =
    let a = bind_some (head_at 0 bytes) _ x e in
    let t = head_takes 0 bytes a.0.0 a.0.1 fits a.1 in
    subst (TakesNested 1 bytes) (some_is (Unsigned a.0.0, a.0.1) x a.2) (t.0, record { in_range = t.1; rising = tt; nests = omega arith })

negative_takes : (bytes : List ℕ) (x : Item × List ℕ) → IsBytes bytes → (head_at 1 bytes >>= λ n. Some (Negative n.0, n.1)) ≡ Some x → TakesNested 1 bytes x
negative_takes bytes x fits e =
    let a = bind_some (head_at 1 bytes) _ x e in
    let t = head_takes 1 bytes a.0.0 a.0.1 fits a.1 in
    subst (TakesNested 1 bytes) (some_is (Negative a.0.0, a.0.1) x a.2) (t.0, record { in_range = t.1; rising = tt; nests = omega arith })

string_takes : (bytes : List ℕ) (x : Item × List ℕ) → IsBytes bytes → (bytes_at bytes >>= λ text. Some (Bytes text.0, text.1)) ≡ Some x → TakesNested 1 bytes x
string_takes bytes x fits e =
    let a = bind_some (bytes_at bytes) _ x e in
    let t = bytes_takes bytes a.0.0 a.0.1 fits a.1 in
    subst (TakesNested 1 bytes) (some_is (Bytes a.0.0, a.0.1) x a.2) (t.0, record { in_range = (t.1, AllByRecursion-bytes a.0.0 t.2); rising = tt; nests = omega arith })

nothing_takes : (bytes : List ℕ) (x : Item × List ℕ) → IsBytes bytes → (null_at bytes >>= λ rest. Some (Null, rest)) ≡ Some x → TakesNested 1 bytes x
nothing_takes bytes x fits e =
    let a = bind_some (null_at bytes) _ x e in
    let t = null_takes bytes a.0 fits a.1 in
    subst (TakesNested 1 bytes) (some_is (Null, a.0) x a.2) (t, record { in_range = tt; rising = tt; nests = omega arith })

single_takes : (major : ℕ) (bytes : List ℕ) (x : Item × List ℕ) → IsBytes bytes → single_at major bytes ≡ Some x → TakesNested 1 bytes x
unfolding single_at
single_takes major bytes x fits e =
    elim (chosen (eqb major 0) _ _ _ e) [
      | inl a ↦ unsigned_takes bytes x fits a.1
      | inr a ↦ elim (chosen (eqb major 1) _ _ _ a.1) [
        | inl b ↦ negative_takes bytes x fits b.1
        | inr b ↦ elim (chosen (eqb major 2) _ _ _ b.1) [
          | inl c ↦ string_takes bytes x fits c.1
          | inr c ↦ nothing_takes bytes x fits c.1
        ]
      ]
    ]

array_takes : (depth : ℕ) (read : Reader) → Reads depth read → (bytes : List ℕ) (x : Item × List ℕ) → IsBytes bytes → array_item_at read bytes ≡ Some x → TakesNested (suc depth) bytes x
unfolding array_item_at
array_takes depth read laws bytes x fits e =
    let a = bind_some (head_at 4 bytes) _ x e in
    let b = bind_some (items_at read a.0.0 a.0.1) _ x a.2 in
    let t = head_takes 4 bytes a.0.0 a.0.1 fits a.1 in
    let m = items_take depth read laws a.0.0 a.0.1 b.0.0 b.0.1 t.0.rest_fits b.1 in
    let both = Takes-then bytes (head 4 a.0.0) a.0.1 (items_text b.0.0) b.0.1 t.0 m.0 in
    let p = m.2 in
    subst (TakesNested (suc depth) bytes) (some_is (Array b.0.0, b.0.1) x b.2)
    (subst (λ (k : ℕ). Takes bytes (head 4 k ++ items_text b.0.0) b.0.1) (sym m.1) both, record { in_range = (omega (arith, m.1, t.1), p.in_range); rising = p.rising; nests = omega (arith, p.nest) })

map_takes : (depth : ℕ) (read : Reader) → Reads depth read → (bytes : List ℕ) (x : Item × List ℕ) → IsBytes bytes → map_item_at read bytes ≡ Some x → TakesNested (suc depth) bytes x
unfolding map_item_at
map_takes depth read laws bytes x fits e =
    let a = bind_some (head_at 5 bytes) _ x e in
    let b = bind_some (pairs_at read [] a.0.0 a.0.1) _ x a.2 in
    let t = head_takes 5 bytes a.0.0 a.0.1 fits a.1 in
    let m = pairs_take depth read laws [] a.0.0 a.0.1 b.0.0 b.0.1 t.0.rest_fits b.1 in
    let both = Takes-then bytes (head 5 a.0.0) a.0.1 (pairs_text b.0.0) b.0.1 t.0 m.0 in
    let p = m.2 in
    subst (TakesNested (suc depth) bytes) (some_is (Map b.0.0, b.0.1) x b.2)
    (subst (λ (k : ℕ). Takes bytes (head 5 k ++ pairs_text b.0.0) b.0.1) (sym m.1) both, record { in_range = (omega (arith, m.1, t.1), p.in_range); rising = p.rising; nests = omega (arith, p.nest) })

deeper : (depth : ℕ) (bytes : List ℕ) (x : Item × List ℕ) → TakesNested 1 bytes x → TakesNested (suc depth) bytes x
deeper depth bytes x t =
    let p = t.1 in
    (t.0, record { in_range = p.in_range; rising = p.rising; nests = omega (arith, p.nests) })

item_takes : (depth : ℕ) (read : Reader) → Reads depth read → (bytes : List ℕ) (x : Item × List ℕ) → IsBytes bytes → item_with read bytes ≡ Some x → TakesNested (suc depth) bytes x
unfolding item_with item_of_major
item_takes depth read laws [] x fits e = absurd cc
item_takes depth read laws (first ∷ rest) x fits e =
    let bytes = first ∷ rest in
    elim (chosen (eqb (first / 32) 4) _ _ _ e) [
      | inl a ↦ array_takes depth read laws bytes x fits a.1
      | inr a ↦ elim (chosen (eqb (first / 32) 5) _ _ _ a.1) [
        | inl b ↦ map_takes depth read laws bytes x fits b.1
        | inr b ↦ deeper depth bytes x (single_takes (first / 32) bytes x fits b.1)
      ]
    ]

-- where a head of a major type stands first, an item of that type is read
of_major : (read : Reader) (major n : ℕ) (bytes rest : List ℕ) → head_at major bytes ≡ Some (n, rest) → item_with read bytes ≡ item_of_major read major bytes
unfolding head_at item_with
of_major read major n [] rest e = absurd cc
of_major read major n (first ∷ more) rest e =
    let g = guard_some (eqb (first / 32) major) _ (n, rest) e in
    ap (λ (m : ℕ). item_of_major read m (first ∷ more)) (eqb-true _ _ g.0)

item_again : (depth : ℕ) (read : Reader) → Reads depth read → (item : Item) (rest : List ℕ) → IsItem (suc depth) item → item_with read (text_of item ++ rest) ≡ Some (item, rest)
unfolding item_of_major single_at array_item_at map_item_at
item_again depth read laws (Unsigned n) rest p =
    let h = head_again 0 n rest p.in_range in
    of_major read 0 n (head 0 n ++ rest) rest h ∙ rw h refl
item_again depth read laws (Negative n) rest p =
    let h = head_again 1 n rest p.in_range in
    of_major read 1 n (head 1 n ++ rest) rest h ∙ rw h refl
item_again depth read laws (Bytes bs) rest p =
    let h = head_again 2 (length bs) (bs ++ rest) p.in_range.0 in
    let regrouped = append_assoc (head 2 (length bs)) bs rest in
    of_major read 2 (length bs) ((head 2 (length bs) ++ bs) ++ rest) (bs ++ rest) (ap (head_at 2) regrouped ∙ h) ∙ rw (bytes_again bs rest p.in_range.0) refl
item_again depth read laws (Array is) rest p =
    let n = p.nests in
    let count = items_count is in
    let h = head_again 4 count (items_text is ++ rest) p.in_range.0 in
    let m = items_again depth read laws is rest (record { in_range = p.in_range.1; rising = p.rising; nest = omega arith }) in
    ap (item_with read) (append_assoc (head 4 count) (items_text is) rest) ∙ of_major read 4 count (head 4 count ++ (items_text is ++ rest)) (items_text is ++ rest) h ∙ rw (h, m) refl
item_again depth read laws (Map ps) rest p =
    let n = p.nests in
    let count = pairs_count ps in
    let h = head_again 5 count (pairs_text ps ++ rest) p.in_range.0 in
    let m = pairs_again depth read laws [] ps rest (record { in_range = p.in_range.1; rising = p.rising; nest = omega arith }) (nothing_before ps p.in_range.1) in
    ap (item_with read) (append_assoc (head 5 count) (pairs_text ps) rest) ∙ of_major read 5 count (head 5 count ++ (pairs_text ps ++ rest)) (pairs_text ps ++ rest) h ∙ rw (h, m) refl
item_again depth read laws Null rest p =
    let h = head_again 7 22 rest (omega arith) in
    of_major read 7 22 (head 7 22 ++ rest) rest h ∙ rw (null_again rest) refl

-- an item that was read has a text, which is what was read; and an item that has a text is read
pub item_reads : (depth : ℕ) → Reads depth (item_at depth)
unfolding item_at
item_reads zero = record {
  takes = λ bytes item rest fits e. absurd cc;
  again = λ item rest p. let n = p.nests in absurd (omega (arith, nests_once item));
}
item_reads (suc depth) = record {
  takes = λ bytes item rest fits e. item_takes depth (item_at depth) (item_reads depth) bytes (item, rest) fits e;
  again = λ item rest p. item_again depth (item_at depth) (item_reads depth) item rest p;
}

-- what is left after an item is shorter
pub rest_is_shorter : (depth : ℕ) (bytes : List ℕ) (item : Item) (rest : List ℕ) → IsBytes bytes → item_at depth bytes ≡ Some (item, rest) → length rest ≤ length bytes
rest_is_shorter depth bytes item rest fits e = omega (arith, Takes-length bytes (text_of item) rest ((item_reads depth).takes bytes item rest fits e).0)
