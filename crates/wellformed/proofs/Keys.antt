-- The first key that does not stand after the key before it: there is none just where all keys rise.
use Rattle.std.proofs.Common.{◌≡◌, ℕ, ◌+◌, ◌≤◌, List, [], ◌∷◌, ◌++◌, length, Option, Some, None, cond, refl, arith}
use Rattle.std.specs.Prelude.{IfSome}
use Rattle.std.specs.Option.{option_or}
use Rattle.std.specs.Ordering.{nat_cmp, is_ge}
use Rattle.std.specs.declared.cmp.Ordering.{Ordering}
use Rattle.std.specs.declared.cmp.Ordering.TheVariants.{Less, Equal, Greater}
use Rattle.std.specs.Cmp.Lexicographic.{slice_cmp}
use Rattle.std.proofs.lemmas.List.{length-append}
use Rattle.model.specs.Cbor.{Item, Items, Pairs, Unsigned, Negative, Bytes, Array, Map, Null, NoItems, NextItem, NoPairs, NextPair, items_count, pairs_count, head, text_of, items_text, pairs_text, IsInRange, ItemsAreInRange, PairsAreInRange, IsBeforeFirst, HasRisingKeys, ItemsHaveRisingKeys, PairsHaveRisingKeys}
use Rattle.model.proofs.ItemTexts.{text_not_empty}
use Rattle.wellformed.specs.Misfits.{later, unless_after, late_key, items_late_key, pairs_late_key}

-- ---- places

pub or_assoc : (a b c : Option ℕ) → option_or (option_or a b) c ≡ option_or a (option_or b c)
or_assoc None b c = refl
or_assoc (Some p) b c = refl

pub or_nothing : (a : Option ℕ) → option_or a None ≡ a
or_nothing None = refl
or_nothing (Some p) = refl

or_none : (a b : Option ℕ) → option_or a b ≡ None → (a ≡ None) × (b ≡ None)
or_none None b e = (refl, e)
or_none (Some p) b e = absurd cc

both_none : (a b : Option ℕ) → a ≡ None → b ≡ None → option_or a b ≡ None
both_none None b p q = q
both_none (Some x) b p q = absurd cc

later_none : (n : ℕ) (a : Option ℕ) → later n a ≡ None → a ≡ None
later_none n None e = refl
later_none n (Some p) e = absurd cc

none_later : (n : ℕ) (a : Option ℕ) → a ≡ None → later n a ≡ None
none_later n None e = refl
none_later n (Some p) e = absurd cc

-- ---- keys in order

less_by : (o : Ordering) → cond {A = Option ℕ} (is_ge o) (Some 0) None ≡ None → o ≡ Less
less_by Less e = refl
less_by Equal e = absurd cc
less_by Greater e = absurd cc

less_is : (o : Ordering) → o ≡ Less → cond {A = Option ℕ} (is_ge o) (Some 0) None ≡ None
less_is Less e = refl
less_is Equal e = absurd cc
less_is Greater e = absurd cc

-- the text stands before the first key of these entries
abbrev IsBefore : List ℕ → Pairs → Type 0
IsBefore text NoPairs = Unit {0}
IsBefore text (NextPair k v ps) = slice_cmp nat_cmp text (text_of k) ≡ Less

is_before_first : (k : Item) (ps : Pairs) → IsBefore (text_of k) ps → IsBeforeFirst k ps
is_before_first k NoPairs h = tt
is_before_first k (NextPair l w ps) h = h

before_first_is : (k : Item) (ps : Pairs) → IsBeforeFirst k ps → IsBefore (text_of k) ps
before_first_is k NoPairs h = tt
before_first_is k (NextPair l w ps) h = h

-- no text at all stands before any text
less_than_all : (text : List ℕ) → ([] ≡ text → ⊥) → slice_cmp nat_cmp [] text ≡ Less
less_than_all [] h = absurd (h refl)
less_than_all (b ∷ bs) h = refl

nothing_before : (ps : Pairs) → PairsAreInRange ps → IsBefore [] ps
nothing_before NoPairs p = tt
nothing_before (NextPair k v ps) p = less_than_all (text_of k) (text_not_empty k p.0)

mutual
  -- where no key is late all rise
  pub rising : (item : Item) → late_key item ≡ None → HasRisingKeys item
  rising (Unsigned n) e = tt
  rising (Negative n) e = tt
  rising (Bytes bs) e = tt
  rising (Array is) e = items_rising is (later_none (length (head 4 (items_count is))) (items_late_key is) e)
  rising (Map ps) e = (pairs_rising [] ps (later_none (length (head 5 (pairs_count ps))) (pairs_late_key [] ps) e)).0
  rising Null e = tt

  items_rising : (is : Items) → items_late_key is ≡ None → ItemsHaveRisingKeys is
  items_rising NoItems e = tt
  items_rising (NextItem i is) e =
      let p = or_none (late_key i) (later (length (text_of i)) (items_late_key is)) e in
      (rising i p.0, items_rising is (later_none (length (text_of i)) (items_late_key is) p.1))

  pairs_rising : (before : List ℕ) (ps : Pairs) → pairs_late_key before ps ≡ None → PairsHaveRisingKeys ps × IsBefore before ps
  pairs_rising before NoPairs e = (tt, tt)
  pairs_rising before (NextPair k v ps) e =
      let u = unless_after before (text_of k) in
      let b = later (length (text_of k)) (late_key v) in
      let c = later (length (text_of k ++ text_of v)) (pairs_late_key (text_of k) ps) in
      let p = or_none (option_or (option_or u (late_key k)) b) c e in
      let q = or_none (option_or u (late_key k)) b p.0 in
      let r = or_none u (late_key k) q.0 in
      let others = pairs_rising (text_of k) ps (later_none (length (text_of k ++ text_of v)) (pairs_late_key (text_of k) ps) p.1) in (
        (rising k r.1, rising v (later_none (length (text_of k)) (late_key v) q.1), is_before_first k ps others.1, others.0),
        less_by (slice_cmp nat_cmp before (text_of k)) r.0,
      )

mutual
  -- and where all rise none is late
  pub in_order : (item : Item) → IsInRange item → HasRisingKeys item → late_key item ≡ None
  in_order (Unsigned n) f r = refl
  in_order (Negative n) f r = refl
  in_order (Bytes bs) f r = refl
  in_order (Array is) f r = none_later (length (head 4 (items_count is))) (items_late_key is) (items_in_order is f.1 r)
  in_order (Map ps) f r = none_later (length (head 5 (pairs_count ps))) (pairs_late_key [] ps) (pairs_in_order [] ps f.1 r (nothing_before ps f.1))
  in_order Null f r = refl

  items_in_order : (is : Items) → ItemsAreInRange is → ItemsHaveRisingKeys is → items_late_key is ≡ None
  items_in_order NoItems f r = refl
  items_in_order (NextItem i is) f r =
      both_none (late_key i) (later (length (text_of i)) (items_late_key is)) (in_order i f.0 r.0)
      (none_later (length (text_of i)) (items_late_key is) (items_in_order is f.1 r.1))

  pairs_in_order : (before : List ℕ) (ps : Pairs) → PairsAreInRange ps → PairsHaveRisingKeys ps → IsBefore before ps → pairs_late_key before ps ≡ None
  pairs_in_order before NoPairs f r b = refl
  pairs_in_order before (NextPair k v ps) f r b =
      let u = unless_after before (text_of k) in
      let w = later (length (text_of k)) (late_key v) in
      let c = later (length (text_of k ++ text_of v)) (pairs_late_key (text_of k) ps) in
      let first = both_none u (late_key k) (less_is (slice_cmp nat_cmp before (text_of k)) b) (in_order k f.0 r.0) in
      let second = none_later (length (text_of k)) (late_key v) (in_order v f.1 r.1) in
      let others = none_later (length (text_of k ++ text_of v)) (pairs_late_key (text_of k) ps) (pairs_in_order (text_of k) ps f.2 r.3 (before_first_is k ps r.2)) in
      both_none (option_or (option_or u (late_key k)) w) c (both_none (option_or u (late_key k)) w first second) others

-- ---- places within texts

abbrev pub IsWithin : ℕ → Option ℕ → Type 0
IsWithin n a = IfSome a (λ p. p ≤ n)

or_within : (n : ℕ) (a b : Option ℕ) → IsWithin n a → IsWithin n b → IsWithin n (option_or a b)
or_within n None b p q = q
or_within n (Some x) b p q = p

later_within : (n k m : ℕ) (a : Option ℕ) → IsWithin n a → k + n ≤ m → IsWithin m (later k a)
later_within n k m None p le = tt
later_within n k m (Some x) p le = omega arith

less_within : (n m : ℕ) (a : Option ℕ) → IsWithin n a → n ≤ m → IsWithin m a
less_within n m None p le = tt
less_within n m (Some x) p le = omega arith

start_within : (n : ℕ) (o : Ordering) → IsWithin n (cond {A = Option ℕ} (is_ge o) (Some 0) None)
start_within n Less = tt
start_within n Equal = omega arith
start_within n Greater = omega arith

mutual
  -- a late key begins within the text
  pub late_within : (item : Item) → IsWithin (length (text_of item)) (late_key item)
  late_within (Unsigned n) = tt
  late_within (Negative n) = tt
  late_within (Bytes bs) = tt
  late_within (Array is) = later_within (length (items_text is)) (length (head 4 (items_count is))) (length (text_of (Array is))) (items_late_key is) (items_late_within is) (omega (arith, length-append (head 4 (items_count is)) (items_text is)))
  late_within (Map ps) = later_within (length (pairs_text ps)) (length (head 5 (pairs_count ps))) (length (text_of (Map ps))) (pairs_late_key [] ps) (pairs_late_within [] ps) (omega (arith, length-append (head 5 (pairs_count ps)) (pairs_text ps)))
  late_within Null = tt

  items_late_within : (is : Items) → IsWithin (length (items_text is)) (items_late_key is)
  items_late_within NoItems = tt
  items_late_within (NextItem i is) =
      let len = length-append (text_of i) (items_text is) in
      let n = length (text_of i ++ items_text is) in
      or_within n (late_key i) (later (length (text_of i)) (items_late_key is))
      (less_within (length (text_of i)) n (late_key i) (late_within i) (omega (arith, len)))
      (later_within (length (items_text is)) (length (text_of i)) n (items_late_key is) (items_late_within is) (omega (arith, len)))

  pairs_late_within : (before : List ℕ) (ps : Pairs) → IsWithin (length (pairs_text ps)) (pairs_late_key before ps)
  pairs_late_within before NoPairs = tt
  pairs_late_within before (NextPair k v ps) =
      let n = length (text_of k ++ (text_of v ++ pairs_text ps)) in
      let outer = length-append (text_of k) (text_of v ++ pairs_text ps) in
      let inner = length-append (text_of v) (pairs_text ps) in
      let both = length-append (text_of k) (text_of v) in
      let u = unless_after before (text_of k) in
      let w = later (length (text_of k)) (late_key v) in
      let c = later (length (text_of k ++ text_of v)) (pairs_late_key (text_of k) ps) in
      or_within n (option_or (option_or u (late_key k)) w) c
      (or_within n (option_or u (late_key k)) w
      (or_within n u (late_key k) (start_within n (slice_cmp nat_cmp before (text_of k))) (less_within (length (text_of k)) n (late_key k) (late_within k) (omega (arith, outer))))
      (later_within (length (text_of v)) (length (text_of k)) n (late_key v) (late_within v) (omega (arith, outer, inner))))
      (later_within (length (pairs_text ps)) (length (text_of k ++ text_of v)) n (pairs_late_key (text_of k) ps) (pairs_late_within (text_of k) ps) (omega (arith, outer, inner, both)))
