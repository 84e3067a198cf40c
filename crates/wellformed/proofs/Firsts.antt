-- The first bytes of items, and that bytes whose first one may begin an item stop where their head does.
use Rattle.std.proofs.Common.{◌≡◌, ℕ, zero, suc, ◌+◌, ◌*◌, ◌/◌, ◌%◌, ◌^◌, ◌<◌, ◌≤◌, List, [], ◌∷◌, ◌++◌, length, refl, sym, ap, ap₂, subst, ◌∙◌, append_assoc, append-nil, arith, inl, inr}
use Rattle.std.specs.Prelude.{◌⊎◌}
use Rattle.std.specs.List.{AllByRecursion}
use Rattle.std.proofs.lemmas.Bool.{cases_lt}
use Rattle.model.specs.Cbor.{Item, Items, Pairs, Unsigned, Negative, Bytes, Array, Map, Null, NoItems, NextItem, NoPairs, NextPair, items_count, pairs_count, head, text_of, nesting, items_nesting, pairs_nesting, IsInRange, ItemsAreInRange, PairsAreInRange}
use Rattle.model.proofs.ItemTexts.{major_of, argument_of, contents_of}
use Rattle.wellformed.specs.Misfits.{IsFormed}
use Rattle.wellformed.specs.Stops.{BeginsLonger, BeginsNone, StopsAtInitial}
use Rattle.wellformed.specs.Parts.{low_bits, tail_of, IsTail, BeginsNest, MayBegin, IsItemText, AreFormed, EntriesAreFormed}
use Rattle.wellformed.proofs.Heads.{head_parts, low_small, direct, in_first}
use Rattle.wellformed.proofs.Stopping.{Completed, BeginsWith, StandsIn}

-- ---- heads of items

-- a text is a head and contents
pub in_parts : (item : Item) → text_of item ≡ head (major_of item) (argument_of item) ++ contents_of item
in_parts (Unsigned n) = sym (append-nil (head 0 n))
in_parts (Negative n) = sym (append-nil (head 1 n))
in_parts (Bytes bs) = refl
in_parts (Array is) = refl
in_parts (Map ps) = refl
in_parts Null = sym (append-nil (head 7 22))

-- the argument fits 8 bytes
pub argument_fits : (item : Item) → IsInRange item → argument_of item < 2 ^ 64
argument_fits (Unsigned n) p = p
argument_fits (Negative n) p = p
argument_fits (Bytes bs) p = p.0
argument_fits (Array is) p = p.0
argument_fits (Map ps) p = p.0
argument_fits Null p = omega arith

-- an item nests
pub nests_once : (item : Item) → 1 ≤ nesting item
nests_once (Unsigned n) = omega arith
nests_once (Negative n) = omega arith
nests_once (Bytes bs) = omega arith
nests_once (Array is) = omega arith
nests_once (Map ps) = omega arith
nests_once Null = omega arith

-- the first byte of a text, and what stands behind it
record FirstByte (item : Item) (first : ℕ) (x y : List ℕ) : Type 0 where
  is : first ≡ 32 * major_of item + low_bits (argument_of item)
  behind : tail_of (argument_of item) ++ (contents_of item ++ x) ≡ y

same_first : (a b : ℕ) (s t : List ℕ) → a ∷ s ≡ b ∷ t → (b ≡ a) × (s ≡ t)
same_first a b s t e = (cc, cc)

first_byte : (item : Item) (first : ℕ) (x y : List ℕ) → text_of item ++ x ≡ first ∷ y → FirstByte item first x y
first_byte item first x y e =
    let m = major_of item in
    let n = argument_of item in
    let parts : text_of item ++ x ≡ (32 * m + low_bits n) ∷ (tail_of n ++ (contents_of item ++ x)) =
    ap (λ (t : List ℕ). t ++ x) (in_parts item) ∙ append_assoc (head m n) (contents_of item) x ∙ ap (λ (h : List ℕ). h ++ (contents_of item ++ x)) (head_parts m n) in
    let s = same_first (32 * m + low_bits n) first (tail_of n ++ (contents_of item ++ x)) y (sym parts ∙ e) in
    record { is = s.0; behind = s.1 }

plain_may : (depth m n first : ℕ) → m < 3 → first ≡ 32 * m + low_bits n → MayBegin depth first
plain_may depth m n first lt e = inl (omega (arith, low_small n, e), omega (arith, low_small n, e))

nest_may : (depth m n first : ℕ) → 4 ≤ m → m < 6 → first ≡ 32 * m + low_bits n → (low_bits n ≡ 0) ⊎ (1 < depth) → MayBegin depth first
nest_may depth m n first ge lt e s =
    let small = low_small n in
    inr (inl (
      omega arith,
      omega arith,
      omega arith,
      elim s [
        | inl none ↦ inl (omega (arith, none))
        | inr deep ↦ inr deep
      ],
    ))

no_low : low_bits 0 ≡ 0
no_low = (in_first 0 (omega arith)).low_is

members_deep : (depth : ℕ) (is : Items) → suc (items_nesting is) ≤ depth → (low_bits (items_count is) ≡ 0) ⊎ (1 < depth)
members_deep depth NoItems le = inl no_low
members_deep depth (NextItem i is) le = inr (omega (arith, nests_once i))

entries_deep : (depth : ℕ) (ps : Pairs) → suc (pairs_nesting ps) ≤ depth → (low_bits (pairs_count ps) ≡ 0) ⊎ (1 < depth)
entries_deep depth NoPairs le = inl no_low
entries_deep depth (NextPair k v ps) le = inr (omega (arith, nests_once k))

-- the first byte of a formed item's text may begin one
first_may : (depth : ℕ) (item : Item) (first : ℕ) → nesting item ≤ depth → first ≡ 32 * major_of item + low_bits (argument_of item) → MayBegin depth first
first_may depth (Unsigned n) first le e = plain_may depth 0 n first (omega arith) e
first_may depth (Negative n) first le e = plain_may depth 1 n first (omega arith) e
first_may depth (Bytes bs) first le e = plain_may depth 2 (length bs) first (omega arith) e
first_may depth (Array is) first le e = nest_may depth 4 (items_count is) first (omega arith) (omega arith) e (members_deep depth is le)
first_may depth (Map ps) first le e = nest_may depth 5 (pairs_count ps) first (omega arith) (omega arith) e (entries_deep depth ps le)
first_may depth Null first le e =
    let t = (in_first 22 (omega arith)).low_is in
    inr (inr (omega (arith, t, e), omega (arith, t, e)))

-- ---- items of zeros

-- the number 0, which nests in no other item
pub zero_text : (depth : ℕ) → 0 < depth → IsItemText depth (0 ∷ [])
zero_text depth lt = record {
  item = Unsigned 0;
  formed = record { in_range = omega arith; nests = omega arith };
  is = sym ((in_first 0 (omega arith)).head_is 0);
}

-- so many bytes 0
pub zero_bytes : ℕ → List ℕ
zero_bytes zero = []
zero_bytes (suc n) = 0 ∷ zero_bytes n

pub length-zero_bytes : (n : ℕ) → length (zero_bytes n) ≡ n
unfolding zero_bytes
length-zero_bytes zero = refl
length-zero_bytes (suc n) = ap suc (length-zero_bytes n)

pub zero_are_bytes : (n : ℕ) → AllByRecursion (λ b. b < 256) (zero_bytes n)
unfolding zero_bytes
zero_are_bytes zero = tt
zero_are_bytes (suc n) = (omega arith, zero_are_bytes n)

-- so many members 0
pub zero_items : ℕ → Items
zero_items zero = NoItems
zero_items (suc n) = NextItem (Unsigned 0) (zero_items n)

pub zero_items_counted : (n : ℕ) → items_count (zero_items n) ≡ n
unfolding zero_items
zero_items_counted zero = refl
zero_items_counted (suc n) = ap suc (zero_items_counted n)

zero_items_in_range : (n : ℕ) → ItemsAreInRange (zero_items n)
unfolding zero_items
zero_items_in_range zero = tt
zero_items_in_range (suc n) = (omega arith, zero_items_in_range n)

zero_items_nest : (depth n : ℕ) → (0 < n → 0 < depth) → items_nesting (zero_items n) ≤ depth
unfolding zero_items
zero_items_nest depth zero lt = omega arith
zero_items_nest depth (suc n) lt =
    let deep : 0 < depth = lt (omega arith) in
    omega (arith, zero_items_nest depth n (λ h. deep), deep)

pub zero_items_formed : (depth n : ℕ) → (0 < n → 0 < depth) → AreFormed depth (zero_items n)
zero_items_formed depth n lt = record { in_range = zero_items_in_range n; nest = zero_items_nest depth n lt }

-- so many entries whose keys and values are 0
pub zero_pairs : ℕ → Pairs
zero_pairs zero = NoPairs
zero_pairs (suc n) = NextPair (Unsigned 0) (Unsigned 0) (zero_pairs n)

pub zero_pairs_counted : (n : ℕ) → pairs_count (zero_pairs n) ≡ n
unfolding zero_pairs
zero_pairs_counted zero = refl
zero_pairs_counted (suc n) = ap suc (zero_pairs_counted n)

zero_pairs_in_range : (n : ℕ) → PairsAreInRange (zero_pairs n)
unfolding zero_pairs
zero_pairs_in_range zero = tt
zero_pairs_in_range (suc n) = (omega arith, omega arith, zero_pairs_in_range n)

zero_pairs_nest : (depth n : ℕ) → (0 < n → 0 < depth) → pairs_nesting (zero_pairs n) ≤ depth
unfolding zero_pairs
zero_pairs_nest depth zero lt = omega arith
zero_pairs_nest depth (suc n) lt =
    let deep : 0 < depth = lt (omega arith) in
    omega (arith, zero_pairs_nest depth n (λ h. deep), deep)

pub zero_pairs_formed : (depth n : ℕ) → (0 < n → 0 < depth) → EntriesAreFormed depth (zero_pairs n)
zero_pairs_formed depth n lt = record { in_range = zero_pairs_in_range n; nest = zero_pairs_nest depth n lt }

-- ---- stops at the first byte

-- no byte is there
pub nothing_stops : (depth : ℕ) (bytes : List ℕ) → 0 < depth → length bytes ≡ 0 → BeginsLonger (IsItemText depth) bytes
nothing_stops depth [] lt e = record { next = 0; rest = []; is_text = zero_text depth lt }
nothing_stops depth (b ∷ bytes) lt e = absurd (omega arith)

begins_none : (depth first : ℕ) → (MayBegin depth first → ⊥) → BeginsNone (IsItemText depth) ([] ++ first ∷ [])
begins_none depth first refused text x y is e =
    let same : text_of is.item ++ x ≡ first ∷ y = ap (λ (t : List ℕ). t ++ x) (sym is.is) ∙ e in
    let f = first_byte is.item first x y same in
    let formed = is.formed in
    refused (first_may depth is.item first formed.nests f.is)

-- no item begins with 255
top_begins_none : (depth : ℕ) → MayBegin depth 255 → ⊥
top_begins_none depth may =
    elim may [
      | inl plain ↦ omega (arith, plain.0)
      | inr others ↦ elim others [
        | inl nest ↦ omega (arith, nest.1)
        | inr null ↦ omega (arith, null.1)
      ]
    ]

pub first_stops : (depth first : ℕ) (after : List ℕ) → 0 < depth → (MayBegin depth first → ⊥) → StopsAtInitial (IsItemText depth) (first ∷ after) (length (first ∷ after))
first_stops depth first after lt refused = record {
  stops = record { front = []; byte = first; after = after; parts = refl; left_is = refl; none = begins_none depth first refused };
  zero_may = record { rest = []; is_text = zero_text depth lt };
  top_may_not = begins_none depth 255 (top_begins_none depth);
}

-- ---- stops in the tail of the head

-- an item with this head
record HasHead (depth major argument : ℕ) : Type 0 where
  item : Item
  formed : IsFormed depth item
  major_is : major_of item ≡ major
  argument_is : argument_of item ≡ argument

plain_item : (depth major n : ℕ) → 0 < depth → n < 2 ^ 64 → major < 3 → HasHead depth major n
plain_item depth zero n deep fits lt = record { item = Unsigned n; formed = record { in_range = fits; nests = omega arith }; major_is = refl; argument_is = refl }
plain_item depth (suc zero) n deep fits lt = record { item = Negative n; formed = record { in_range = fits; nests = omega arith }; major_is = refl; argument_is = refl }
plain_item depth (suc (suc zero)) n deep fits lt = record {
  item = Bytes (zero_bytes n);
  formed = record { in_range = (omega (arith, length-zero_bytes n), zero_are_bytes n); nests = omega arith };
  major_is = refl;
  argument_is = length-zero_bytes n;
}
plain_item depth (suc (suc (suc m))) n deep fits lt = absurd (omega arith)

array_item : (depth n : ℕ) → n < 2 ^ 64 → (0 < n → 0 < depth) → HasHead (suc depth) 4 n
array_item depth n fits deep =
    let f = zero_items_formed depth n deep in
    record {
      item = Array (zero_items n);
      formed = record { in_range = (omega (arith, zero_items_counted n), f.in_range); nests = omega (arith, f.nest) };
      major_is = refl;
      argument_is = zero_items_counted n;
    }

map_item : (depth n : ℕ) → n < 2 ^ 64 → (0 < n → 0 < depth) → HasHead (suc depth) 5 n
map_item depth n fits deep =
    let f = zero_pairs_formed depth n deep in
    record {
      item = Map (zero_pairs n);
      formed = record { in_range = (omega (arith, zero_pairs_counted n), f.in_range); nests = omega (arith, f.nest) };
      major_is = refl;
      argument_is = zero_pairs_counted n;
    }

nest_item : (depth major n : ℕ) → n < 2 ^ 64 → (0 < n → 0 < depth) → 4 ≤ major → major < 6 → HasHead (suc depth) major n
nest_item depth major n fits deep ge lt =
    elim (cases_lt major 5) [
      | inl four ↦ let is : 4 ≡ major = omega (arith, four) in subst (λ (m : ℕ). HasHead (suc depth) m n) is (array_item depth n fits deep)
      | inr five ↦ let is : 5 ≡ major = omega (arith, five) in subst (λ (m : ℕ). HasHead (suc depth) m n) is (map_item depth n fits deep)
    ]

-- where nothing may nest the argument of an array or a map is 0
pub may_nest : (depth first n : ℕ) → BeginsNest (suc depth) first → low_bits n ≡ first % 32 → 0 < n → 0 < depth
may_nest depth first n nest e some =
    elim (nest.3) [
      | inl none ↦ absurd (omega (arith, direct n 0 (e ∙ none) (omega arith), some))
      | inr deep ↦ omega (arith, deep)
    ]

headed : (depth first n : ℕ) → MayBegin (suc depth) first → n < 2 ^ 64 → low_bits n ≡ first % 32 → HasHead (suc depth) (first / 32) n
headed depth first n may fits e =
    elim may [
      | inl plain ↦ plain_item (suc depth) (first / 32) n (omega arith) fits plain.0
      | inr others ↦ elim others [
        | inl nest ↦ nest_item depth (first / 32) n fits (may_nest depth first n nest e) nest.0 nest.1
        | inr null ↦
            let n-is : 22 ≡ n = sym (direct n 22 (e ∙ null.1) (omega arith)) in
            record { item = Null; formed = record { in_range = tt; nests = omega arith }; major_is = sym null.0; argument_is = n-is }
      ]
    ]

completed : (depth first : ℕ) (text : List ℕ) → MayBegin (suc depth) first → IsTail (first % 32) text → Completed (IsItemText (suc depth)) (first ∷ []) text
completed depth first text may is =
    let n = is.argument in
    let h = headed depth first n may is.fits is.low_is in
    let m = major_of h.item in
    let c = contents_of h.item in
    let byte : first ≡ 32 * m + low_bits n = omega (arith, h.major_is, is.low_is) in
    let spelled : first ∷ (text ++ c) ≡ text_of h.item = ap₂ (λ (b : ℕ) (t : List ℕ). b ∷ (t ++ c)) byte is.is ∙ ap (λ (t : List ℕ). t ++ c) (sym (head_parts m n)) ∙ ap (λ (k : ℕ). head m k ++ c) (sym h.argument_is) ∙ sym (in_parts h.item) in
    record { rest = c; is_text = record { item = h.item; formed = h.formed; is = spelled } }

opened : (depth first : ℕ) (text x y : List ℕ) → IsItemText depth text → text ++ x ≡ (first ∷ []) ++ y → BeginsWith (IsTail (first % 32)) y
opened depth first text x y is e =
    let item = is.item in
    let formed = is.formed in
    let same : text_of item ++ x ≡ first ∷ y = ap (λ (t : List ℕ). t ++ x) (sym is.is) ∙ e in
    let f = first_byte item first x y same in
    let n = argument_of item in
    record {
      text = tail_of n;
      rest = contents_of item ++ x;
      is_text = record { argument = n; fits = argument_fits item formed.in_range; low_is = omega (arith, f.is, low_small n); is = refl };
      parts = f.behind;
    }

-- behind a first byte that may begin an item stands a tail
pub tail_stands : (depth first : ℕ) → 0 < depth → MayBegin depth first → StandsIn (IsItemText depth) (IsTail (first % 32)) (first ∷ [])
tail_stands zero first lt may = absurd (omega arith)
tail_stands (suc depth) first lt may = record {
  completed = λ text is. completed depth first text may is;
  opened = opened (suc depth) first;
}
