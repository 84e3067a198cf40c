-- No text of an item begins another item's, whatever follows it. That the keys of maps rise and how deep
-- items nest is not used here, so that what a text cannot be follows as well.
use Rattle.std.proofs.Common.{◌≡◌, ℕ, ◌+◌, ◌*◌, ◌^◌, ◌<◌, List, [], ◌∷◌, ◌++◌, length, refl, sym, ap, ap₂, ◌∙◌, append_assoc, append-nil, arith}
use Rattle.model.specs.Cbor.{Item, Items, Pairs, Unsigned, Negative, Bytes, Array, Map, Null, NoItems, NextItem, NoPairs, NextPair, items_count, pairs_count, head, text_of, items_text, pairs_text, IsInRange, ItemsAreInRange, PairsAreInRange, HasText, Spells}
use Rattle.model.proofs.HeadLemmas.{same_beginnings, SameHeads, same_heads, HeadSays, head_says, head_not_empty}

-- the major type of an item, the argument of its head, and what comes after the head
abbrev pub major_of : Item → ℕ
major_of (Unsigned n) = 0
major_of (Negative n) = 1
major_of (Bytes bs) = 2
major_of (Array is) = 4
major_of (Map ps) = 5
major_of Null = 7

abbrev pub argument_of : Item → ℕ
argument_of (Unsigned n) = n
argument_of (Negative n) = n
argument_of (Bytes bs) = length bs
argument_of (Array is) = items_count is
argument_of (Map ps) = pairs_count ps
argument_of Null = 22

abbrev pub contents_of : Item → List ℕ
contents_of (Unsigned n) = []
contents_of (Negative n) = []
contents_of (Bytes bs) = bs
contents_of (Array is) = items_text is
contents_of (Map ps) = pairs_text ps
contents_of Null = []

-- a text is a head and what comes after it
text_in_parts : (a : Item) → text_of a ≡ head (major_of a) (argument_of a) ++ contents_of a
text_in_parts (Unsigned n) = sym (append-nil (head 0 n))
text_in_parts (Negative n) = sym (append-nil (head 1 n))
text_in_parts (Bytes bs) = refl
text_in_parts (Array is) = refl
text_in_parts (Map ps) = refl
text_in_parts Null = sym (append-nil (head 7 22))

-- the argument fits 8 bytes
argument_fits : (a : Item) → IsInRange a → argument_of a < 2 ^ 64
argument_fits (Unsigned n) p = p
argument_fits (Negative n) p = p
argument_fits (Bytes bs) p = p.0
argument_fits (Array is) p = p.0
argument_fits (Map ps) p = p.0
argument_fits Null p = omega arith

-- equal texts begin with equal heads
same_starts : (a b : Item) (x y : List ℕ) → IsInRange a → IsInRange b → text_of a ++ x ≡ text_of b ++ y
    → SameHeads (major_of a) (major_of b) (argument_of a) (argument_of b) (contents_of a ++ x) (contents_of b ++ y)
same_starts a b x y p q e =
    let start : (c : Item) (z : List ℕ) → text_of c ++ z ≡ head (major_of c) (argument_of c) ++ (contents_of c ++ z) =
    λ c z. ap (λ (t : List ℕ). t ++ z) (text_in_parts c) ∙ append_assoc (head (major_of c) (argument_of c)) (contents_of c) z in
    same_heads (major_of a) (major_of b) (argument_of a) (argument_of b) (contents_of a ++ x) (contents_of b ++ y) (argument_fits a p) (argument_fits b q) (sym (start a x) ∙ e ∙ start b y)

-- the same values, and the same bytes after their texts
pub record Same {V : Type 0} (a b : V) (x y : List ℕ) : Type 0 where
  pub value : a ≡ b
  pub rest : x ≡ y

mutual
  -- where texts with something behind them are equal, the items are, and so is what stands behind
  pub same_item : (a b : Item) (x y : List ℕ) → IsInRange a → IsInRange b → text_of a ++ x ≡ text_of b ++ y → Same a b x y
  same_item (Unsigned m) (Unsigned n) x y p q e =
      let s = same_starts (Unsigned m) (Unsigned n) x y p q e in
      record { value = ap Unsigned s.argument; rest = s.rest }
  same_item (Negative m) (Negative n) x y p q e =
      let s = same_starts (Negative m) (Negative n) x y p q e in
      record { value = ap Negative s.argument; rest = s.rest }
  same_item (Bytes bs) (Bytes cs) x y p q e =
      let s = same_starts (Bytes bs) (Bytes cs) x y p q e in
      let r = same_beginnings bs cs x y s.argument s.rest in
      record { value = ap Bytes r.0; rest = r.1 }
  same_item (Array is) (Array js) x y p q e =
      let s = same_starts (Array is) (Array js) x y p q e in
      let r = same_items is js x y s.argument p.1 q.1 s.rest in
      record { value = ap Array r.value; rest = r.rest }
  same_item (Map ps) (Map qs) x y p q e =
      let s = same_starts (Map ps) (Map qs) x y p q e in
      let r = same_pairs ps qs x y s.argument p.1 q.1 s.rest in
      record { value = ap Map r.value; rest = r.rest }
  same_item Null Null x y p q e =
      let s = same_starts Null Null x y p q e in
      record { value = refl; rest = s.rest }
  same_item a b x y p q e = absurd (omega (arith, (same_starts a b x y p q e).major))

  -- the same of the members of arrays that have as many
  pub same_items : (is js : Items) (x y : List ℕ) → items_count is ≡ items_count js → ItemsAreInRange is → ItemsAreInRange js → items_text is ++ x ≡ items_text js ++ y → Same is js x y
  same_items NoItems NoItems x y c p q e = record { value = refl; rest = e }
  same_items (NextItem i is) (NextItem j js) x y c p q e =
      let texts : text_of i ++ (items_text is ++ x) ≡ text_of j ++ (items_text js ++ y) = sym (append_assoc (text_of i) (items_text is) x) ∙ e ∙ append_assoc (text_of j) (items_text js) y in
      let first = same_item i j (items_text is ++ x) (items_text js ++ y) p.0 q.0 texts in
      let others = same_items is js x y (omega (arith, c)) p.1 q.1 first.rest in
      record { value = ap₂ NextItem first.value others.value; rest = others.rest }
  same_items is js x y c p q e = absurd (omega (arith, c))

  -- and of the entries of maps that have as many
  pub same_pairs : (ps qs : Pairs) (x y : List ℕ) → pairs_count ps ≡ pairs_count qs → PairsAreInRange ps → PairsAreInRange qs → pairs_text ps ++ x ≡ pairs_text qs ++ y → Same ps qs x y
  same_pairs NoPairs NoPairs x y c p q e = record { value = refl; rest = e }
  same_pairs (NextPair k v ps) (NextPair l w qs) x y c p q e =
      let start : (k v : Item) (ps : Pairs) (z : List ℕ) → pairs_text (NextPair k v ps) ++ z ≡ text_of k ++ (text_of v ++ (pairs_text ps ++ z)) =
      λ k v ps z. append_assoc (text_of k) (text_of v ++ pairs_text ps) z ∙ ap (λ (t : List ℕ). text_of k ++ t) (append_assoc (text_of v) (pairs_text ps) z) in
      let key = same_item k l (text_of v ++ (pairs_text ps ++ x)) (text_of w ++ (pairs_text qs ++ y)) p.0 q.0 (sym (start k v ps x) ∙ e ∙ start l w qs y) in
      let value = same_item v w (pairs_text ps ++ x) (pairs_text qs ++ y) p.1 q.1 key.rest in
      let others = same_pairs ps qs x y (omega (arith, c)) p.2 q.2 value.rest in
      record { value = λ i. NextPair (key.value i) (value.value i) (others.value i); rest = others.rest }
  same_pairs ps qs x y c p q e = absurd (omega (arith, c))

-- bytes are the text of one item
pub one_item : (a b : Item) (bytes : List ℕ) → Spells a bytes → Spells b bytes → a ≡ b
one_item a b bytes p q =
    let e : text_of a ++ [] ≡ text_of b ++ [] = ap (λ (t : List ℕ). t ++ []) (sym p.spelled ∙ q.spelled) in
    (same_item a b [] [] p.has_text.in_range q.has_text.in_range e).value

-- no item's text begins another's
pub items_apart : (a b : Item) (x y : List ℕ) → HasText a → HasText b → text_of a ++ x ≡ text_of b ++ y → (a ≡ b) × (x ≡ y)
items_apart a b x y p q e =
    let s = same_item a b x y p.in_range q.in_range e in
    (s.value, s.rest)

-- ---- what bytes say of an item whose text they are

-- the first byte and those after it say the major type and the argument
pub start_says : (item : Item) (m low : ℕ) (rest : List ℕ) → IsInRange item → low < 32 → (32 * m + low) ∷ rest ≡ text_of item → HeadSays (major_of item) (argument_of item) m low rest
start_says item m low rest p lt e =
    head_says (major_of item) (argument_of item) (contents_of item) m low rest (argument_fits item p) lt (sym (text_in_parts item) ∙ sym e)

-- no item has the empty text
pub text_not_empty : (item : Item) → IsInRange item → [] ≡ text_of item → ⊥
text_not_empty item p e = head_not_empty (major_of item) (argument_of item) (contents_of item) (argument_fits item p) (sym (text_in_parts item) ∙ sym e)

-- an item of major type 0 is the number that its head says
pub unsigned_of_major : (item : Item) → major_of item ≡ 0 → item ≡ Unsigned (argument_of item)
unsigned_of_major (Unsigned n) e = refl
unsigned_of_major item e = absurd (omega arith)

-- of major type 7 there is null alone
pub argument_of_null : (item : Item) → major_of item ≡ 7 → argument_of item ≡ 22
argument_of_null Null e = refl
argument_of_null item e = absurd (omega arith)

-- bytes that spell this item are the text of any item that they spell
pub the_item : (item known : Item) (bytes : List ℕ) → Spells item bytes → IsInRange known → bytes ≡ text_of known → item ≡ known
the_item item known bytes p q e =
    (same_item item known [] [] p.has_text.in_range q (ap (λ (t : List ℕ). t ++ []) (sym p.spelled ∙ e))).value
