-- The two laws of each shape: what is read is spelled so (`takes`), and what is spelled so is read, whatever
-- follows it (`again`).
use Rattle.std.proofs.Common.{◌≡◌, ◌≢◌, ℕ, suc, ◌+◌, ◌*◌, ◌/◌, ◌%◌, ◌^◌, ◌<◌, ◌≤◌, Bool, true, false, not, eqb, ltb, leb, List, [], ◌∷◌, ◌++◌, length, Option, Some, None, refl, sym, ap, subst, ◌∙◌, append_assoc, append-nil, arith, inl, inr}
use Rattle.std.specs.Prelude.{◌⊎◌, IfSome, Result, Ok, Err, IfOk, IfErr}
use Rattle.std.proofs.lemmas.Bool.{ltb-true, lt-ltb, leb-true, le-leb, eqb-true, eq-eqb}
use Rattle.model.specs.Cbor.{Item, Items, Unsigned, Negative, Bytes, Array, Map, Null, NoItems, NextItem, head, text_of, items_count, items_text, pairs_count, pairs_text, nesting, items_nesting, IsInRange, ItemsAreInRange, HasRisingKeys, ItemsHaveRisingKeys, HasText}
use Rattle.model.proofs.HeadLemmas.{head_says}
use Rattle.cbor.specs.declared.fault.CborFault.{CborFault}
use Rattle.cbor.specs.declared.fault.CborFault.TheVariants as faults
use Rattle.cbor.specs.Reading.{head_at, bytes_at, fixed_at, null_at}
use Rattle.cbor.specs.Gives.{Gives, Refuses, IfMalformed}
use Rattle.cbor.specs.Texts.{BeginsWithText}
use Rattle.cbor.specs.Shapes.{Reading, such_at, as_at, made_at, bounded_at, short_at, or_else, either_at, unless_null, optional_at, nothing_at, both_at, members_at, array_at, nonempty_at}
use Rattle.cbor.proofs.Steps.{IsBytes, AllByRecursion-bytes, bind_some, guard-true, some_is, Takes, Takes-then}
use Rattle.cbor.proofs.Reading.{head_takes, head_again, bytes_takes, bytes_again, fixed_takes, fixed_again, null_takes, null_again}

-- what is asked of an item that has a text, beside how deep it nests
pub record Fits (item : Item) : Type 0 where
  pub in_range : IsInRange item
  pub rising : HasRisingKeys item

-- the same of the members of an array
pub record AllFit (is : Items) : Type 0 where
  pub in_range : ItemsAreInRange is
  pub rising : ItemsHaveRisingKeys is

-- the text of an item that nests at most so deep stands in front
pub record TakesItem (depth : ℕ) (item : Item) (bytes rest : List ℕ) : Type 0 where
  pub takes : Takes bytes (text_of item) rest
  pub fits : Fits item
  pub nests : nesting item ≤ depth

-- the texts of such items stand in front, one after the other
pub record TakesItems (depth : ℕ) (is : Items) (bytes rest : List ℕ) : Type 0 where
  pub takes : Takes bytes (items_text is) rest
  pub fits : AllFit is
  pub nest : items_nesting is ≤ depth

-- The laws of a reading of items: of which item a thing is read, which things are read, and how deep the items
-- nest at most.
pub record ReadsItem {A : Type 0} (item_of : A → Item) (P : A → Type 0) (depth : ℕ) (read : Reading A) : Type 0 where
  pub takes : (bytes : List ℕ) (a : A) (rest : List ℕ) → IsBytes bytes → read bytes ≡ Some (a, rest) → TakesItem depth (item_of a) bytes rest × P a
  pub again : (a : A) (rest : List ℕ) → Fits (item_of a) → P a → read (text_of (item_of a) ++ rest) ≡ Some (a, rest)

-- the same of a reading of several items, one after the other
pub record ReadsItems {A : Type 0} (items : A → Items) (P : A → Type 0) (depth : ℕ) (read : Reading A) : Type 0 where
  pub takes : (bytes : List ℕ) (a : A) (rest : List ℕ) → IsBytes bytes → read bytes ≡ Some (a, rest) → TakesItems depth (items a) bytes rest × P a
  pub again : (a : A) (rest : List ℕ) → AllFit (items a) → P a → read (items_text (items a) ++ rest) ≡ Some (a, rest)

-- ---- numbers and byte strings

-- an unsigned number
pub unsigned_reads : (depth : ℕ) → ReadsItem Unsigned (λ n. Unit {0}) (suc depth) (head_at 0)
unsigned_reads depth = record {
  takes = λ bytes n rest fits e.
      let t = head_takes 0 bytes n rest fits e in
      (record { takes = t.0; fits = record { in_range = t.1; rising = tt }; nests = omega arith }, tt);
  again = λ n rest fits p. head_again 0 n rest fits.in_range;
}

-- a negative number
pub negative_reads : (depth : ℕ) → ReadsItem Negative (λ n. Unit {0}) (suc depth) (head_at 1)
negative_reads depth = record {
  takes = λ bytes n rest fits e.
      let t = head_takes 1 bytes n rest fits e in
      (record { takes = t.0; fits = record { in_range = t.1; rising = tt }; nests = omega arith }, tt);
  again = λ n rest fits p. head_again 1 n rest fits.in_range;
}

-- a byte string
pub string_reads : (depth : ℕ) → ReadsItem Bytes (λ text. Unit {0}) (suc depth) bytes_at
string_reads depth = record {
  takes = λ bytes text rest fits e.
      let t = bytes_takes bytes text rest fits e in
      (record { takes = t.0; fits = record { in_range = (t.1, AllByRecursion-bytes text t.2); rising = tt }; nests = omega arith }, tt);
  again = λ text rest fits p. bytes_again text rest fits.in_range.0;
}

-- a byte string of exactly `count` bytes
pub fixed_reads : (depth count : ℕ) → count < 2 ^ 64 → ReadsItem Bytes (λ text. length text ≡ count) (suc depth) (fixed_at count)
fixed_reads depth count lt = record {
  takes = λ bytes text rest fits e.
      let t = fixed_takes count bytes text rest fits e in (
        record {
          takes = subst (λ (k : ℕ). Takes bytes (head 2 k ++ text) rest) (sym t.1) t.0;
          fits = record { in_range = (omega (arith, t.1), AllByRecursion-bytes text t.2); rising = tt };
          nests = omega arith;
        },
        t.1,
      );
  again = λ text rest fits len. subst (λ (k : ℕ). fixed_at count ((head 2 k ++ text) ++ rest) ≡ Some (text, rest)) (sym len) (fixed_again count text rest lt len);
}

-- ---- tests and other types

-- what is read and passes a test
pub such_reads : {A : Type 0} {item_of : A → Item} {P : A → Type 0} {depth : ℕ} {read : Reading A} (test : A → Bool) (Q : A → Type 0) → ((a : A) → P a → test a ≡ true → Q a) → ((a : A) → Q a → P a × (test a ≡ true))
    → ReadsItem item_of P depth read → ReadsItem item_of Q depth (such_at test read)
unfolding such_at
such_reads {A} {item_of} {P} {depth} {read} test Q passes fails laws = record {
  takes = λ bytes a rest fits e.
      let x = bind_some (read bytes) _ (a, rest) e in
      let g = guard-true (test x.0.0) _ (a, rest) x.2 in
      let t = laws.takes bytes x.0.0 x.0.1 fits x.1 in
      subst (λ (y : A × List ℕ). TakesItem depth (item_of y.0) bytes y.1 × Q y.0) (some_is (x.0.0, x.0.1) (a, rest) g.1) (t.0, passes x.0.0 t.1 g.0);
  again = λ a rest fits q.
      let p = fails a q in
      rw (laws.again a rest fits p.0, p.1) refl;
}

-- what is read as data of another type, which has the same items
pub as_reads : {A B : Type 0} {item_of : A → Item} {P : A → Type 0} {depth : ℕ} {read : Reading A} (to : A → B) (other : B → Item) (Q : B → Type 0) → ((a : A) → P a → (other (to a) ≡ item_of a) × Q (to a))
    → ((b : B) → Q b → (a : A) × P a × (to a ≡ b)) → ReadsItem item_of P depth read → ReadsItem other Q depth (as_at to read)
unfolding as_at
as_reads {A} {B} {item_of} {P} {depth} {read} to other Q onto back laws = record {
  takes = λ bytes b rest fits e.
      let x = bind_some (read bytes) _ (b, rest) e in
      let t = laws.takes bytes x.0.0 x.0.1 fits x.1 in
      let o = onto x.0.0 t.1 in
      subst (λ (y : B × List ℕ). TakesItem depth (other y.0) bytes y.1 × Q y.0) (some_is (to x.0.0, x.0.1) (b, rest) x.2)
      (subst (λ (k : Item). TakesItem depth k bytes x.0.1) (sym o.0) t.0, o.1);
  again = λ b rest fits q.
      let k = back b q in
      let same : other b ≡ item_of k.0 = ap other (sym k.2) ∙ (onto k.0 k.1).0 in
      let again = laws.again k.0 rest (subst Fits same fits) k.1 in
      rw same (rw again (ap (λ (y : B). some_with rest y) k.2));
}
  where
    some_with : {B : Type 0} → List ℕ → B → Option (B × List ℕ)
    some_with rest y = Some (y, rest)

-- the same things, said otherwise
pub same_reads : {A : Type 0} {item_of : A → Item} {P : A → Type 0} {depth : ℕ} {read : Reading A} (Q : A → Type 0) → ((a : A) → P a → Q a) → ((a : A) → Q a → P a) → ReadsItem item_of P depth read → ReadsItem item_of Q depth read
same_reads Q to from laws = record {
  takes = λ bytes a rest fits e. let t = laws.takes bytes a rest fits e in (t.0, to a t.1);
  again = λ a rest fits q. laws.again a rest fits (from a q);
}

-- what is read as data that is made of other data, and has the same item
pub made_reads : {A B : Type 0} {item_of : A → Item} {P : A → Type 0} {depth : ℕ} {read : Reading A} (make : A → Option B) (other : B → Item) (Q : B → Type 0) → ((a : A) (b : B) → P a → make a ≡ Some b → (other b ≡ item_of a) × Q b)
    → ((b : B) → Q b → (a : A) × P a × (other b ≡ item_of a) × (make a ≡ Some b)) → ReadsItem item_of P depth read → ReadsItem other Q depth (made_at make read)
unfolding made_at
made_reads {A} {B} {item_of} {P} {depth} {read} make other Q onto back laws = record {
  takes = λ bytes b rest fits e.
      let x = bind_some (read bytes) _ (b, rest) e in
      let y = bind_some (make x.0.0) _ (b, rest) x.2 in
      let t = laws.takes bytes x.0.0 x.0.1 fits x.1 in
      let o = onto x.0.0 y.0 t.1 y.1 in
      subst (λ (z : B × List ℕ). TakesItem depth (other z.0) bytes z.1 × Q z.0) (some_is (y.0, x.0.1) (b, rest) y.2)
      (subst (λ (k : Item). TakesItem depth k bytes x.0.1) (sym o.0) t.0, o.1);
  again = λ b rest fits q.
      let k = back b q in
      rw k.2 (rw (laws.again k.0 rest (subst Fits k.2 fits) k.1, k.3) refl);
}

-- what nests at most so deep nests at most deeper
pub deeper_reads : {A : Type 0} {item_of : A → Item} {P : A → Type 0} {depth : ℕ} {read : Reading A} (deep : ℕ) → depth ≤ deep → ReadsItem item_of P depth read → ReadsItem item_of P deep read
deeper_reads deep le laws = record {
  takes = λ bytes a rest fits e.
      let t = laws.takes bytes a rest fits e in
      (record { takes = t.0.takes; fits = t.0.fits; nests = omega (arith, le, t.0.nests) }, t.1);
  again = laws.again;
}

-- an unsigned number below a limit
pub bounded_reads : (depth limit : ℕ) → ReadsItem Unsigned (λ n. n < limit) (suc depth) (bounded_at limit)
unfolding bounded_at
bounded_reads depth limit = such_reads (λ n. ltb n limit) (λ n. n < limit) (λ n p t. ltb-true _ _ t) (λ n lt. (tt, lt-ltb n limit lt)) (unsigned_reads depth)

-- a byte string of at most `most` bytes
pub short_reads : (depth most : ℕ) → ReadsItem Bytes (λ text. length text ≤ most) (suc depth) (short_at most)
unfolding short_at
short_reads depth most = such_reads (λ text. leb (length text) most) (λ text. length text ≤ most) (λ text p t. leb-true _ _ t) (λ text le. (tt, le-leb _ _ le)) (string_reads depth)

-- a list that is not empty
pub nonempty_reads : {A : Type 0} {item_of : List A → Item} {P : List A → Type 0} {depth : ℕ} {read : Reading (List A)} → ReadsItem item_of P depth read → ReadsItem item_of (λ xs. P xs × (xs ≢ [])) depth (nonempty_at read)
unfolding nonempty_at
nonempty_reads {A} {item_of} {P} {depth} {read} laws = such_reads (λ xs. not (eqb (length xs) 0)) (λ xs. P xs × (xs ≢ [])) (λ xs p t. (p, some xs t)) (λ xs p. (p.0, counts xs p.1)) laws
  where
    some : {A : Type 0} (xs : List A) → not (eqb (length xs) 0) ≡ true → xs ≢ []
    some [] h = absurd cc
    some (x ∷ xs) h = λ same. absurd cc

    counts : {A : Type 0} (xs : List A) → xs ≢ [] → not (eqb (length xs) 0) ≡ true
    counts [] h = absurd (h refl)
    counts (x ∷ xs) h = grind arith

-- ---- one of two shapes

apart : (m n : ℕ) → m ≢ n → eqb m n ≡ false
apart m n h = grind (arith, h)

other_bytes : (m other n : ℕ) (rest bytes : List ℕ) → n < 2 ^ 64 → m ≢ other → bytes ≡ head m n ++ rest → head_at other bytes ≡ None
unfolding head_at
other_bytes m other n rest [] lt ne e = refl
other_bytes m other n rest (b ∷ bs) lt ne e =
    let parts : 32 * (b / 32) + b % 32 ≡ b = omega arith in
    let says = head_says m n rest (b / 32) (b % 32) bs lt (omega arith) (sym e ∙ ap (λ (x : ℕ). x ∷ bs) (sym parts)) in
    let major : eqb (b / 32) other ≡ false = apart (b / 32) other (λ same. ne (says.same_major ∙ same)) in
    rw major refl

-- a head is not one of another major type
pub other_head : (m other n : ℕ) (rest : List ℕ) → n < 2 ^ 64 → m ≢ other → head_at other (head m n ++ rest) ≡ None
other_head m other n rest lt ne = other_bytes m other n rest (head m n ++ rest) lt ne refl

-- the major type of an item
abbrev pub major_of : Item → ℕ
major_of (Unsigned n) = 0
major_of (Negative n) = 1
major_of (Bytes bs) = 2
major_of (Array is) = 4
major_of (Map ps) = 5
major_of Null = 7

-- an item is not read as one of another major type
pub other_major : (item : Item) (major : ℕ) (rest : List ℕ) → Fits item → major_of item ≢ major → head_at major (text_of item ++ rest) ≡ None
other_major (Unsigned n) major rest fits ne = other_head 0 major n rest fits.in_range ne
other_major (Negative n) major rest fits ne = other_head 1 major n rest fits.in_range ne
other_major (Bytes bs) major rest fits ne = ap (head_at major) (append_assoc (head 2 (length bs)) bs rest) ∙ other_head 2 major (length bs) (bs ++ rest) fits.in_range.0 ne
other_major (Array is) major rest fits ne = ap (head_at major) (append_assoc (head 4 (items_count is)) (items_text is) rest) ∙ other_head 4 major (items_count is) (items_text is ++ rest) fits.in_range.0 ne
other_major (Map ps) major rest fits ne = ap (head_at major) (append_assoc (head 5 (pairs_count ps)) (pairs_text ps) rest) ∙ other_head 5 major (pairs_count ps) (pairs_text ps ++ rest) fits.in_range.0 ne
other_major Null major rest fits ne = other_head 7 major 22 rest (omega arith) ne

by_one : {A : Type 0} (first second : Option A) (x : A) → or_else first second ≡ Some x → (first ≡ Some x) ⊎ (second ≡ Some x)
by_one (Some y) second x e = inl e
by_one None second x e = inr e

-- what one of two readings gives, of which the first does not read what the second one does
pub either_reads : {A : Type 0} {item_of : A → Item} {P Q : A → Type 0} {depth : ℕ} {first second : Reading A} → ((a : A) (rest : List ℕ) → Fits (item_of a) → Q a → first (text_of (item_of a) ++ rest) ≡ None)
    → ReadsItem item_of P depth first → ReadsItem item_of Q depth second → ReadsItem item_of (λ a. P a ⊎ Q a) depth (either_at first second)
unfolding either_at
either_reads {A} {item_of} {P} {Q} {depth} {first} {second} none one other = record {
  takes = λ bytes a rest fits e. elim (by_one (first bytes) (second bytes) (a, rest) e) [
    | inl f ↦ let t = one.takes bytes a rest fits f in (t.0, inl t.1)
    | inr s ↦ let t = other.takes bytes a rest fits s in (t.0, inr t.1)
  ];
  again = λ a rest fits which. elim which [
    | inl p ↦ rw (one.again a rest fits p) refl
    | inr q ↦ rw (none a rest fits q, other.again a rest fits q) refl
  ];
}

-- an item that is not null is not read as null
not_null : (item : Item) (rest : List ℕ) → Fits item → major_of item ≢ 7 → null_at (text_of item ++ rest) ≡ None
unfolding null_at
not_null item rest fits ne = rw (other_major item 7 rest fits ne) refl

optional_takes : {A : Type 0} (item_of : A → Item) (P : A → Type 0) (depth : ℕ) (read : Reading A) (or_null : Option A → Item) → Null ≡ or_null None → ((a : A) → item_of a ≡ or_null (Some a)) → ReadsItem item_of P (suc depth) read
    → (found : Option (List ℕ)) (bytes : List ℕ) (o : Option A) (rest : List ℕ) → IsBytes bytes → null_at bytes ≡ found → unless_null read found bytes ≡ Some (o, rest) → TakesItem (suc depth) (or_null o) bytes rest × IfSome o P
optional_takes {A} item_of P depth read or_null nothing some laws (Some after) bytes o rest fits null e =
    let taken : TakesItem (suc depth) Null bytes after = record { takes = null_takes bytes after fits null; fits = record { in_range = tt; rising = tt }; nests = omega arith } in
    subst (λ (y : Option A × List ℕ). TakesItem (suc depth) (or_null y.0) bytes y.1 × IfSome y.0 P) (some_is (None, after) (o, rest) e)
    (subst (λ (k : Item). TakesItem (suc depth) k bytes after) nothing taken, tt)
optional_takes {A} item_of P depth read or_null nothing some laws None bytes o rest fits null e =
    let x = bind_some (read bytes) _ (o, rest) e in
    let t = laws.takes bytes x.0.0 x.0.1 fits x.1 in
    subst (λ (y : Option A × List ℕ). TakesItem (suc depth) (or_null y.0) bytes y.1 × IfSome y.0 P) (some_is (Some x.0.0, x.0.1) (o, rest) x.2)
    (subst (λ (k : Item). TakesItem (suc depth) k bytes x.0.1) (some x.0.0) t.0, t.1)

optional_again : {A : Type 0} (item_of : A → Item) (P : A → Type 0) (depth : ℕ) (read : Reading A) (or_null : Option A → Item) → Null ≡ or_null None → ((a : A) → item_of a ≡ or_null (Some a)) → ((a : A) → P a → major_of (item_of a) ≢ 7)
    → ReadsItem item_of P (suc depth) read → (o : Option A) (rest : List ℕ) → Fits (or_null o) → IfSome o P → optional_at read (text_of (or_null o) ++ rest) ≡ Some (o, rest)
unfolding optional_at
optional_again item_of P depth read or_null nothing some other laws None rest fits p = rw (sym nothing) (rw (null_again rest) refl)
optional_again item_of P depth read or_null nothing some other laws (Some a) rest fits p =
    let fit = subst Fits (sym (some a)) fits in
    rw (sym (some a)) (rw (not_null (item_of a) rest fit (other a p), laws.again a rest fit p) refl)

-- null, or an item that is not null
pub optional_reads : {A : Type 0} {item_of : A → Item} {P : A → Type 0} {depth : ℕ} {read : Reading A} (or_null : Option A → Item) → Null ≡ or_null None → ((a : A) → item_of a ≡ or_null (Some a)) → ((a : A) → P a → major_of (item_of a) ≢ 7)
    → ReadsItem item_of P (suc depth) read → ReadsItem or_null (λ o. IfSome o P) (suc depth) (optional_at read)
unfolding optional_at
optional_reads {A} {item_of} {P} {depth} {read} or_null nothing some other laws = record {
  takes = λ bytes o rest fits e. optional_takes item_of P depth read or_null nothing some laws (null_at bytes) bytes o rest fits refl e;
  again = optional_again item_of P depth read or_null nothing some other laws;
}

-- ---- arrays

-- nothing was taken
pub no_items : (depth : ℕ) (bytes : List ℕ) → IsBytes bytes → TakesItems depth NoItems bytes bytes
no_items depth bytes fits = record { takes = record { parts = refl; rest_fits = fits }; fits = record { in_range = tt; rising = tt }; nest = omega arith }

-- an item before others
pub next_item : {depth : ℕ} {item : Item} {is : Items} {a b c : List ℕ} → TakesItem depth item a b → TakesItems depth is b c → TakesItems depth (NextItem item is) a c
next_item {depth} {item} {is} {a} {b} {c} first others =
    let p = first.fits in
    let q = others.fits in
    record {
      takes = Takes-then a (text_of item) b (items_text is) c first.takes others.takes;
      fits = record { in_range = (p.in_range, q.in_range); rising = (p.rising, q.rising) };
      nest = omega (arith, first.nests, others.nest);
    }

-- the head of an array, and its members
pub array_item : {depth : ℕ} {is : Items} {a b c : List ℕ} → items_count is < 2 ^ 64 → Takes a (head 4 (items_count is)) b → TakesItems depth is b c → TakesItem (suc depth) (Array is) a c
array_item {depth} {is} {a} {b} {c} lt first others =
    let q = others.fits in
    record {
      takes = Takes-then a (head 4 (items_count is)) b (items_text is) c first others.takes;
      fits = record { in_range = (lt, q.in_range); rising = q.rising };
      nests = omega (arith, others.nest);
    }

-- no item
pub nothing_reads : (depth : ℕ) → ReadsItems (λ x. NoItems) (λ x. Unit {0}) depth nothing_at
nothing_reads depth = record {
  takes = λ bytes x rest fits e. subst (λ (y : Unit {0} × List ℕ). TakesItems depth NoItems bytes y.1 × Unit {0}) (some_is (tt, bytes) (x, rest) e) (no_items depth bytes fits, tt);
  again = λ x rest fits p. refl;
}

-- the last member of an array
pub last_reads : {A : Type 0} {item_of : A → Item} {P : A → Type 0} {depth : ℕ} {read : Reading A} → ReadsItem item_of P depth read → ReadsItems (λ a. NextItem (item_of a) NoItems) P depth read
last_reads {A} {item_of} {P} {depth} {read} laws = record {
  takes = λ bytes a rest fits e.
      let t = laws.takes bytes a rest fits e in
      (next_item t.0 (no_items depth rest t.0.takes.rest_fits), t.1);
  again = λ a rest fits p. ap (λ (x : List ℕ). read (x ++ rest)) (append-nil (text_of (item_of a))) ∙ laws.again a rest (record { in_range = fits.in_range.0; rising = fits.rising.0 }) p;
}

-- a member, and those after it
pub both_reads : {A B : Type 0} {item_of : A → Item} {P : A → Type 0} {items : B → Items} {Q : B → Type 0} {depth : ℕ} {read : Reading A} {others : Reading B} → ReadsItem item_of P depth read → ReadsItems items Q depth others
    → ReadsItems (λ (x : A × B). NextItem (item_of x.0) (items x.1)) (λ x. P x.0 × Q x.1) depth (both_at read others)
unfolding both_at
both_reads {A} {B} {item_of} {P} {items} {Q} {depth} {read} {others} first second = record {
  takes = λ bytes x rest fits e.
      let a = bind_some (read bytes) _ (x, rest) e in
      let b = bind_some (others a.0.1) _ (x, rest) a.2 in
      let t = first.takes bytes a.0.0 a.0.1 fits a.1 in
      let u = second.takes a.0.1 b.0.0 b.0.1 t.0.takes.rest_fits b.1 in
      subst (λ (y : (A × B) × List ℕ). TakesItems depth (NextItem (item_of y.0.0) (items y.0.1)) bytes y.1 × (P y.0.0 × Q y.0.1)) (some_is ((a.0.0, b.0.0), b.0.1) (x, rest) b.2)
      (next_item t.0 u.0, (t.1, u.1));
  again = λ x rest fits p.
      let a = first.again x.0 (items_text (items x.1) ++ rest) (record { in_range = fits.in_range.0; rising = fits.rising.0 }) p.0 in
      let b = second.again x.1 rest (record { in_range = fits.in_range.1; rising = fits.rising.1 }) p.1 in
      ap (both_at read others) (append_assoc (text_of (item_of x.0)) (items_text (items x.1)) rest) ∙ rw (a, b) refl;
}

-- several items as data of another type, which has the same items
pub as_members_read : {A B : Type 0} {items : A → Items} {P : A → Type 0} {depth : ℕ} {read : Reading A} (to : A → B) (other : B → Items) (Q : B → Type 0) → ((a : A) → P a → (other (to a) ≡ items a) × Q (to a))
    → ((b : B) → Q b → (a : A) × P a × (to a ≡ b)) → ReadsItems items P depth read → ReadsItems other Q depth (as_at to read)
unfolding as_at
as_members_read {A} {B} {items} {P} {depth} {read} to other Q onto back laws = record {
  takes = λ bytes b rest fits e.
      let x = bind_some (read bytes) _ (b, rest) e in
      let t = laws.takes bytes x.0.0 x.0.1 fits x.1 in
      let o = onto x.0.0 t.1 in
      subst (λ (y : B × List ℕ). TakesItems depth (other y.0) bytes y.1 × Q y.0) (some_is (to x.0.0, x.0.1) (b, rest) x.2)
      (subst (λ (k : Items). TakesItems depth k bytes x.0.1) (sym o.0) t.0, o.1);
  again = λ b rest fits q.
      let k = back b q in
      let same : other b ≡ items k.0 = ap other (sym k.2) ∙ (onto k.0 k.1).0 in
      let again = laws.again k.0 rest (subst AllFit same fits) k.1 in
      rw same (rw again (ap (λ (y : B). found y rest) k.2));
}
  where
    found : {B : Type 0} → B → List ℕ → Option (B × List ℕ)
    found y rest = Some (y, rest)

-- the head of an array of exactly `count` members that was read
pub members_takes : (count : ℕ) (bytes rest : List ℕ) → IsBytes bytes → members_at count bytes ≡ Some rest → Takes bytes (head 4 count) rest
unfolding members_at
members_takes count bytes rest fits e =
    let a = bind_some (head_at 4 bytes) _ rest e in
    let g = guard-true (eqb a.0.0 count) _ rest a.2 in
    let t = head_takes 4 bytes a.0.0 a.0.1 fits a.1 in
    subst (λ (r : List ℕ). Takes bytes (head 4 count) r) (some_is a.0.1 rest g.1) (subst (λ (n : ℕ). Takes bytes (head 4 n) a.0.1) (eqb-true _ _ g.0) t.0)

-- one that was written is read
pub members_again : (count : ℕ) (rest : List ℕ) → count < 2 ^ 64 → members_at count (head 4 count ++ rest) ≡ Some rest
unfolding members_at
members_again count rest lt = rw (head_again 4 count rest lt, eq-eqb count count refl) refl

-- an array of exactly `count` members
pub array_reads : {A : Type 0} {items : A → Items} {P : A → Type 0} {depth : ℕ} {read : Reading A} (count : ℕ) → count < 2 ^ 64 → ((a : A) → items_count (items a) ≡ count) → ReadsItems items P depth read
    → ReadsItem (λ a. Array (items a)) P (suc depth) (array_at count read)
unfolding array_at
array_reads {A} {items} {P} {depth} {read} count lt counts laws = record {
  takes = λ bytes a rest fits e.
      let m = bind_some (members_at count bytes) _ (a, rest) e in
      let h = members_takes count bytes m.0 fits m.1 in
      let t = laws.takes m.0 a rest h.rest_fits m.2 in
      (array_item (omega (arith, counts a)) (subst (λ (k : ℕ). Takes bytes (head 4 k) m.0) (sym (counts a)) h) t.0, t.1);
  again = λ a rest fits p.
      let members = items_text (items a) in
      let h = members_again count (members ++ rest) lt in
      let t = laws.again a rest (record { in_range = fits.in_range.1; rising = fits.rising }) p in
      ap (array_at count read) (append_assoc (head 4 (items_count (items a))) members rest ∙ ap (λ (k : ℕ). head 4 k ++ (members ++ rest)) (counts a)) ∙ rw (h, t) refl;
}

-- ---- what a public reader promises

-- what is read has a text
pub has_text : {depth : ℕ} {item : Item} {bytes rest : List ℕ} → depth ≤ 64 → TakesItem depth item bytes rest → HasText item
has_text le t =
    let p = t.fits in
    record { in_range = p.in_range; rising = p.rising; nests = omega (arith, le, t.nests) }

-- what has a text may be read
pub text_fits : {item : Item} → HasText item → Fits item
text_fits p = record { in_range = p.in_range; rising = p.rising }

module _ {A : Type 0} {item_of : A → Item} {P : A → Type 0} {depth : ℕ} {read : Reading A} (laws : ReadsItem item_of P depth read) (IsSpelled : A → List ℕ → Type 0) where
  -- what was read begins the bytes
  pub reads_found : depth ≤ 64 → ((a : A) → P a → HasText (item_of a) → IsSpelled a (text_of (item_of a))) → (bytes : List ℕ) (a : A) (rest : List ℕ) → IsBytes bytes → read bytes ≡ Some (a, rest) → BeginsWithText (IsSpelled a) bytes rest
  reads_found le spelled bytes a rest fits e =
      let t = laws.takes bytes a rest fits e in
      let taken = t.0.takes in
      record { text = text_of (item_of a); spelled = spelled a t.1 (has_text le t.0); parts = taken.parts }

  none_begins : ((a : A) (text : List ℕ) → IsSpelled a text → P a × Fits (item_of a) × (text ≡ text_of (item_of a))) → (bytes : List ℕ) → read bytes ≡ None → (a : A) (rest : List ℕ) → BeginsWithText (IsSpelled a) bytes rest → ⊥
  none_begins spells bytes e a rest b =
      let s = spells a b.text b.spelled in
      let again = laws.again a rest s.1 s.0 in
      let whole : bytes ≡ text_of (item_of a) ++ rest = b.parts ∙ ap (λ (t : List ℕ). t ++ rest) s.2 in
      cc

  -- where nothing is read nothing that is read begins the bytes
  pub reads_refused : ((a : A) (text : List ℕ) → IsSpelled a text → P a × Fits (item_of a) × (text ≡ text_of (item_of a))) → (fault : CborFault) (bytes : List ℕ) → Refuses fault (read bytes)
      → IfMalformed fault ((a : A) (rest : List ℕ) → BeginsWithText (IsSpelled a) bytes rest → ⊥)
  reads_refused spells faults.Malformed bytes e = none_begins spells bytes e
  reads_refused spells faults.OutOfMemory bytes e = tt

-- ---- from what a public reader promises to what its reading gives

module _ {A : Type 0} {item_of : A → Item} {P : A → Type 0} {depth : ℕ} {read : Reading A} (laws : ReadsItem item_of P depth read) (le : depth ≤ 64) (IsSpelled : A → List ℕ → Type 0)
    (spelled : (a : A) → P a → HasText (item_of a) → IsSpelled a (text_of (item_of a))) (spells : (a : A) (text : List ℕ) → IsSpelled a text → P a × Fits (item_of a) × (text ≡ text_of (item_of a))) where
  -- what stands first is read
  found_read : (bytes : List ℕ) (a : A) (rest : List ℕ) → BeginsWithText (IsSpelled a) bytes rest → read bytes ≡ Some (a, rest)
  found_read bytes a rest b =
      let s = spells a b.text b.spelled in
      ap read (b.parts ∙ ap (λ (t : List ℕ). t ++ rest) s.2) ∙ laws.again a rest s.1 s.0

  none_read : (bytes : List ℕ) (found : Option (A × List ℕ)) → IsBytes bytes → read bytes ≡ found → ((a : A) (rest : List ℕ) → BeginsWithText (IsSpelled a) bytes rest → ⊥) → found ≡ None
  none_read bytes None fits e none = refl
  none_read bytes (Some x) fits e none = absurd (none x.0 x.1 (reads_found laws IsSpelled le spelled bytes x.0 x.1 fits e))

  refused_read : (fault : CborFault) (bytes : List ℕ) → IsBytes bytes → IfMalformed fault ((a : A) (rest : List ℕ) → BeginsWithText (IsSpelled a) bytes rest → ⊥) → Refuses fault (read bytes)
  refused_read faults.Malformed bytes fits none = none_read bytes (read bytes) fits refl none
  refused_read faults.OutOfMemory bytes fits none = tt

  -- what a reader returns that promises these two
  pub promised_read : {X : Type 0} (view : X → A × List ℕ) (r : Result X CborFault) (bytes : List ℕ) → IsBytes bytes → IfOk r (λ x. BeginsWithText (IsSpelled (view x).0) bytes (view x).1)
      → IfErr r (λ fault. IfMalformed fault ((a : A) (rest : List ℕ) → BeginsWithText (IsSpelled a) bytes rest → ⊥)) → Gives view r (read bytes)
  promised_read view (Ok x) bytes fits found refused = found_read bytes (view x).0 (view x).1 found
  promised_read view (Err fault) bytes fits found refused = refused_read fault bytes fits refused
