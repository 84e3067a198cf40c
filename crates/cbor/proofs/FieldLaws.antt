-- The two laws of maps whose keys are known small numbers, some of which may be left out.
use Rattle.std.proofs.Common.{◌≡◌, ℕ, zero, suc, ◌+◌, ◌*◌, ◌^◌, ◌<◌, ◌≤◌, false, eqb, List, [], ◌∷◌, ◌++◌, length, Option, Some, None, refl, sym, ap, subst, ◌∙◌, append_assoc, append-nil, arith, inl, inr}
use Rattle.std.specs.Prelude.{◌⊎◌, IfSome}
use Rattle.std.specs.Ordering.{nat_cmp}
use Rattle.std.specs.Cmp.{nat_cmp_is}
use Rattle.std.specs.declared.cmp.Ordering.TheVariants.{Less}
use Rattle.std.specs.Cmp.Lexicographic.{slice_cmp}
use Rattle.std.proofs.lemmas.Bool.{lt-ltb, eqb-true, eq-eqb}
use Rattle.std.proofs.lemmas.List.{length-append}
use Rattle.model.specs.Cbor.{Item, Unsigned, head, text_of, pairs_of, map_of, pairs_count, pairs_text, pairs_nesting, IsInRange, PairsAreInRange, HasRisingKeys, PairsHaveRisingKeys, IsBeforeFirst}
use Rattle.cbor.specs.Reading.{head_at}
use Rattle.cbor.specs.Shapes.{Reading, FieldsReading, no_fields_at, key_at, field_at, if_there, optional_field_at, as_fields_at, fields_at, record_at}
use Rattle.cbor.proofs.Steps.{IsBytes, bind_some, guard-true, some_is, Takes, Takes-then}
use Rattle.cbor.proofs.Reading.{head_takes, head_again}
use Rattle.cbor.proofs.ShapeLaws.{Fits, TakesItem, ReadsItem}

-- an entry of a map: its key and its value
abbrev pub Field : Type 0
Field = Item × Item

-- keys are unsigned numbers that rise from the least on, and stay below the limit
abbrev pub HasKeys : ℕ → ℕ → List Field → Type 0
HasKeys least limit [] = least ≤ limit
HasKeys least limit (f ∷ fs) = (key : ℕ) × (f.0 ≡ Unsigned key) × (least ≤ key) × (key < limit) × HasKeys (suc key) limit fs

-- each value has a text, except for how deep it nests
abbrev pub ValuesFit : List Field → Type 0
ValuesFit [] = Unit {0}
ValuesFit (f ∷ fs) = Fits f.1 × ValuesFit fs

-- nothing is left, or what follows begins with a key from the limit on
abbrev pub StopsAt : ℕ → ℕ → List ℕ → Type 0
StopsAt limit left rest = (left ≡ 0) ⊎ ((key : ℕ) × (after : List ℕ) × (limit ≤ key) × (key < 2 ^ 64) × (rest ≡ head 0 key ++ after))

-- the text of fields
abbrev pub fields_text : List Field → List ℕ
fields_text fs = pairs_text (pairs_of fs)

-- fields that were read
pub record TakesFields (depth : ℕ) (fs : List Field) (left : ℕ) (bytes : List ℕ) (after : ℕ) (rest : List ℕ) : Type 0 where
  pub taken : Takes bytes (fields_text fs) rest
  pub counted : left ≡ length fs + after
  pub fit : ValuesFit fs
  pub nest : pairs_nesting (pairs_of fs) ≤ depth

-- the two laws of a reading of fields, whose keys lie in a range
pub record ReadsFields {A : Type 0} (fields_of : A → List Field) (P : A → Type 0) (depth least limit : ℕ) (fields : FieldsReading A) : Type 0 where
  pub keys : (a : A) → P a → HasKeys least limit (fields_of a)
  pub takes : (left : ℕ) (bytes : List ℕ) (x : A × ℕ × List ℕ) → IsBytes bytes → fields left bytes ≡ Some x → TakesFields depth (fields_of x.0) left bytes x.1 x.2 × P x.0
  pub again : (a : A) (total left : ℕ) (rest : List ℕ) → total ≡ length (fields_of a) + left → ValuesFit (fields_of a) → P a → StopsAt limit left rest → fields total (fields_text (fields_of a) ++ rest) ≡ Some (a, left, rest)

-- ---- none and one

-- nothing was taken
no_fields : (depth left : ℕ) (bytes : List ℕ) → IsBytes bytes → TakesFields depth [] left bytes left bytes
no_fields depth left bytes fits = record { taken = record { parts = refl; rest_fits = fits }; counted = omega arith; fit = tt; nest = omega arith }

-- no field
pub no_fields_reads : (depth least : ℕ) → ReadsFields (λ x. []) (λ x. Unit {0}) depth least least no_fields_at
no_fields_reads depth least = record {
  keys = λ a p. omega arith;
  takes = λ left bytes x fits e. subst (λ (y : Unit {0} × ℕ × List ℕ). TakesFields depth [] left bytes y.1 y.2 × Unit {0}) {x = (tt, left, bytes)} (some_is (tt, left, bytes) x e) (no_fields depth left bytes fits, tt);
  again = λ a total left rest e fit p stops. let same : total ≡ left = omega (arith, e) in ap (λ (n : ℕ). no_fields_at n rest) same;
}

module _ {A : Type 0} (item_of : A → Item) (P : A → Type 0) (depth : ℕ) (read : Reading A) (key : ℕ) (low : key < 24) (laws : ReadsItem item_of P (suc depth) read) where
  -- the one field of this key
  abbrev one_field : A → List Field
  one_field a = (Unsigned key, item_of a) ∷ []

  -- a key that was read, and the value after it
  entry_takes : (left : ℕ) (bytes : List ℕ) (entry : ℕ × List ℕ) (v : A × List ℕ) → IsBytes bytes → key_at key left bytes ≡ Some entry → read entry.1 ≡ Some v → TakesFields (suc depth) (one_field v.0) left bytes entry.0 v.1 × P v.0
  unfolding key_at
  entry_takes zero bytes entry v fits e r = absurd cc
  entry_takes (suc left) bytes entry v fits e r =
      let k = bind_some (head_at 0 bytes) _ entry e in
      let g = guard-true (eqb k.0.0 key) _ entry k.2 in
      let entry-is = some_is (left, k.0.1) entry g.1 in
      let after : read k.0.1 ≡ Some v = ap (λ (y : ℕ × List ℕ). read y.1) entry-is ∙ r in
      let t = head_takes 0 bytes k.0.0 k.0.1 fits k.1 in
      let u = laws.takes k.0.1 v.0 v.1 t.0.rest_fits after in
      let same : k.0.0 ≡ key = eqb-true _ _ g.0 in
      let value = text_of (item_of v.0) in
      let text : head 0 k.0.0 ++ value ≡ head 0 key ++ (value ++ []) = λ i. head 0 (same i) ++ sym (append-nil value) i in
      subst (λ (y : ℕ × List ℕ). TakesFields (suc depth) (one_field v.0) (suc left) bytes y.0 v.1 × P v.0) entry-is (
        record {
          taken = subst (λ (t : List ℕ). Takes bytes t v.1) text (Takes-then bytes (head 0 k.0.0) k.0.1 value v.1 t.0 u.0.takes);
          counted = omega arith;
          fit = (u.0.fits, tt);
          nest = omega (arith, u.0.nests);
        },
        u.1,
      )

  field_takes : (left : ℕ) (bytes : List ℕ) (x : A × ℕ × List ℕ) → IsBytes bytes → field_at key read left bytes ≡ Some x → TakesFields (suc depth) (one_field x.0) left bytes x.1 x.2 × P x.0
  unfolding field_at
  field_takes left bytes x fits e =
      let k = bind_some (key_at key left bytes) _ x e in
      let v = bind_some (read k.0.1) _ x k.2 in
      subst (λ (y : A × ℕ × List ℕ). TakesFields (suc depth) (one_field y.0) left bytes y.1 y.2 × P y.0) {x = (v.0.0, k.0.0, v.0.1)} (some_is (v.0.0, k.0.0, v.0.1) x v.2) (entry_takes left bytes k.0 v.0 fits k.1 v.1)

  -- the key and the value of a field, as a reading meets them
  field_line : (a : A) (rest : List ℕ) → fields_text (one_field a) ++ rest ≡ head 0 key ++ (text_of (item_of a) ++ rest)
  field_line a rest =
      append_assoc (head 0 key) (text_of (item_of a) ++ []) rest ∙ ap (λ (t : List ℕ). head 0 key ++ (t ++ rest)) (append-nil (text_of (item_of a)))

  -- the key of a field is read
  key_again : (a : A) (left : ℕ) (rest : List ℕ) → key_at key (suc left) (fields_text (one_field a) ++ rest) ≡ Some (left, text_of (item_of a) ++ rest)
  unfolding key_at
  key_again a left rest =
      let k = head_again 0 key (text_of (item_of a) ++ rest) (omega (arith, low)) in
      rw (field_line a rest) (rw (k, eq-eqb key key refl) refl)

  field_again : (a : A) (left : ℕ) (rest : List ℕ) → Fits (item_of a) → P a → field_at key read (suc left) (fields_text (one_field a) ++ rest) ≡ Some (a, left, rest)
  unfolding field_at
  field_again a left rest fits p = rw (key_again a left rest, laws.again a rest fits p) refl

  -- a field that is always there
  field_laws : ReadsFields one_field P (suc depth) key (suc key) (field_at key read)
  field_laws = record {
    keys = λ a p. (key, refl, omega arith, omega arith, omega arith);
    takes = field_takes;
    again = λ a total left rest e fit p stops.
        let same : total ≡ suc left = omega (arith, e) in
        ap (λ (n : ℕ). field_at key read n (fields_text (one_field a) ++ rest)) same ∙ field_again a left rest fit.0 p;
  }

  module _ (fields_of : Option A → List Field) (none : [] ≡ fields_of None) (some : (a : A) → one_field a ≡ fields_of (Some a)) where
    abbrev TakesOptional : ℕ → List ℕ → Option A × ℕ × List ℕ → Type 0
    TakesOptional left bytes x = TakesFields (suc depth) (fields_of x.0) left bytes x.1 x.2 × IfSome x.0 P

    absent : (left : ℕ) (bytes : List ℕ) → IsBytes bytes → TakesOptional left bytes (None, left, bytes)
    absent left bytes fits = (subst (λ (fs : List Field). TakesFields (suc depth) fs left bytes left bytes) none (no_fields (suc depth) left bytes fits), tt)

    there_takes : (found : Option (ℕ × List ℕ)) (left : ℕ) (bytes : List ℕ) (x : Option A × ℕ × List ℕ) → IsBytes bytes → key_at key left bytes ≡ found → if_there found read left bytes ≡ Some x → TakesOptional left bytes x
    there_takes None left bytes x fits k e = subst (TakesOptional left bytes) (some_is (None, left, bytes) x e) (absent left bytes fits)
    there_takes (Some entry) left bytes x fits k e =
        let v = bind_some (read entry.1) _ x e in
        let t = entry_takes left bytes entry v.0 fits k v.1 in
        subst (TakesOptional left bytes) (some_is (Some v.0.0, entry.0, v.0.1) x v.2)
        (subst (λ (fs : List Field). TakesFields (suc depth) fs left bytes entry.0 v.0.1) (some v.0.0) t.0, t.1)

    optional_takes : (left : ℕ) (bytes : List ℕ) (x : Option A × ℕ × List ℕ) → IsBytes bytes → optional_field_at key read left bytes ≡ Some x → TakesOptional left bytes x
    unfolding optional_field_at
    optional_takes left bytes x fits e = there_takes (key_at key left bytes) left bytes x fits refl e

    other_key : (k : ℕ) → suc key ≤ k → eqb k key ≡ false
    other_key k le = grind (arith, le)

    no_key : (left : ℕ) (rest : List ℕ) → StopsAt (suc key) left rest → key_at key left rest ≡ None
    unfolding key_at
    no_key zero rest stops = refl
    no_key (suc left) rest stops = elim stops [
      | inl nothing ↦ absurd (omega (arith, nothing))
      | inr next ↦
          let k = ap (head_at 0) next.4 ∙ head_again 0 next.0 next.1 next.3 in
          rw (k, other_key next.0 next.2) refl
    ]

    stays : (left : ℕ) (rest : List ℕ) → StopsAt (suc key) left rest → optional_field_at key read left rest ≡ Some (None, left, rest)
    unfolding optional_field_at
    stays left rest stops = rw (no_key left rest stops) refl

    present : (a : A) (left : ℕ) (rest : List ℕ) → Fits (item_of a) → P a → optional_field_at key read (suc left) (fields_text (one_field a) ++ rest) ≡ Some (Some a, left, rest)
    unfolding optional_field_at
    present a left rest fits p = rw (key_again a left rest, laws.again a rest fits p) refl

    optional_again : (o : Option A) (total left : ℕ) (rest : List ℕ) → total ≡ length (fields_of o) + left → ValuesFit (fields_of o) → IfSome o P → StopsAt (suc key) left rest → optional_field_at key read total (fields_text (fields_of o) ++ rest) ≡ Some (o, left, rest)
    optional_again None total left rest e fit p stops =
        let same : total ≡ left = e ∙ ap (λ (fs : List Field). length fs + left) (sym none) ∙ omega arith in
        (λ i. optional_field_at key read (same i) (fields_text (sym none i) ++ rest)) ∙ stays left rest stops
    optional_again (Some a) total left rest e fit p stops =
        let same : total ≡ suc left = e ∙ ap (λ (fs : List Field). length fs + left) (sym (some a)) ∙ omega arith in
        let fits : ValuesFit (one_field a) = subst ValuesFit (sym (some a)) fit in
        (λ i. optional_field_at key read (same i) (fields_text (sym (some a) i) ++ rest)) ∙ present a left rest fits.0 p

    optional_keys : (o : Option A) → IfSome o P → HasKeys key (suc key) (fields_of o)
    optional_keys None p = subst (HasKeys key (suc key)) none (omega arith)
    optional_keys (Some a) p = subst (HasKeys key (suc key)) (some a) (key, refl, omega arith, omega arith, omega arith)

    -- a field that may be left out
    optional_field_laws : ReadsFields fields_of (λ o. IfSome o P) (suc depth) key (suc key) (optional_field_at key read)
    optional_field_laws = record { keys = optional_keys; takes = optional_takes; again = optional_again }

-- a field that is always there
pub field_reads : {A : Type 0} {item_of : A → Item} {P : A → Type 0} {depth : ℕ} {read : Reading A} (key : ℕ) → key < 24 → ReadsItem item_of P (suc depth) read → ReadsFields (λ a. (Unsigned key, item_of a) ∷ []) P (suc depth) key (suc key) (field_at key read)
field_reads {A} {item_of} {P} {depth} {read} key low laws = field_laws item_of P depth read key low laws

-- a field that may be left out
pub optional_field_reads : {A : Type 0} {item_of : A → Item} {P : A → Type 0} {depth : ℕ} {read : Reading A} (key : ℕ) → key < 24 → (fields_of : Option A → List Field) → [] ≡ fields_of None → ((a : A) → (Unsigned key, item_of a) ∷ [] ≡ fields_of (Some a))
    → ReadsItem item_of P (suc depth) read → ReadsFields fields_of (λ o. IfSome o P) (suc depth) key (suc key) (optional_field_at key read)
optional_field_reads {A} {item_of} {P} {depth} {read} key low fields_of none some laws = optional_field_laws item_of P depth read key low laws fields_of none some

-- ---- one after the other

-- the least key of some is below the limit
keys_bound : (least limit : ℕ) (fs : List Field) → HasKeys least limit fs → least ≤ limit
keys_bound least limit [] keys = keys
keys_bound least limit (f ∷ fs) keys = omega (arith, keys.2, keys.3)

-- keys that rise from one number on rise from a lower one on
lower_keys : (low least limit : ℕ) (fs : List Field) → low ≤ least → HasKeys least limit fs → HasKeys low limit fs
lower_keys low least limit [] le keys = omega (arith, le, keys)
lower_keys low least limit (f ∷ fs) le keys = (keys.0, keys.1, omega (arith, le, keys.2), keys.3, keys.4)

-- keys, and higher ones after them
join_keys : (least mid from limit : ℕ) (fs gs : List Field) → HasKeys least mid fs → mid ≤ from → HasKeys from limit gs → HasKeys least limit (fs ++ gs)
join_keys least mid from limit [] gs first le second = lower_keys least from limit gs (omega (arith, first, le)) second
join_keys least mid from limit (f ∷ fs) gs first le second =
    (first.0, first.1, first.2, omega (arith, first.3, le, keys_bound from limit gs second), join_keys (suc first.0) mid from limit fs gs first.4 le second)

-- the texts of fields, and of others after them
pub pairs_join : (fs gs : List Field) → fields_text (fs ++ gs) ≡ fields_text fs ++ fields_text gs
pairs_join [] gs = refl
pairs_join (f ∷ fs) gs =
    ap (λ (t : List ℕ). text_of f.0 ++ (text_of f.1 ++ t)) (pairs_join fs gs) ∙ ap (λ (t : List ℕ). text_of f.0 ++ t) (sym (append_assoc (text_of f.1) (fields_text fs) (fields_text gs))) ∙ sym (append_assoc (text_of f.0) (text_of f.1 ++ fields_text fs) (fields_text gs))

fit_join : (fs gs : List Field) → ValuesFit fs → ValuesFit gs → ValuesFit (fs ++ gs)
fit_join [] gs p q = q
fit_join (f ∷ fs) gs p q = (p.0, fit_join fs gs p.1 q)

fit_first : (fs gs : List Field) → ValuesFit (fs ++ gs) → ValuesFit fs
fit_first [] gs p = tt
fit_first (f ∷ fs) gs p = (p.0, fit_first fs gs p.1)

fit_second : (fs gs : List Field) → ValuesFit (fs ++ gs) → ValuesFit gs
fit_second [] gs p = p
fit_second (f ∷ fs) gs p = fit_second fs gs p.1

nest_join : (depth : ℕ) (fs gs : List Field) → pairs_nesting (pairs_of fs) ≤ depth → pairs_nesting (pairs_of gs) ≤ depth → pairs_nesting (pairs_of (fs ++ gs)) ≤ depth
nest_join depth [] gs p q = q
nest_join depth (f ∷ fs) gs p q = omega (arith, p, nest_join depth fs gs (omega (arith, p)) q)

-- where fields follow, the first of them is what comes next
stops_before : (mid from limit left : ℕ) (gs : List Field) (rest : List ℕ) → mid ≤ from → limit ≤ 24 → HasKeys from limit gs → StopsAt limit left rest → StopsAt mid (length gs + left) (fields_text gs ++ rest)
stops_before mid from limit left [] rest le low keys stops = elim stops [
  | inl nothing ↦ inl (omega (arith, nothing))
  | inr next ↦ inr (next.0, next.1, omega (arith, next.2, le, keys), next.3, next.4)
]
stops_before mid from limit left (g ∷ gs) rest le low keys stops =
    let after = text_of g.1 ++ (fields_text gs ++ rest) in
    let line : fields_text (g ∷ gs) ++ rest ≡ text_of g.0 ++ after = append_assoc (text_of g.0) (text_of g.1 ++ fields_text gs) rest ∙ ap (λ (t : List ℕ). text_of g.0 ++ t) (append_assoc (text_of g.1) (fields_text gs) rest) in
    inr (keys.0, after, omega (arith, le, keys.2), omega (arith, keys.3, low), line ∙ ap (λ (k : Item). text_of k ++ after) keys.1)

-- fields, and others with higher keys after them
pub fields_reads : {A B : Type 0} {first_of : A → List Field} {P : A → Type 0} {others_of : B → List Field} {Q : B → Type 0} {depth least mid from limit : ℕ} {first : FieldsReading A} {others : FieldsReading B} → mid ≤ from → limit ≤ 24
    → ReadsFields first_of P depth least mid first → ReadsFields others_of Q depth from limit others → ReadsFields (λ (x : A × B). first_of x.0 ++ others_of x.1) (λ x. P x.0 × Q x.1) depth least limit (fields_at first others)
unfolding fields_at
fields_reads {A} {B} {first_of} {P} {others_of} {Q} {depth} {least} {mid} {from} {limit} {first} {others} le low one more = record {
  keys = λ x p. join_keys least mid from limit (first_of x.0) (others_of x.1) (one.keys x.0 p.0) le (more.keys x.1 p.1);
  takes = λ left bytes x fits e.
      let a = bind_some (first left bytes) _ x e in
      let b = bind_some (others a.0.1 a.0.2) _ x a.2 in
      let t = one.takes left bytes a.0 fits a.1 in
      let u = more.takes a.0.1 a.0.2 b.0 t.0.taken.rest_fits b.1 in
      let fs = first_of a.0.0 in
      let gs = others_of b.0.0 in
      subst (λ (y : (A × B) × ℕ × List ℕ). TakesFields depth (first_of y.0.0 ++ others_of y.0.1) left bytes y.1 y.2 × (P y.0.0 × Q y.0.1)) {x = ((a.0.0, b.0.0), b.0.1, b.0.2)} (some_is ((a.0.0, b.0.0), b.0.1, b.0.2) x b.2) (
        record {
          taken = subst (λ (t : List ℕ). Takes bytes t b.0.2) (sym (pairs_join fs gs)) (Takes-then bytes (fields_text fs) a.0.2 (fields_text gs) b.0.2 t.0.taken u.0.taken);
          counted = omega (arith, t.0.counted, u.0.counted, length-append fs gs);
          fit = fit_join fs gs t.0.fit u.0.fit;
          nest = nest_join depth fs gs t.0.nest u.0.nest;
        },
        (t.1, u.1),
      );
  again = λ x total left rest e fit p stops.
      let fs = first_of x.0 in
      let gs = others_of x.1 in
      let a = one.again x.0 total (length gs + left) (fields_text gs ++ rest) (omega (arith, e, length-append fs gs)) (fit_first fs gs fit) p.0 (stops_before mid from limit left gs rest le low (more.keys x.1 p.1) stops) in
      let b = more.again x.1 (length gs + left) left rest refl (fit_second fs gs fit) p.1 stops in
      let line : fields_text (fs ++ gs) ++ rest ≡ fields_text fs ++ (fields_text gs ++ rest) = ap (λ (t : List ℕ). t ++ rest) (pairs_join fs gs) ∙ append_assoc (fields_text fs) (fields_text gs) rest in
      ap (fields_at first others total) line ∙ rw (a, b) refl;
}

-- fields as data of another type
pub as_fields_reads : {A B : Type 0} {fields_of : A → List Field} {P : A → Type 0} {depth least limit : ℕ} {fields : FieldsReading A} (to : A → B) (other : B → List Field) (Q : B → Type 0) → ((a : A) → P a → (other (to a) ≡ fields_of a) × Q (to a))
    → ((b : B) → Q b → (a : A) × P a × (to a ≡ b)) → ReadsFields fields_of P depth least limit fields → ReadsFields other Q depth least limit (as_fields_at to fields)
unfolding as_fields_at
as_fields_reads {A} {B} {fields_of} {P} {depth} {least} {limit} {fields} to other Q onto back laws = record {
  keys = λ b q.
      let k = back b q in
      let same : other b ≡ fields_of k.0 = ap other (sym k.2) ∙ (onto k.0 k.1).0 in
      subst (HasKeys least limit) (sym same) (laws.keys k.0 k.1);
  takes = λ left bytes x fits e.
      let a = bind_some (fields left bytes) _ x e in
      let t = laws.takes left bytes a.0 fits a.1 in
      let o = onto a.0.0 t.1 in
      subst (λ (y : B × ℕ × List ℕ). TakesFields depth (other y.0) left bytes y.1 y.2 × Q y.0) {x = (to a.0.0, a.0.1, a.0.2)} (some_is (to a.0.0, a.0.1, a.0.2) x a.2)
      (subst (λ (fs : List Field). TakesFields depth fs left bytes a.0.1 a.0.2) (sym o.0) t.0, o.1);
  again = λ b total left rest e fit q stops.
      let k = back b q in
      let same : other b ≡ fields_of k.0 = ap other (sym k.2) ∙ (onto k.0 k.1).0 in
      let again = laws.again k.0 total left rest (e ∙ ap (λ (fs : List Field). length fs + left) same) (subst ValuesFit same fit) k.1 stops in
      rw same (rw again (ap (λ (y : B). found y left rest) k.2));
}
  where
    found : {B : Type 0} → B → ℕ → List ℕ → Option (B × ℕ × List ℕ)
    found y left rest = Some (y, left, rest)

-- ---- a map of fields

-- heads of small numbers stand in the order of the numbers
heads_rise : (k l : ℕ) → k < l → l < 24 → slice_cmp nat_cmp (head 0 k) (head 0 l) ≡ Less
unfolding head
heads_rise k l lt low = rw (lt-ltb k 24 (omega (arith, lt, low)), lt-ltb l 24 low) (rw (sym (nat_cmp_is (32 * 0 + k) (32 * 0 + l) Less (omega (arith, lt)))) refl)

before_next : (k : Item) (key least limit : ℕ) (fs : List Field) → k ≡ Unsigned key → suc key ≤ least → limit ≤ 24 → HasKeys least limit fs → IsBeforeFirst k (pairs_of fs)
before_next k key least limit [] is le low keys = tt
before_next k key least limit (f ∷ fs) is le low keys =
    subst (λ (x : Item × Item). slice_cmp nat_cmp (text_of x.0) (text_of x.1) ≡ Less) {x = (Unsigned key, Unsigned keys.0)} {y = (k, f.0)} (λ i. (sym is i, sym keys.1 i)) (heads_rise key keys.0 (omega (arith, le, keys.2)) (omega (arith, keys.3, low)))

rising_keys : (least limit : ℕ) (fs : List Field) → limit ≤ 24 → HasKeys least limit fs → ValuesFit fs → PairsHaveRisingKeys (pairs_of fs)
rising_keys least limit [] low keys fit = tt
rising_keys least limit (f ∷ fs) low keys fit =
    (subst HasRisingKeys (sym keys.1) tt, fit.0.rising, before_next f.0 keys.0 (suc keys.0) limit fs keys.1 (omega arith) low keys.4, rising_keys (suc keys.0) limit fs low keys.4 fit.1)

keys_in_range : (least limit : ℕ) (fs : List Field) → limit ≤ 24 → HasKeys least limit fs → ValuesFit fs → PairsAreInRange (pairs_of fs)
keys_in_range least limit [] low keys fit = tt
keys_in_range least limit (f ∷ fs) low keys fit =
    (subst IsInRange (sym keys.1) (omega (arith, keys.3, low)), fit.0.in_range, keys_in_range (suc keys.0) limit fs low keys.4 fit.1)

values_fit : (fs : List Field) → PairsAreInRange (pairs_of fs) → PairsHaveRisingKeys (pairs_of fs) → ValuesFit fs
values_fit [] p q = tt
values_fit (f ∷ fs) p q = (record { in_range = p.1; rising = q.1 }, values_fit fs p.2 q.3)

-- a map has as many entries as it has fields
pub counts : (fs : List Field) → pairs_count (pairs_of fs) ≡ length fs
counts [] = refl
counts (f ∷ fs) = ap suc (counts fs)

-- a map of fields with keys below 24
pub record_reads : {A : Type 0} {fields_of : A → List Field} {P : A → Type 0} {depth least limit : ℕ} {fields : FieldsReading A} → limit ≤ 24 → ReadsFields fields_of P depth least limit fields → ReadsItem (λ a. map_of (fields_of a)) P (suc depth) (record_at fields)
unfolding record_at
record_reads {A} {fields_of} {P} {depth} {least} {limit} {fields} low laws = record {
  takes = λ bytes a rest fits e.
      let c = bind_some (head_at 5 bytes) _ (a, rest) e in
      let x = bind_some (fields c.0.0 c.0.1) _ (a, rest) c.2 in
      let g = guard-true (eqb x.0.1 0) _ (a, rest) x.2 in
      let h = head_takes 5 bytes c.0.0 c.0.1 fits c.1 in
      let t = laws.takes c.0.0 c.0.1 x.0 h.0.rest_fits x.1 in
      let fs = fields_of x.0.0 in
      let keys = laws.keys x.0.0 t.1 in
      let all : x.0.1 ≡ 0 = eqb-true _ _ g.0 in
      let count : c.0.0 ≡ pairs_count (pairs_of fs) = t.0.counted ∙ omega (arith, all, counts fs) in
      let both = Takes-then bytes (head 5 c.0.0) c.0.1 (fields_text fs) x.0.2 h.0 t.0.taken in
      subst (λ (y : A × List ℕ). TakesItem (suc depth) (map_of (fields_of y.0)) bytes y.1 × P y.0) (some_is (x.0.0, x.0.2) (a, rest) g.1) (
        record {
          takes = subst (λ (k : ℕ). Takes bytes (head 5 k ++ fields_text fs) x.0.2) count both;
          fits = record { in_range = (omega (arith, count, h.1), keys_in_range least limit fs low keys t.0.fit); rising = rising_keys least limit fs low keys t.0.fit };
          nests = omega (arith, t.0.nest);
        },
        t.1,
      );
  again = λ a rest fits p.
      let fs = fields_of a in
      let h = head_again 5 (pairs_count (pairs_of fs)) (fields_text fs ++ rest) fits.in_range.0 in
      let all = laws.again a (pairs_count (pairs_of fs)) 0 rest (counts fs ∙ omega arith) (values_fit fs fits.in_range.1 fits.rising) p (inl refl) in
      ap (record_at fields) (append_assoc (head 5 (pairs_count (pairs_of fs))) (fields_text fs) rest) ∙ rw (h, all) refl;
}
