-- The two laws of lists of like items and of maps, and how a loop reads and writes them.
use Rattle.std.proofs.Common.{◌≡◌, ℕ, zero, suc, ◌-◌, ◌≤◌, List, [], ◌∷◌, ◌++◌, length, map, Option, Some, refl, sym, ap, subst, ◌∙◌, append_assoc, arith}
use Rattle.std.specs.List.{AllByRecursion}
use Rattle.std.specs.Ordering.{nat_cmp, is_lt}
use Rattle.std.specs.declared.cmp.Ordering.TheVariants.{Less}
use Rattle.std.specs.Cmp.Lexicographic.{slice_cmp}
use Rattle.std.proofs.lemmas.List.{take_at, length-append}
use Rattle.model.specs.Cbor.{Item, Pairs, head, text_of, items_count, items_text, items_of, array_of, pairs_count, pairs_text, pairs_nesting, pairs_of, map_of, PairsAreInRange, PairsHaveRisingKeys}
use Rattle.cbor.specs.Reading.{front, head_at}
use Rattle.cbor.specs.Shapes.{Reading, list_at, list_array_at, EntryReading, rising_at, entry_at, entries_at, map_at}
use Rattle.cbor.proofs.Steps.{IsBytes, bind_some, guard-true, some_is, Takes, Takes-then}
use Rattle.cbor.proofs.Reading.{head_takes, head_again}
use Rattle.cbor.proofs.ItemLaws.{front_is, is_less, IsBefore, is_before_first, before_first_is, nothing_before}
use Rattle.cbor.proofs.ShapeLaws.{Fits, AllFit, TakesItem, TakesItems, ReadsItem, no_items, next_item, array_item}

-- ---- lists

module _ {A : Type 0} (item_of : A → Item) (P : A → Type 0) (depth : ℕ) (read : Reading A) (laws : ReadsItem item_of P depth read) where
  -- like items that were read
  record TakesList (count : ℕ) (bytes : List ℕ) (x : List A × List ℕ) : Type 0 where
    taken : TakesItems depth (items_of (map item_of x.0)) bytes x.1
    counted : items_count (items_of (map item_of x.0)) ≡ count
    hold : AllByRecursion P x.0

  list_takes : (count : ℕ) (bytes : List ℕ) (x : List A × List ℕ) → IsBytes bytes → list_at read count bytes ≡ Some x → TakesList count bytes x
  unfolding list_at
  list_takes zero bytes x fits e =
      subst (TakesList 0 bytes) (some_is ([], bytes) x e) (record { taken = no_items depth bytes fits; counted = refl; hold = tt })
  list_takes (suc count) bytes x fits e =
      let a = bind_some (read bytes) _ x e in
      let b = bind_some (list_at read count a.0.1) _ x a.2 in
      let first = laws.takes bytes a.0.0 a.0.1 fits a.1 in
      let others = list_takes count a.0.1 b.0 first.0.takes.rest_fits b.1 in
      subst (TakesList (suc count) bytes) (some_is (a.0.0 ∷ b.0.0, b.0.1) x b.2)
      (record { taken = next_item first.0 others.taken; counted = ap suc others.counted; hold = (first.1, others.hold) })

  list_again : (xs : List A) (rest : List ℕ) → AllFit (items_of (map item_of xs)) → AllByRecursion P xs → list_at read (items_count (items_of (map item_of xs))) (items_text (items_of (map item_of xs)) ++ rest) ≡ Some (xs, rest)
  unfolding list_at
  list_again [] rest fits hold = refl
  list_again (x ∷ xs) rest fits hold =
      let more = items_text (items_of (map item_of xs)) in
      let first = laws.again x (more ++ rest) (record { in_range = fits.in_range.0; rising = fits.rising.0 }) hold.0 in
      let others = list_again xs rest (record { in_range = fits.in_range.1; rising = fits.rising.1 }) hold.1 in
      ap (list_at read (suc (items_count (items_of (map item_of xs))))) (append_assoc (text_of (item_of x)) more rest) ∙ rw (first, others) refl

  array_takes : (bytes : List ℕ) (xs : List A) (rest : List ℕ) → IsBytes bytes → list_array_at read bytes ≡ Some (xs, rest) → TakesItem (suc depth) (array_of (map item_of xs)) bytes rest × AllByRecursion P xs
  unfolding list_array_at
  array_takes bytes xs rest fits e =
      let a = bind_some (head_at 4 bytes) _ (xs, rest) e in
      let h = head_takes 4 bytes a.0.0 a.0.1 fits a.1 in
      let l = list_takes a.0.0 a.0.1 (xs, rest) h.0.rest_fits a.2 in
      (array_item (omega (arith, l.counted, h.1)) (subst (λ (k : ℕ). Takes bytes (head 4 k) a.0.1) (sym l.counted) h.0) l.taken, l.hold)

  array_again : (xs : List A) (rest : List ℕ) → Fits (array_of (map item_of xs)) → AllByRecursion P xs → list_array_at read (text_of (array_of (map item_of xs)) ++ rest) ≡ Some (xs, rest)
  unfolding list_array_at
  array_again xs rest fits hold =
      let is = items_of (map item_of xs) in
      let h = head_again 4 (items_count is) (items_text is ++ rest) fits.in_range.0 in
      let l = list_again xs rest (record { in_range = fits.in_range.1; rising = fits.rising }) hold in
      ap (list_array_at read) (append_assoc (head 4 (items_count is)) (items_text is) rest) ∙ rw h l

-- an array of like items
pub list_array_reads : {A : Type 0} {item_of : A → Item} {P : A → Type 0} {depth : ℕ} {read : Reading A} → ReadsItem item_of P depth read → ReadsItem (λ xs. array_of (map item_of xs)) (AllByRecursion P) (suc depth) (list_array_at read)
list_array_reads {A} {item_of} {P} {depth} {read} laws = record { takes = array_takes item_of P depth read laws; again = array_again item_of P depth read laws }

-- ---- entries

-- what is asked of the entries of a map that has a text, beside how deep they nest
pub record EntriesFit (ps : Pairs) : Type 0 where
  pub in_range : PairsAreInRange ps
  pub rising : PairsHaveRisingKeys ps

-- an entry that was read: its key's text stands after this one
pub record TakesEntry {E : Type 0} (pair : E → Item × Item) (P : E → Type 0) (depth : ℕ) (before bytes : List ℕ) (e : E) (text rest : List ℕ) : Type 0 where
  pub taken : Takes bytes (text_of (pair e).0 ++ text_of (pair e).1) rest
  pub key_fits : Fits (pair e).0
  pub value_fits : Fits (pair e).1
  pub nests : pairs_nesting (pairs_of (pair e ∷ [])) ≤ depth
  pub text_is : text ≡ text_of (pair e).0
  pub rises : slice_cmp nat_cmp before (text_of (pair e).0) ≡ Less
  pub holds : P e

-- the two laws of a reading of entries
pub record ReadsEntry {E : Type 0} (pair : E → Item × Item) (P : E → Type 0) (depth : ℕ) (entry : EntryReading E) : Type 0 where
  pub takes : (before bytes : List ℕ) (x : E × List ℕ × List ℕ) → IsBytes bytes → entry before bytes ≡ Some x → TakesEntry pair P depth before bytes x.0 x.1 x.2
  pub again : (before : List ℕ) (e : E) (rest : List ℕ) → Fits (pair e).0 → Fits (pair e).1 → P e → slice_cmp nat_cmp before (text_of (pair e).0) ≡ Less
      → entry before (text_of (pair e).0 ++ (text_of (pair e).1 ++ rest)) ≡ Some (e, text_of (pair e).0, rest)

-- an entry of a key and a value
pub entry_reads : {K V E : Type 0} {key_item : K → Item} {P : K → Type 0} {value_item : V → Item} {Q : V → Type 0} {depth : ℕ} {key : Reading K} {value : Reading V} (made : K → V → E) (key_of : E → K) (value_of : E → V)
    → ((k : K) (v : V) → key_of (made k v) ≡ k) → ((k : K) (v : V) → value_of (made k v) ≡ v) → ((e : E) → made (key_of e) (value_of e) ≡ e) → ReadsItem key_item P depth key → ReadsItem value_item Q depth value
    → ReadsEntry (λ e. (key_item (key_of e), value_item (value_of e))) (λ e. P (key_of e) × Q (value_of e)) depth (entry_at made key value)
unfolding entry_at rising_at
entry_reads {K} {V} {E} {key_item} {P} {value_item} {Q} {depth} {key} {value} made key_of value_of same_key same_value whole keys values = record {
  takes = λ before bytes x fits e.
      let a = bind_some (key bytes) _ x e in
      let r = bind_some (rising_at before bytes a.0.1) _ x a.2 in
      let g = guard-true (is_lt (slice_cmp nat_cmp before (front bytes a.0.1))) _ r.0 r.1 in
      let b = bind_some (value a.0.1) _ x r.2 in
      let t = keys.takes bytes a.0.0 a.0.1 fits a.1 in
      let u = values.takes a.0.1 b.0.0 b.0.1 t.0.takes.rest_fits b.1 in
      let text-is = front_is bytes (text_of (key_item a.0.0)) a.0.1 t.0.takes in
      let text : front bytes a.0.1 ≡ r.0 = some_is (front bytes a.0.1) r.0 g.1 in
      let k = sym (same_key a.0.0 b.0.0) in
      let v = sym (same_value a.0.0 b.0.0) in
      let e0 = made a.0.0 b.0.0 in
      subst (λ (y : E × List ℕ × List ℕ). TakesEntry (λ e. (key_item (key_of e), value_item (value_of e))) (λ e. P (key_of e) × Q (value_of e)) depth before bytes y.0 y.1 y.2) {x = (e0, r.0, b.0.1)} (some_is (e0, r.0, b.0.1) x b.2) (record {
        taken = subst (λ (w : V). Takes bytes (text_of (key_item (key_of e0)) ++ text_of (value_item w)) b.0.1) v (subst (λ (w : K). Takes bytes (text_of (key_item w) ++ text_of (value_item b.0.0)) b.0.1) k (Takes-then bytes (text_of (key_item a.0.0)) a.0.1 (text_of (value_item b.0.0)) b.0.1 t.0.takes u.0.takes));
        key_fits = subst (λ (w : K). Fits (key_item w)) k t.0.fits;
        value_fits = subst (λ (w : V). Fits (value_item w)) v u.0.fits;
        nests = subst (λ (w : V). pairs_nesting (pairs_of ((key_item (key_of e0), value_item w) ∷ [])) ≤ depth) v (subst (λ (w : K). pairs_nesting (pairs_of ((key_item w, value_item b.0.0) ∷ [])) ≤ depth) k (omega (arith, t.0.nests, u.0.nests)));
        text_is = sym text ∙ text-is ∙ ap (λ (w : K). text_of (key_item w)) k;
        rises = subst (λ (w : K). slice_cmp nat_cmp before (text_of (key_item w)) ≡ Less) k (ap (slice_cmp nat_cmp before) (sym text-is) ∙ is_less _ g.0);
        holds = (subst P k t.1, subst Q v u.1);
      });
  again = λ before e rest p q is rises.
      let k = text_of (key_item (key_of e)) in
      let after = text_of (value_item (value_of e)) ++ rest in
      let first = keys.again (key_of e) after p is.0 in
      let second = values.again (value_of e) rest q is.1 in
      let long : length (k ++ after) - length after ≡ length k = omega (arith, length-append k after) in
      rw (first, long, take_at k after (length k) refl, rises, second) (ap (λ (w : E). found w k rest) (whole e));
}
  where
    found : {E : Type 0} → E → List ℕ → List ℕ → Option (E × List ℕ × List ℕ)
    found e text rest = Some (e, text, rest)

-- the same entries, said otherwise
pub same_entries_read : {E : Type 0} {pair : E → Item × Item} {P : E → Type 0} {depth : ℕ} {entry : EntryReading E} (Q : E → Type 0) → ((e : E) → P e → Q e) → ((e : E) → Q e → P e) → ReadsEntry pair P depth entry → ReadsEntry pair Q depth entry
same_entries_read Q to from laws = record {
  takes = λ before bytes x fits e.
      let t = laws.takes before bytes x fits e in
      record { taken = t.taken; key_fits = t.key_fits; value_fits = t.value_fits; nests = t.nests; text_is = t.text_is; rises = t.rises; holds = to x.0 t.holds };
  again = λ before e rest p q is rises. laws.again before e rest p q (from e is) rises;
}

module _ {E : Type 0} (pair : E → Item × Item) (P : E → Type 0) (depth : ℕ) (entry : EntryReading E) (laws : ReadsEntry pair P depth entry) where
  -- entries that were read
  record TakesEntries (before : List ℕ) (count : ℕ) (bytes : List ℕ) (x : List E × List ℕ) : Type 0 where
    taken : Takes bytes (pairs_text (pairs_of (map pair x.0))) x.1
    counted : pairs_count (pairs_of (map pair x.0)) ≡ count
    fit : EntriesFit (pairs_of (map pair x.0))
    nest : pairs_nesting (pairs_of (map pair x.0)) ≤ depth
    rises : IsBefore before (pairs_of (map pair x.0))
    hold : AllByRecursion P x.0

  entries_take : (before : List ℕ) (count : ℕ) (bytes : List ℕ) (x : List E × List ℕ) → IsBytes bytes → entries_at entry before count bytes ≡ Some x → TakesEntries before count bytes x
  unfolding entries_at
  entries_take before zero bytes x fits e =
      subst (TakesEntries before 0 bytes) (some_is ([], bytes) x e)
      (record { taken = record { parts = refl; rest_fits = fits }; counted = refl; fit = record { in_range = tt; rising = tt }; nest = omega arith; rises = tt; hold = tt })
  entries_take before (suc count) bytes x fits e =
      let a = bind_some (entry before bytes) _ x e in
      let b = bind_some (entries_at entry a.0.1 count a.0.2) _ x a.2 in
      let first = laws.takes before bytes a.0 fits a.1 in
      let others = entries_take a.0.1 count a.0.2 b.0 first.taken.rest_fits b.1 in
      let k = (pair a.0.0).0 in
      let v = (pair a.0.0).1 in
      let ps = pairs_of (map pair b.0.0) in
      let p = first.key_fits in
      let q = first.value_fits in
      let r = others.fit in
      subst (TakesEntries before (suc count) bytes) (some_is (a.0.0 ∷ b.0.0, b.0.1) x b.2) (record {
        taken = subst (λ (t : List ℕ). Takes bytes t b.0.1) (append_assoc (text_of k) (text_of v) (pairs_text ps)) (Takes-then bytes (text_of k ++ text_of v) a.0.2 (pairs_text ps) b.0.1 first.taken others.taken);
        counted = ap suc others.counted;
        fit = record {
          in_range = (p.in_range, q.in_range, r.in_range);
          rising = (p.rising, q.rising, is_before_first k ps (subst (λ (t : List ℕ). IsBefore t ps) first.text_is others.rises), r.rising);
        };
        nest = omega (arith, first.nests, others.nest);
        rises = first.rises;
        hold = (first.holds, others.hold);
      })

  entries_again : (before : List ℕ) (es : List E) (rest : List ℕ) → EntriesFit (pairs_of (map pair es)) → AllByRecursion P es → IsBefore before (pairs_of (map pair es))
      → entries_at entry before (pairs_count (pairs_of (map pair es))) (pairs_text (pairs_of (map pair es)) ++ rest) ≡ Some (es, rest)
  unfolding entries_at
  entries_again before [] rest p hold rises = refl
  entries_again before (e ∷ es) rest p hold rises =
      let k = (pair e).0 in
      let v = (pair e).1 in
      let ps = pairs_of (map pair es) in
      let first = laws.again before e (pairs_text ps ++ rest) (record { in_range = p.in_range.0; rising = p.rising.0 }) (record { in_range = p.in_range.1; rising = p.rising.1 }) hold.0 rises in
      let others = entries_again (text_of k) es rest (record { in_range = p.in_range.2; rising = p.rising.3 }) hold.1 (before_first_is k ps p.rising.2) in
      let regrouped : (text_of k ++ (text_of v ++ pairs_text ps)) ++ rest ≡ text_of k ++ (text_of v ++ (pairs_text ps ++ rest)) = append_assoc (text_of k) (text_of v ++ pairs_text ps) rest ∙ ap (λ (t : List ℕ). text_of k ++ t) (append_assoc (text_of v) (pairs_text ps) rest) in
      ap (entries_at entry before (suc (pairs_count ps))) regrouped ∙ rw (first, others) refl

  map_takes : (bytes : List ℕ) (es : List E) (rest : List ℕ) → IsBytes bytes → map_at entry bytes ≡ Some (es, rest) → TakesItem (suc depth) (map_of (map pair es)) bytes rest × AllByRecursion P es
  unfolding map_at
  map_takes bytes es rest fits e =
      let a = bind_some (head_at 5 bytes) _ (es, rest) e in
      let h = head_takes 5 bytes a.0.0 a.0.1 fits a.1 in
      let m = entries_take [] a.0.0 a.0.1 (es, rest) h.0.rest_fits a.2 in
      let ps = pairs_of (map pair es) in
      let both = Takes-then bytes (head 5 a.0.0) a.0.1 (pairs_text ps) rest h.0 m.taken in
      let p = m.fit in (
        record {
          takes = subst (λ (k : ℕ). Takes bytes (head 5 k ++ pairs_text ps) rest) (sym m.counted) both;
          fits = record { in_range = (omega (arith, m.counted, h.1), p.in_range); rising = p.rising };
          nests = omega (arith, m.nest);
        },
        m.hold,
      )

  map_again : (es : List E) (rest : List ℕ) → Fits (map_of (map pair es)) → AllByRecursion P es → map_at entry (text_of (map_of (map pair es)) ++ rest) ≡ Some (es, rest)
  unfolding map_at
  map_again es rest fits hold =
      let ps = pairs_of (map pair es) in
      let h = head_again 5 (pairs_count ps) (pairs_text ps ++ rest) fits.in_range.0 in
      let m = entries_again [] es rest (record { in_range = fits.in_range.1; rising = fits.rising }) hold (nothing_before ps fits.in_range.1) in
      ap (map_at entry) (append_assoc (head 5 (pairs_count ps)) (pairs_text ps) rest) ∙ rw h m

-- a map of such entries
pub map_reads : {E : Type 0} {pair : E → Item × Item} {P : E → Type 0} {depth : ℕ} {entry : EntryReading E} → ReadsEntry pair P depth entry → ReadsItem (λ es. map_of (map pair es)) (AllByRecursion P) (suc depth) (map_at entry)
map_reads {E} {pair} {P} {depth} {entry} laws = record { takes = map_takes pair P depth entry laws; again = map_again pair P depth entry laws }
