-- That the tests of `Same` hold just of what is the same, and so are equivalences.
use Rattle.std.specs.Prelude.{◌≡◌, Bool, ◌&&◌, ◌==◌, bytes_eq}
use Rattle.std.specs.Bool.{Decides, one_answer}
use Rattle.std.specs.Cmp.{IsEquivalence}
use Rattle.std.proofs.Common.{refl, sym, ap}
use Rattle.std.proofs.lemmas.Bool.Decides.{Decides-eqb, Decides-like, Decides-and}
use Rattle.std.proofs.lemmas.Slice.Eq.{bytes_eq-Decides}
use Rattle.std.proofs.lemmas.Cmp.{on_equiv, and_equiv}
use Rattle.model.specs.Cbor as cbor
use Rattle.cbor.specs.declared.item.Entry.{Entry}
use Rattle.cbor.specs.Tree.{item_of}
use Rattle.cbor.specs.Same.{item_eq, items_eq, pairs_eq, same_item, same_entry}

mutual
  pub item_decides : (i j : cbor.Item) → Decides (item_eq i j) (i ≡ j)
  item_decides (cbor.Unsigned m) (cbor.Unsigned n) =
      Decides-like (m == n) (ap cbor.Unsigned) (λ e. cc) (Decides-eqb m n)
  item_decides (cbor.Negative m) (cbor.Negative n) =
      Decides-like (m == n) (ap cbor.Negative) (λ e. cc) (Decides-eqb m n)
  item_decides (cbor.Bytes bs) (cbor.Bytes cs) =
      Decides-like (bytes_eq bs cs) (ap cbor.Bytes) (λ e. cc) (bytes_eq-Decides bs cs)
  item_decides (cbor.Array is) (cbor.Array js) =
      Decides-like (items_eq is js) (ap cbor.Array) (λ e. cc) (items_decide is js)
  item_decides (cbor.Map ps) (cbor.Map qs) =
      Decides-like (pairs_eq ps qs) (ap cbor.Map) (λ e. cc) (pairs_decide ps qs)
  item_decides cbor.Null cbor.Null = (λ t. refl, λ e. refl)
  item_decides _ _ = (λ t. absurd cc, λ e. absurd cc)

  pub items_decide : (is js : cbor.Items) → Decides (items_eq is js) (is ≡ js)
  items_decide cbor.NoItems cbor.NoItems = (λ t. refl, λ e. refl)
  items_decide (cbor.NextItem i is) (cbor.NextItem j js) =
      Decides-like (item_eq i j && items_eq is js) (λ p d. cbor.NextItem (p.0 d) (p.1 d)) (λ e. (cc, cc))
      (Decides-and (item_eq i j) (items_eq is js) (item_decides i j) (items_decide is js))
  items_decide _ _ = (λ t. absurd cc, λ e. absurd cc)

  pub pairs_decide : (ps qs : cbor.Pairs) → Decides (pairs_eq ps qs) (ps ≡ qs)
  pairs_decide cbor.NoPairs cbor.NoPairs = (λ t. refl, λ e. refl)
  pairs_decide (cbor.NextPair k v ps) (cbor.NextPair l w qs) =
      let entry = Decides-and (item_eq k l) (item_eq v w) (item_decides k l) (item_decides v w) in
      Decides-like (item_eq k l && item_eq v w && pairs_eq ps qs)
      (λ p d. cbor.NextPair (p.0.0 d) (p.0.1 d) (p.1 d)) (λ e. ((cc, cc), cc))
      (Decides-and (item_eq k l && item_eq v w) (pairs_eq ps qs) entry (pairs_decide ps qs))
  pairs_decide _ _ = (λ t. absurd cc, λ e. absurd cc)

-- a test of sameness is an equivalence
equivalence : {K : Type 0} (E : K → K → Bool) → ((x y : K) → Decides (E x y) (x ≡ y)) → IsEquivalence E
equivalence E decides = record {
  refl = λ x. (decides x x).1 refl;
  symm = λ x y. one_answer (E x y) (E y x) (decides x y) (Decides-like (E y x) sym sym (decides y x));
  congr = λ x y z t. ap (λ k. E k z) ((decides x y).0 t);
}

pub same_item_laws : IsEquivalence same_item
same_item_laws = on_equiv item_of (equivalence item_eq item_decides)

pub same_members_laws : IsEquivalence items_eq
same_members_laws = equivalence items_eq items_decide

pub same_entry_laws : IsEquivalence same_entry
same_entry_laws =
    and_equiv (on_equiv (λ (e : Entry). e.key) same_item_laws) (on_equiv (λ (e : Entry). e.value) same_item_laws)

pub same_entries_laws : IsEquivalence pairs_eq
same_entries_laws = equivalence pairs_eq pairs_decide
