-- For a crate that keeps a map in a type of its own and speaks of it as std's `FinMap`, by the view `λ x. finite.from_sorted x.map`. Where the entries of the
-- map rise, which every call ensures, each clause on the list of entries is one on the finite map. `order` is `IsTotalOrder` of the key's comparison.
use Rattle.std.proofs.Common.{◌≡◌, Bool, true, false, cond, not, List, [], length, refl, sym, ap, ◌∙◌}
use Rattle.std.specs.declared.cmp.Ordering.{Ordering}
use Rattle.std.specs.declared.option.Option.{Option}
use Rattle.std.specs.declared.option.Option.TheVariants.{None}
use Rattle.std.specs.Ordering.{is_eq, eq_by_cmp}
use Rattle.std.specs.Cmp.{IsTotalOrder, alike_right, eq_by_cmp_equiv}
use Rattle.std.specs.FinMap as finite
use Rattle.std.specs.FinMap.{IsAntisymmetric, find, put}
use Rattle.std.specs.FinMap.Entries.{find-where_key}
use Rattle.persistent_map.specs.Order.{Rise, without}
use Rattle.persistent_map.proofs.Counts.{without_rises, put_rises}

module _ {K V : Type 0} (R : K → K → Ordering) where
  -- the entries of the finite map, in order
  pub entries_of : (es : List (K × V)) → Rise R es → finite.entries (finite.from_sorted {R = R} es) ≡ es
  entries_of es h = finite.entries-from_sorted R es h.rises

  -- a new map
  pub empty_of : finite.from_sorted {K = K} {X = V} {R = R} [] ≡ finite.empty
  empty_of = finite.empty_of_len _ (finite.len-entries _ ∙ ap length (finite.entries-from_sorted R [] tt))

  -- `get`
  pub get_of : (es : List (K × V)) (k : K) → Rise R es → find R k es ≡ finite.get (finite.from_sorted {R = R} es) k
  get_of es k h = sym (finite.get-from_sorted R es k h.rises)

  -- `len`
  pub len_of : (es : List (K × V)) → Rise R es → length es ≡ finite.len (finite.from_sorted {R = R} es)
  len_of es h = ap length (sym (entries_of es h)) ∙ sym (finite.len-entries (finite.from_sorted es))

  -- `insert`
  pub insert_of : IsTotalOrder R → (es : List (K × V)) (k : K) (v : V) → Rise R es → finite.from_sorted {R = R} (put R k v es) ≡ finite.insert (finite.from_sorted es) k v
  insert_of order es k v h = finite.same_entries_map _ _ (entries_of _ (put_rises order k v es h) ∙ ap (put R k v) (sym (entries_of es h)) ∙ sym (finite.entries-insert order (finite.from_sorted es) k v))

  removed : (b : Bool) (x : Option V) → cond (not b) x None ≡ cond b None x
  removed true x = refl
  removed false x = refl

  -- `remove`, where only equal keys tie
  pub remove_of : IsTotalOrder R → IsAntisymmetric R → (es : List (K × V)) (k : K) → Rise R es → finite.from_sorted {R = R} (without R k es) ≡ finite.remove (finite.from_sorted es) k
  remove_of order same es k h = finite.same_map order same _ _ (λ q.
      finite.get-from_sorted R (without R k es) q (without_rises R k es h).rises
      ∙ find-where_key R (λ x. not (eq_by_cmp R k x)) q (λ x t. ap (λ r. not (is_eq r)) (sym (alike_right order q x k t))) es
      ∙ removed (eq_by_cmp R k q) (find R q es)
      ∙ ap (λ b. cond b None (find R q es)) ((eq_by_cmp_equiv order).symm k q)
      ∙ ap (cond (eq_by_cmp R q k) None) (sym (finite.get-from_sorted R es q h.rises))
      ∙ sym (finite.get-remove order (finite.from_sorted es) k q))
