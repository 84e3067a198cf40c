-- One list alone is that of the holders of an asset.
use Rattle.std.proofs.Common.{◌≡◌, ℕ, pos, Bool, true, false, cond, List, [], ◌∷◌, Option, Some, None, refl, sym, ap, subst, ◌∙◌, arith, is_some}
use Rattle.std.specs.Prelude.{T, ◌&&◌, ◌<◌, ◌≢◌}
use Rattle.std.specs.List.{AllByRecursion, list_any}
use Rattle.std.specs.List.Sorted.{IsStrictlySortedBy}
use Rattle.std.specs.Int.RustNames.{unsigned_abs}
use Rattle.std.specs.Cmp.{Equal-is, eq_by_cmp_equiv}
use Rattle.std.specs.Ordering.{eq_by_cmp, is_lt}
use Rattle.std.specs.declared.cmp.Ordering.{Ordering}
use Rattle.std.specs.declared.cmp.Ordering.TheVariants.{Less}
use Rattle.std.specs.FinMap.{find, is_sorted}
use Rattle.std.specs.FinMap.Entries.{below_all, same_entries, is_some-find}
use Rattle.std.proofs.lemmas.List.Elements.{recursion_from_All}
use Rattle.std.proofs.lemmas.Map.Views.{list_any-from_Contains}
use Rattle.model.specs.Value.{Asset}
use Rattle.model.specs.Utxo.{Utxo}
use Rattle.watching.specs.Owned.{owner_cmp}
use Rattle.watching.specs.Holders.{held_by, Holds, owners_of_amounts, AreHolders}
use Rattle.watching.proofs.Owning.{owners_total, owners_same}

both : (a b : Bool) → T a → T b → T (a && b)
both true b p q = q
both false b p q = p

below : (q : List ℕ) (hs : List (List ℕ × ℕ)) → AllByRecursion (λ k. owner_cmp q k ≡ Less) (owners_of_amounts hs) → T (below_all owner_cmp q hs)
below q [] h = tt
below q (e ∷ hs) h = both (is_lt (owner_cmp q e.0)) (below_all owner_cmp q hs) (subst (λ (r : Ordering). T (is_lt r)) (sym h.0) tt) (below q hs h.1)

rising : (hs : List (List ℕ × ℕ)) → IsStrictlySortedBy owner_cmp (owners_of_amounts hs) → T (is_sorted owner_cmp hs)
unfolding IsStrictlySortedBy
rising [] h = tt
rising (e ∷ hs) h = both (below_all owner_cmp e.0 hs) (is_sorted owner_cmp hs) (below e.0 hs h.0) (rising hs h.1)

-- what is found of an owner is what it holds
found_holds : (asset : Asset) (u : Utxo) (hs : List (List ℕ × ℕ)) → AllByRecursion (Holds asset u) hs → (q : List ℕ) (n : ℕ) → find owner_cmp q hs ≡ Some n → Holds asset u (q, n)
found_holds asset u [] h q n found = let clash : None ≡ Some n = found in cc
found_holds asset u (e ∷ hs) h q n found =
    elim (eq_by_cmp owner_cmp q e.0) as (λ t. eq_by_cmp owner_cmp q e.0 ≡ t → cond t (Some e.1) (find owner_cmp q hs) ≡ Some n → Holds asset u (q, n)) [
      | true ↦ λ tie here.
          let is : q ≡ e.0 = owners_same q e.0 ((Equal-is (owner_cmp q e.0)).0 tie) in
          let much : e.1 ≡ n = cc in
          subst (λ (o : List ℕ). Holds asset u (o, n)) (sym is) (subst (λ (m : ℕ). Holds asset u (e.0, m)) much h.0)
      | false ↦ λ apart later. found_holds asset u hs h.1 q n later
    ] refl found

by_held : (asset : Asset) (u : Utxo) (hs : List (List ℕ × ℕ)) → AreHolders asset u hs → (q : List ℕ) (x : Option ℕ) → find owner_cmp q hs ≡ x → (n : ℕ) → held_by asset q u ≡ pos n → 0 < n → x ≡ Some n
by_held asset u hs are q None missed n held some =
    let not_none : held_by asset q u ≢ pos 0 = λ none. (let zero : n ≡ 0 = ap unsigned_abs (sym held ∙ none) in omega (arith, zero, some)) in
    let there : list_any (eq_by_cmp owner_cmp q) (owners_of_amounts hs) ≡ true = list_any-from_Contains (eq_by_cmp_equiv owners_total) q (owners_of_amounts hs) (are.all q not_none) in
    let clash : false ≡ true = sym (ap is_some missed) ∙ is_some-find owner_cmp q hs ∙ there in
    cc
by_held asset u hs are q (Some m) found n held some =
    let holds = found_holds asset u hs (recursion_from_All (Holds asset u) hs are.hold) q m found in
    ap Some (ap unsigned_abs (sym holds.1 ∙ held))

same_found : (asset : Asset) (u : Utxo) (hs gs : List (List ℕ × ℕ)) → AreHolders asset u hs → AreHolders asset u gs → (q : List ℕ) (x y : Option ℕ) → find owner_cmp q hs ≡ x → find owner_cmp q gs ≡ y → x ≡ y
same_found asset u hs gs ah ag q None None a b = refl
same_found asset u hs gs ah ag q (Some n) y a b =
    let holds = found_holds asset u hs (recursion_from_All (Holds asset u) hs ah.hold) q n a in
    sym (by_held asset u gs ag q y b n holds.1 holds.0)
same_found asset u hs gs ah ag q None (Some n) a b =
    let holds = found_holds asset u gs (recursion_from_All (Holds asset u) gs ag.hold) q n b in
    by_held asset u hs ah q None a n holds.1 holds.0

pub one_list : (asset : Asset) (u : Utxo) (hs gs : List (List ℕ × ℕ)) → AreHolders asset u hs → AreHolders asset u gs → hs ≡ gs
one_list asset u hs gs ah ag =
    same_entries owner_cmp owners_total owners_same hs gs (rising hs ah.in_order) (rising gs ag.in_order) (λ q. same_found asset u hs gs ah ag q (find owner_cmp q hs) (find owner_cmp q gs) refl refl)
