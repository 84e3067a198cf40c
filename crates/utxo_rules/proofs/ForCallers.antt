-- For the crates above: how a loop puts in outputs that are counted from 0 on, and that unspent outputs may go to
-- another thread.
use Rattle.std.proofs.Common.{◌≡◌, ℕ, suc, ◌+◌, ◌<◌, ◌≤◌, true, List, [], ◌∷◌, length, drop, get_or, map, refl, sym, ap, ◌∙◌, arith}
use Rattle.std.specs.FinMap as finite
use Rattle.std.proofs.lemmas.List.{drop_all}
use Rattle.cbor.proofs.ForCallers.{drop_here}
use Rattle.model.specs.Transaction.{Input, Output, Transaction}
use Rattle.model.specs.Utxo.{Utxo, place, pairs_from, with_pairs, utxo_after}
use Rattle.model.specs.Rules.{has_free_places}
use Rattle.utxo_rules.specs.Diffs.{Diff, diff_of, undone}
use Rattle.utxo_rules.proofs.Restoring.{undone_to}
pub use Rattle.utxo_rules.proofs.Crossing.{Utxo-send}

module _ {A : Type 0} (made : A → Output) (id : List ℕ) where
  -- the pairs of what is made of the elements from this one on
  abbrev pub pairs_left : List A → ℕ → List (Input × Output)
  pairs_left xs i = pairs_from id i (map made (drop i xs))

  pub pair_here : (xs : List A) (i : ℕ) (x : A) → i < length xs → x ≡ get_or xs i x → pairs_left xs i ≡ (place id i, made x) ∷ pairs_left xs (i + 1)
  pair_here xs i x lt is =
      let next : suc i ≡ i + 1 = omega arith in
      ap (λ (ys : List A). pairs_from id i (map made ys)) (drop_here xs i x lt is)
      ∙ ap (λ (n : ℕ). (place id i, made x) ∷ pairs_from id n (map made (drop (i + 1) xs))) next

  pub no_pairs : (xs : List A) (i : ℕ) → length xs ≤ i → pairs_left xs i ≡ []
  no_pairs xs i le = ap (λ (ys : List A). pairs_from id i (map made ys)) (drop_all i xs le)

  -- with what is still to be put in it is what is asked for
  abbrev pub IsPartPlaced : (old now : Utxo) → List A → ℕ → Type 0
  IsPartPlaced old now xs i = with_pairs (pairs_left xs i) now ≡ with_pairs (pairs_left xs 0) old

  pub one_placed : (old now new : Utxo) (xs : List A) (i : ℕ) (x : A) (o : Output) → i < length xs → x ≡ get_or xs i x → o ≡ made x → new ≡ finite.insert now (place id i) o → IsPartPlaced old now xs i → IsPartPlaced old new xs (i + 1)
  one_placed old now new xs i x o lt is same inserted part =
      ap (with_pairs (pairs_left xs (i + 1))) (inserted ∙ ap (finite.insert now (place id i)) same)
      ∙ ap (λ (ps : List (Input × Output)). with_pairs ps now) (sym (pair_here xs i x lt is)) ∙ part

  pub all_placed : (old now : Utxo) (xs : List A) (i : ℕ) → length xs ≤ i → IsPartPlaced old now xs i → now ≡ with_pairs (pairs_left xs 0) old
  all_placed old now xs i le part = ap (λ (ps : List (Input × Output)). with_pairs ps now) (sym (no_pairs xs i le)) ∙ part

-- Where its places were free, a transaction that is undone leaves what it was applied to.
pub undone_same : (now old : Utxo) (d : Diff) (t : Transaction) → d ≡ diff_of old t → now ≡ utxo_after old t → has_free_places old t ≡ true → undone d now ≡ old
undone_same now old d t is after free = undone_to (undone d now) now old d t refl is after free
