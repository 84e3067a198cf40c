-- Sums that a loop makes of outputs, and the text of a balance.
use Rattle.std.proofs.Common.{◌≡◌, ℕ, zero, suc, ◌+◌, ℤ, pos, List, [], ◌∷◌, ◌++◌, drop, length, map, Some, None, refl, sym, ap, subst, ◌∙◌, arith, append_assoc}
use Rattle.std.specs.Prelude.{◌+ℤ◌, slice_get, codes, decimal}
use Rattle.std.specs.Fmt.{signed_decimal}
use Rattle.std.proofs.lemmas.Int.{ints}
use Rattle.model.specs.Value.{Asset, Named, amount_of}
use Rattle.model.specs.Transaction.{Input, Output}
use Rattle.model.specs.Utxo.{sum_of}
use Rattle.value.specs.Parts.{AssetQuantity}
use Rattle.scenario.specs.Balances.{AreAssetsOf}

-- what was added and what is still to be added are the whole
pub record IsPartSummed (whole : List Output) (total : Asset → ℤ) (values : ℕ) (rest : List (Input × Output)) : Type 0 where
  pub sums : (asset : Asset) → total asset +ℤ sum_of asset (map (λ p. p.1) rest) ≡ sum_of asset whole
  pub counted : values + length rest ≡ length whole

pub none_summed : (pairs : List (Input × Output)) (total : Asset → ℤ) (values : ℕ) (rest : List (Input × Output)) → ((asset : Asset) → total asset ≡ pos 0) → values ≡ 0 → rest ≡ pairs → IsPartSummed (map (λ p. p.1) pairs) total values rest
none_summed pairs total values rest nothing none is =
    let start : IsPartSummed (map (λ p. p.1) pairs) total values pairs = record {
      sums = λ asset. (let nil = nothing asset in omega (arith, ints, nil));
      counted = (let same = length_map (λ (p : Input × Output). p.1) pairs in omega (arith, none, same));
    } in
    subst (λ (ps : List (Input × Output)). IsPartSummed (map (λ p. p.1) pairs) total values ps) (sym is) start
  where
    length_map : {X Y : Type 0} (f : X → Y) (xs : List X) → length (map f xs) ≡ length xs
    length_map f [] = refl
    length_map f (x ∷ xs) = ap suc (length_map f xs)

pub one_summed : (whole : List Output) (total more : Asset → ℤ) (values counted : ℕ) (left rest : List (Input × Output)) (pair : Input × Output) → left ≡ pair ∷ rest → ((asset : Asset) → more asset ≡ total asset +ℤ amount_of asset pair.1.value) → counted ≡ values + 1
    → IsPartSummed whole total values left → IsPartSummed whole more counted rest
one_summed whole total more values counted left rest pair is added one part =
    let here : IsPartSummed whole total values (pair ∷ rest) = subst (λ (ps : List (Input × Output)). IsPartSummed whole total values ps) is part in
    record {
      sums = λ asset. (let now = added asset in let before = here.sums asset in omega (arith, ints, now, before));
      counted = (let before = here.counted in omega (arith, one, before));
    }

pub all_summed : (whole : List Output) (total : Asset → ℤ) (values : ℕ) (rest : List (Input × Output)) → rest ≡ [] → IsPartSummed whole total values rest → ((asset : Asset) → total asset ≡ sum_of asset whole) × (values ≡ length whole)
all_summed whole total values rest none part =
    let end : IsPartSummed whole total values [] = subst (λ (ps : List (Input × Output)). IsPartSummed whole total values ps) none part in (
      (λ asset. (let sum = end.sums asset in omega (arith, ints, sum))),
      (let count = end.counted in omega (arith, count)),
    )

-- the same assets, whatever tells how much there is
pub same_assets : (total other : Asset → ℤ) (assets : List (AssetQuantity ℤ)) → ((asset : Asset) → total asset ≡ other asset) → AreAssetsOf total assets → AreAssetsOf other assets
same_assets total other assets same are = record {
  listed = λ policy name sum. (
    (λ h. let told = (are.listed policy name sum).0 h in (sym (same (Named policy name)) ∙ told.0, told.1)),
    (λ told. (are.listed policy name sum).1 (same (Named policy name) ∙ told.0, told.1)),
  );
  ordered = are.ordered;
}

-- a first line, and others behind it
pub lines_behind : (owner : List ℕ) (pairs : ℕ) (coin : ℤ) (lines : List ℕ) → codes "balance " ++ (owner ++ (codes ": pairs " ++ (decimal pairs ++ (codes " coin " ++ (signed_decimal coin ++ 10 ∷ lines)))))
    ≡ (codes "balance " ++ (owner ++ (codes ": pairs " ++ (decimal pairs ++ (codes " coin " ++ (signed_decimal coin ++ 10 ∷ [])))))) ++ lines
lines_behind owner pairs coin lines =
    let end : List ℕ = codes " coin " ++ (signed_decimal coin ++ 10 ∷ []) in
    let at_coin : codes " coin " ++ (signed_decimal coin ++ 10 ∷ lines) ≡ end ++ lines = ap (λ (bs : List ℕ). codes " coin " ++ bs) (sym (append_assoc (signed_decimal coin) (10 ∷ []) lines)) in
    let at_pairs : decimal pairs ++ (codes " coin " ++ (signed_decimal coin ++ 10 ∷ lines)) ≡ (decimal pairs ++ end) ++ lines = ap (λ (bs : List ℕ). decimal pairs ++ bs) at_coin ∙ sym (append_assoc (decimal pairs) end lines) in
    let at_owner : owner ++ (codes ": pairs " ++ (decimal pairs ++ (codes " coin " ++ (signed_decimal coin ++ 10 ∷ lines)))) ≡ (owner ++ (codes ": pairs " ++ (decimal pairs ++ end))) ++ lines =
    ap (λ (bs : List ℕ). owner ++ (codes ": pairs " ++ bs)) at_pairs ∙ sym (append_assoc owner (codes ": pairs " ++ (decimal pairs ++ end)) lines) in
    ap (λ (bs : List ℕ). codes "balance " ++ bs) at_owner

-- the first of what is left behind the first `n`
pub first_left : {X : Type 0} (xs : List X) (n : ℕ) (x : X) (rest : List X) → drop n xs ≡ x ∷ rest → slice_get xs n ≡ Some x
first_left [] zero x rest is = cc
first_left [] (suc n) x rest is = cc
first_left (y ∷ ys) zero x rest is = let same : y ≡ x = cc in ap Some same
first_left (y ∷ ys) (suc n) x rest is = first_left ys n x rest is

pub none_left : {X : Type 0} (xs : List X) (n : ℕ) → drop n xs ≡ [] → slice_get xs n ≡ None
none_left [] zero is = refl
none_left [] (suc n) is = refl
none_left (y ∷ ys) zero is = cc
none_left (y ∷ ys) (suc n) is = none_left ys n is
