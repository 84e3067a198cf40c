-- Sums that a loop makes of outputs.
use Rattle.std.proofs.Common.{◌≡◌, ℕ, ◌+◌, ℤ, pos, List, [], ◌∷◌, length, map, sym, subst, arith}
use Rattle.std.specs.Prelude.{◌+ℤ◌}
use Rattle.std.proofs.lemmas.Int.{ints}
use Rattle.model.specs.Value.{Asset, amount_of}
use Rattle.model.specs.Transaction.{Input, Output}
use Rattle.model.specs.Utxo.{sum_of}

-- what was added and what is still to be added are the whole
pub record IsPartSummed (pairs : List (Input × Output)) (total : Asset → ℤ) (values : ℕ) (rest : List (Input × Output)) : Type 0 where
  pub sums : (asset : Asset) → total asset +ℤ sum_of asset (map (λ p. p.1) rest) ≡ sum_of asset (map (λ p. p.1) pairs)
  pub counted : values + length rest ≡ length pairs

pub none_summed : (pairs : List (Input × Output)) (total : Asset → ℤ) (values : ℕ) (rest : List (Input × Output)) → ((asset : Asset) → total asset ≡ pos 0) → values ≡ 0 → rest ≡ pairs → IsPartSummed pairs total values rest
none_summed pairs total values rest nothing none is =
    let start : IsPartSummed pairs total values pairs = record {
      sums = λ asset. (let nil = nothing asset in omega (arith, ints, nil));
      counted = omega (arith, none);
    } in
    subst (λ (ps : List (Input × Output)). IsPartSummed pairs total values ps) (sym is) start

pub one_summed : (pairs : List (Input × Output)) (total more : Asset → ℤ) (values counted : ℕ) (left rest : List (Input × Output)) (pair : Input × Output) → left ≡ pair ∷ rest → ((asset : Asset) → more asset ≡ total asset +ℤ amount_of asset pair.1.value) → counted ≡ values + 1
    → IsPartSummed pairs total values left → IsPartSummed pairs more counted rest
one_summed pairs total more values counted left rest pair is added one part =
    let here : IsPartSummed pairs total values (pair ∷ rest) = subst (λ (ps : List (Input × Output)). IsPartSummed pairs total values ps) is part in
    record {
      sums = λ asset. (let now = added asset in let before = here.sums asset in omega (arith, ints, now, before));
      counted = (let before = here.counted in omega (arith, one, before));
    }

pub all_summed : (pairs : List (Input × Output)) (total : Asset → ℤ) (values : ℕ) (rest : List (Input × Output)) → rest ≡ [] → IsPartSummed pairs total values rest → ((asset : Asset) → total asset ≡ sum_of asset (map (λ p. p.1) pairs)) × (values ≡ length pairs)
all_summed pairs total values rest none part =
    let end : IsPartSummed pairs total values [] = subst (λ (ps : List (Input × Output)). IsPartSummed pairs total values ps) none part in (
      (λ asset. (let sum = end.sums asset in omega (arith, ints, sum))),
      (let count = end.counted in omega (arith, count)),
    )
