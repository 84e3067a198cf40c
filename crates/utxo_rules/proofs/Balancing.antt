-- How values that are added up and taken tell whether a transaction is balanced.
use Rattle.std.proofs.Common.{◌≡◌, ℕ, ◌+◌, ◌<◌, ℤ, pos, ◌+ℤ◌, ◌-ℤ◌, Bool, true, false, IsTrue, ◌↔◌, List, [], length, drop, get_or, map, refl, sym, ap, ◌∙◌, arith}
use Rattle.std.proofs.lemmas.Int.{ints}
use Rattle.cbor.proofs.ForCallers.{drop_here}
use Rattle.model.specs.Value.{Value, Asset, Ada, Named, amount_of, minted_amount}
use Rattle.model.specs.Transaction.{Transaction}
use Rattle.model.specs.Utxo.{Utxo, spent_outputs, sum_of}
use Rattle.model.specs.Balance.{consumed, produced, amount_of_fee, is_balanced}
use Rattle.model.proofs.Balances.{balanced_preserves, preserves_balanced}
use Rattle.tx.specs.View.{output_of}
use Rattle.tx.specs.declared.output.Output.{Output as CodeOutput}

-- the first of the outputs that are left, and the others
pub sum_here : (asset : Asset) (outputs : List CodeOutput) (i : ℕ) (x : CodeOutput) → i < length outputs → x ≡ get_or outputs i x
    → sum_of asset (map output_of (drop i outputs)) ≡ amount_of asset x.value +ℤ sum_of asset (map output_of (drop (i + 1) outputs))
sum_here asset outputs i x lt is = ap (λ (xs : List CodeOutput). sum_of asset (map output_of xs)) (drop_here outputs i x lt is)

-- a value of the fee alone
pub fee_amount : (asset : Asset) (fee : ℕ) → amount_of asset (record { coin = fee; assets = [] }) ≡ amount_of_fee asset fee
fee_amount Ada fee = refl
fee_amount (Named policy name) fee = refl

same_truth : (a b : Bool) → (a ≡ true → b ≡ true) → (b ≡ true → a ≡ true) → a ≡ b
same_truth true b to from = sym (to refl)
same_truth false true to from = from refl
same_truth false false to from = refl

module _ (utxo : Utxo) (t : Transaction) where
  -- what is left over of an asset
  left_over : (asset : Asset) (spent minted paid fee : ℤ) → spent ≡ sum_of asset (spent_outputs utxo t) → minted ≡ minted_amount asset t.mint → paid ≡ sum_of asset t.outputs → fee ≡ amount_of_fee asset t.fee
      → ((spent +ℤ minted) -ℤ paid) -ℤ fee ≡ consumed utxo t asset -ℤ produced t asset
  left_over asset spent minted paid fee a b c d = rw (a, b, c, d) (omega (arith, ints))

  pub balance_told : (b : Bool) (total first second third : Asset → ℤ) (mint : _) (paid : List _) (fee : Value)
      → ((asset : Asset) → total asset ≡ sum_of asset (spent_outputs utxo t)) → mint ≡ t.mint → paid ≡ t.outputs → fee ≡ record { coin = t.fee; assets = [] }
      → ((asset : Asset) → first asset ≡ total asset +ℤ minted_amount asset mint) → ((asset : Asset) → second asset ≡ first asset -ℤ sum_of asset paid) → ((asset : Asset) → third asset ≡ second asset -ℤ amount_of asset fee)
      → IsTrue b ↔ ((asset : Asset) → third asset ≡ pos 0) → b ≡ is_balanced utxo t
  balance_told b total first second third mint paid fee spends is_mint are_paid is_fee one two three told =
      let left : (asset : Asset) → third asset ≡ consumed utxo t asset -ℤ produced t asset = λ asset.
      let a = one asset in let s = two asset in let c = three asset in
      let whole = left_over asset (total asset) (minted_amount asset mint) (sum_of asset paid) (amount_of asset fee) (spends asset) (ap (minted_amount asset) is_mint) (ap (sum_of asset) are_paid) (ap (amount_of asset) is_fee ∙ fee_amount asset t.fee) in
      omega (arith, ints, a, s, c, whole) in
      same_truth b (is_balanced utxo t)
      (λ yes. preserves_balanced utxo t (λ asset. let none = told.0 yes asset in let l = left asset in omega (arith, ints, none, l)))
      (λ yes. told.1 (λ asset. let same = balanced_preserves utxo t yes asset in let l = left asset in omega (arith, ints, same, l)))
