-- What the unspent outputs hold after a transaction that preserves value.
use Rattle.std.proofs.Common.{◌≡◌, ℕ, ◌+◌, pos, ◌+ℤ◌, true, None, arith}
use Rattle.std.proofs.lemmas.Int.{ints}
use Rattle.model.specs.Value.{Asset, Ada, minted_amount}
use Rattle.model.specs.Transaction.{Transaction, IsTransaction}
use Rattle.model.specs.Signature.{Verifies}
use Rattle.model.specs.Utxo.{Utxo, outputs_of, utxo_after, sum_of, coin_of}
use Rattle.model.specs.Balance.{amount_of_fee, PreservesValue}
use Rattle.model.specs.Rules.{Params, NotBalanced, OutputExists, passes, reasons, has_free_places, reason_against}
use Rattle.model.proofs.Balances.{balanced_preserves}
use Rattle.model.proofs.Reasons.{listed, each_holds}
use Rattle.model.proofs.UtxoSums.{after_sum, ada_is_coin}

pub assets_change : (utxo : Utxo) (t : Transaction) (asset : Asset) → IsTransaction t → has_free_places utxo t ≡ true → PreservesValue utxo t
    → sum_of asset (outputs_of (utxo_after utxo t)) +ℤ amount_of_fee asset t.fee ≡ sum_of asset (outputs_of utxo) +ℤ minted_amount asset t.mint
assets_change utxo t asset is free preserved =
    let change = after_sum asset utxo t is.inputs_rise free in
    let same = preserved asset in
    omega (arith, ints)

pub ada_conserved : (utxo : Utxo) (t : Transaction) → IsTransaction t → has_free_places utxo t ≡ true → PreservesValue utxo t
    → coin_of (outputs_of (utxo_after utxo t)) + t.fee ≡ coin_of (outputs_of utxo)
ada_conserved utxo t is free preserved =
    let ada : sum_of Ada (outputs_of (utxo_after utxo t)) +ℤ pos t.fee ≡ sum_of Ada (outputs_of utxo) +ℤ pos 0 = assets_change utxo t Ada is free preserved in
    let after = ada_is_coin (outputs_of (utxo_after utxo t)) in
    let before = ada_is_coin (outputs_of utxo) in
    omega (arith, ints)

pub accepted_conserves : (verifies : Verifies) (params : Params) (utxo : Utxo) (slot : ℕ) (t : Transaction) → IsTransaction t → reason_against verifies params utxo slot t ≡ None
    → coin_of (outputs_of (utxo_after utxo t)) + t.fee ≡ coin_of (outputs_of utxo)
unfolding reason_against
accepted_conserves verifies params utxo slot t is none =
    let free = each_holds (passes verifies params utxo slot t) reasons OutputExists none (listed OutputExists) in
    let balanced = each_holds (passes verifies params utxo slot t) reasons NotBalanced none (listed NotBalanced) in
    ada_conserved utxo t is free (balanced_preserves utxo t balanced)
