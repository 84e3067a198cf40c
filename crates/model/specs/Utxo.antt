-- The unspent outputs (Shelley, the UTxO), and what a transaction makes of them.
use Rattle.std.specs.Prelude.{◌≡◌, ℕ, suc, ◌+◌, ◌<◌, ℤ, pos, ◌+ℤ◌, Bool, not, List, [], ◌∷◌, length, Option}
use Rattle.std.specs.Prelude.{option_to_list, flat_map}
use Rattle.std.specs.List.{list_any}
use Rattle.std.specs.Ordering.{eq_by_cmp}
use Rattle.std.specs.FinMap as finite
use Rattle.model.specs.Value.{Asset, amount_of}
use Rattle.model.specs.Transaction.{Input, Output, Transaction, input_cmp, transaction_id_of}

-- a finite map from inputs to the outputs that they would spend: a set of pairs, no two of which have one input
abbrev pub Utxo : Type 0
Utxo = finite.FinMap input_cmp Output

-- the output that an input would spend, if it stands there
abbrev pub output_at : Utxo → Input → Option Output
output_at utxo input = finite.get utxo input

-- the outputs that stand there, in the order of their inputs
abbrev pub outputs_of : Utxo → List Output
outputs_of utxo = finite.values utxo

-- the same pairs stand in both
abbrev pub HaveSamePairs : Utxo → Utxo → Type 0
HaveSamePairs a b = (input : Input) → output_at a input ≡ output_at b input

-- ---- what is spent and what is made

-- the input is one of these
abbrev pub is_one_of : List Input → Input → Bool
is_one_of inputs input = list_any (λ i. eq_by_cmp input_cmp i input) inputs

-- the outputs that these inputs would spend, as far as they stand there (Shelley: the UTxO restricted to the inputs)
abbrev pub outputs_at : Utxo → List Input → List Output
outputs_at utxo inputs = flat_map (λ input. option_to_list (output_at utxo input)) inputs

-- the outputs that a transaction spends, each once, since no input stands twice in a transaction
abbrev pub spent_outputs : Utxo → Transaction → List Output
spent_outputs utxo t = outputs_at utxo t.inputs

-- the pairs whose input isn't one of these (Shelley: the UTxO without the inputs)
abbrev pub without : List Input → Utxo → Utxo
without inputs utxo = finite.retain_keys utxo (λ input. not (is_one_of inputs input))

-- the input that would spend the output of this index of the transaction with this identifier
abbrev pub place : (id : List ℕ) → (index : ℕ) → Input
place id index = record { transaction = id; index = index }

-- the outputs from this index on, each with the input that would spend it
abbrev pub pairs_from : (id : List ℕ) → (index : ℕ) → List Output → List (Input × Output)
pairs_from id index [] = []
pairs_from id index (o ∷ os) = (place id index, o) ∷ pairs_from id (suc index) os

-- the outputs of a transaction, each with the input that would spend it; they are counted from 0 on (Shelley: outs)
abbrev pub new_pairs : Transaction → List (Input × Output)
new_pairs t = pairs_from (transaction_id_of t) 0 t.outputs

-- the input would spend one of the transaction's own outputs
abbrev pub IsNewPlace : Transaction → Input → Type 0
IsNewPlace t input = (index : ℕ) × (index < length t.outputs) × (input ≡ place (transaction_id_of t) index)

-- with these pairs put in
abbrev pub with_pairs : List (Input × Output) → Utxo → Utxo
with_pairs [] utxo = utxo
with_pairs (p ∷ ps) utxo = with_pairs ps (finite.insert utxo p.0 p.1)

-- UTXO AFTER A TRANSACTION (Shelley, UTxO transitions)
-- The pairs whose input isn't spent, with the transaction's own outputs.
unfoldable pub utxo_after : Utxo → Transaction → Utxo
utxo_after utxo t = with_pairs (new_pairs t) (without t.inputs utxo)

-- ---- sums

-- how much of an asset these outputs hold together
abbrev pub sum_of : Asset → List Output → ℤ
sum_of asset [] = pos 0
sum_of asset (o ∷ os) = amount_of asset o.value +ℤ sum_of asset os

-- the lovelace that they hold together
abbrev pub coin_of : List Output → ℕ
coin_of [] = 0
coin_of (o ∷ os) = o.value.coin + coin_of os
