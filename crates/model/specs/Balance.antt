-- The preservation of value (Shelley-MA, UTxO transitions: what is consumed is what is produced), in whole numbers.
use Rattle.std.specs.Prelude.{◌≡◌, ℕ, ℤ, pos, ◌+ℤ◌, Bool, List, ◌∷◌, ◌++◌, map, flat_map}
use Rattle.std.specs.List.{list_all}
use Rattle.std.specs.Ordering.{int_eq}
use Rattle.model.specs.Value.{Policy, Asset, Ada, Named, minted_amount}
use Rattle.model.specs.Transaction.{Output, Transaction}
use Rattle.model.specs.Utxo.{Utxo, spent_outputs, sum_of}

-- how much of an asset a fee is: fees are ada
abbrev pub amount_of_fee : Asset → ℕ → ℤ
amount_of_fee Ada fee = pos fee
amount_of_fee (Named policy name) fee = pos 0

-- how much of an asset a transaction consumes: what the outputs that it spends hold, and what it mints
abbrev pub consumed : Utxo → Transaction → Asset → ℤ
consumed utxo t asset = sum_of asset (spent_outputs utxo t) +ℤ minted_amount asset t.mint

-- how much of an asset it produces: what its outputs hold, and the fee
abbrev pub produced : Transaction → Asset → ℤ
produced t asset = sum_of asset t.outputs +ℤ amount_of_fee asset t.fee

-- of ada and of each other asset as much is consumed as is produced
abbrev pub PreservesValue : Utxo → Transaction → Type 0
PreservesValue utxo t = (asset : Asset) → consumed utxo t asset ≡ produced t asset

-- ---- the same, as a test

-- the assets that these policies name
abbrev pub assets_under : {Q : Type 0} → List (Policy Q) → List Asset
assets_under policies = flat_map (λ p. map (λ token. Named p.id token.name) p.tokens) policies

-- the assets that these outputs hold beside ada
abbrev pub assets_held : List Output → List Asset
assets_held outputs = flat_map (λ o. assets_under o.value.assets) outputs

-- ada, and the assets of the outputs spent, of the mint and of the new outputs: nothing is consumed or produced of any
-- other
abbrev pub assets_moved : Utxo → Transaction → List Asset
assets_moved utxo t = Ada ∷ (assets_held (spent_outputs utxo t) ++ (assets_under t.mint ++ assets_held t.outputs))

-- whether as much of each of these is consumed as is produced; it is a law that this decides `PreservesValue`
abbrev pub is_balanced : Utxo → Transaction → Bool
is_balanced utxo t = list_all (λ asset. int_eq (consumed utxo t asset) (produced t asset)) (assets_moved utxo t)
