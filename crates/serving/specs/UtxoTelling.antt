-- What is told of unspent outputs.
use Rattle.std.specs.Prelude.{◌≡◌, ℕ, List, map, filter, flat_map, bytes_eq, nat_le, if◌then◌else◌}
use Rattle.std.specs.Prelude.{Option, Some, None, option_map, option_and_then, option_to_list, Bool}
use Rattle.std.specs.Borrow.{Bor}
use Rattle.std.specs.List.{list_any}
use Rattle.std.specs.FinMap as finite
use Rattle.model.specs.Limits.{greatest_index}
use Rattle.model.specs.Transaction.{Input, Output, address_bytes}
use Rattle.model.specs.Utxo.{Utxo, output_at}
use Rattle.model.specs.Ledger.{Network, Ledger, ledger_of}
use Rattle.model.specs.Journal.{Knowledge}
use Rattle.value.specs.Parts.{AssetQuantity, flat_assets}
use Rattle.shared.specs.Asking.{IsAsked}
use Rattle.conversing.specs.declared.found.ToldAsset.{ToldAsset}
use Rattle.conversing.specs.declared.found.ToldOutput.{ToldOutput}
use Rattle.conversing.specs.declared.found.Found.TheVariants.{Outputs}
use Rattle.conversing.specs.declared.outcome.Outcome.{Outcome}
use Rattle.conversing.specs.declared.outcome.Outcome.TheVariants.{Answered}
use Rattle.conversing.specs.Requests.{Place}

-- ---- how it is told

-- An unspent output: the transaction that made it, its place among the outputs of that, the bytes of its address, its
-- lovelace, and how much it has of each other asset.
pub record Unspent : Type 0 where
  pub transaction : List ℕ
  pub index : ℕ
  pub address : List ℕ
  pub coin : ℕ
  pub assets : List (AssetQuantity ℕ)

-- one that stands in the ledger, with the input that would spend it
abbrev pub unspent_of : Input × Output → Unspent
unspent_of pair = record {
  transaction = pair.0.transaction;
  index = pair.0.index;
  address = address_bytes pair.1.address;
  coin = pair.1.value.coin;
  assets = flat_assets pair.1.value.assets;
}

abbrev pub asset_told : ToldAsset → AssetQuantity ℕ
asset_told asset = record { policy = asset.policy; name = asset.name.now; quantity = asset.quantity }

-- one that is told
abbrev pub output_told : ToldOutput → Unspent
output_told output = record {
  transaction = output.transaction;
  index = output.index;
  address = output.address.now;
  coin = output.coin;
  assets = map asset_told output.assets.now;
}

-- ---- which are told

-- the input that a place names; none where the index is over 65,535, since no output stands there
abbrev pub input_named : Place → Option Input
input_named place =
    if nat_le place.index greatest_index then Some (record { transaction = place.transaction; index = place.index })
    else None

-- the input with the output that it would spend, if that is unspent
abbrev pub pair_at : Utxo → Input → Option (Input × Output)
pair_at utxo input = option_map (λ output. (input, output)) (output_at utxo input)

-- the unspent ones of the outputs at these places, in the order of the places
abbrev pub pairs_at : Utxo → List Place → List (Input × Output)
pairs_at utxo places = flat_map (λ place. option_to_list (option_and_then (pair_at utxo) (input_named place))) places

-- the address of the output has the bytes of one of these
abbrev pub is_of_one : (addresses : List (List ℕ)) → Output → Bool
is_of_one addresses output = list_any (λ address. bytes_eq (address_bytes output.address) address) addresses

-- the unspent outputs of these addresses, in the order of their inputs
abbrev pub pairs_of : Utxo → (addresses : List (List ℕ)) → List (Input × Output)
pairs_of utxo addresses = filter (λ pair. is_of_one addresses pair.1) (finite.entries utxo)

-- ---- what is told

-- these are told, in this order
abbrev pub AreTold : List Unspent → Outcome → Type 0
AreTold unspent outcome =
    (outputs : Bor (List ToldOutput)) × (outcome ≡ Answered (Outputs outputs)) × (map output_told outputs.now ≡ unspent)

-- just these of the unspent outputs of the selected chain, which are those of the fold of the rules over it
pub record TellsOutputs (network : Network) (which : Utxo → List (Input × Output)) (before after : Knowledge)
    (outcome : Outcome) : Type 0 where
  pub unspent : List Unspent
  pub told : AreTold unspent outcome
  pub so : IsAsked network before after (λ s. (ledger : Ledger) × (ledger_of network s.chain ≡ Some ledger)
      × (unspent ≡ map unspent_of (which ledger.utxo)))

-- `queryUtxo`: the unspent outputs at these places, or those of these addresses
abbrev pub TellsOutputsAt : Network → List Place → (before after : Knowledge) → Outcome → Type 0
TellsOutputsAt network places = TellsOutputs network (λ utxo. pairs_at utxo places)

abbrev pub TellsOutputsOf : Network → (addresses : List (List ℕ)) → (before after : Knowledge) → Outcome → Type 0
TellsOutputsOf network addresses = TellsOutputs network (λ utxo. pairs_of utxo addresses)
