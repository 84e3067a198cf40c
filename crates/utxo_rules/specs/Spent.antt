-- What outputs that are spent bring, and what they ask for.
use Rattle.std.specs.Prelude.{◌≡◌, ◌+◌, ◌+ℤ◌, List, ◌++◌, length, flat_map}
use Rattle.model.specs.Value.{Asset, amount_of}
use Rattle.model.specs.Transaction.{Output}
use Rattle.model.specs.Utxo.{sum_of}
use Rattle.model.specs.Rules.{key_hashes_in, script_hashes_in}
use Rattle.value.specs.Totals.{total_of}
use Rattle.utxo_rules.specs.declared.spent.Spent.{Spent}

-- sums and hashes are those of these outputs
pub record IsSpent (spent : Spent) (outputs : List Output) : Type 0 where
  pub sums : (asset : Asset) → total_of spent.totals asset ≡ sum_of asset outputs
  pub counted : spent.totals.values ≡ length outputs
  pub keys : spent.keys.items ≡ flat_map (λ o. key_hashes_in o.address.payment) outputs
  pub scripts : spent.scripts.items ≡ flat_map (λ o. script_hashes_in o.address.payment) outputs

-- what one more output brings was added
pub record IsOneMore (old new : Spent) (o : Output) : Type 0 where
  pub sums : (asset : Asset) → total_of new.totals asset ≡ total_of old.totals asset +ℤ amount_of asset o.value
  pub counted : new.totals.values ≡ old.totals.values + 1
  pub keys : new.keys.items ≡ old.keys.items ++ key_hashes_in o.address.payment
  pub scripts : new.scripts.items ≡ old.scripts.items ++ script_hashes_in o.address.payment
