-- What an address has.
use Rattle.std.specs.Prelude.{ℕ, List, map}
use Rattle.std.specs.FinMap as finite
use Rattle.model.specs.Transaction.{Address, Output, address_bytes}
use Rattle.model.specs.Utxo.{Utxo}
use Rattle.utxo_rules.specs.Entries.{pairs_with}

-- the outputs of an owner, whose address has these bytes, in the order of their inputs
abbrev pub outputs_of_owner : (owner : List ℕ) → Utxo → List Output
outputs_of_owner owner utxo = map (λ p. p.1) (pairs_with owner (finite.entries utxo))

-- the outputs of an address, in the order of their inputs
abbrev pub outputs_with : Address → Utxo → List Output
outputs_with address utxo = outputs_of_owner (address_bytes address) utxo
