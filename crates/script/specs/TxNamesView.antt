-- What the names stand for by which transactions are printed.
use Rattle.std.specs.Prelude.{◌≡◌, ℕ, List, option_map}
use Rattle.byte_keys.specs.ByteKeys.{at_bytes}
use Rattle.model.specs.Transaction.{Transaction}
use Rattle.script.specs.declared.tx_names.TxNames.{TxNames}
use Rattle.script.specs.Names.{Named, first_tx_name}

-- each transaction has its first name
abbrev pub AreTxsNamed : TxNames → List (Named Transaction) → Type 0
AreTxsNamed code names = (id : List ℕ)
    → option_map (λ n. n.items) (at_bytes (λ k. k.bytes) id code.by_id) ≡ first_tx_name id names
