-- The transaction that a checked transaction stands for, and what its verdicts are to be.
use Rattle.std.specs.Prelude.{◌≡◌, ℕ, Bool, List, map}
use Rattle.model.specs.Signature.{Verifies}
use Rattle.model.specs.Transaction.{Transaction, KeyWitness}
use Rattle.model.specs.Rules.{has_good_signatures, keys_of, scripts_hold}
use Rattle.timelock.specs.View.{key_bytes}
use Rattle.witness_pool.specs.declared.checked_tx.CheckedTx.TheInside.{Inside}

-- a signature of the message is good for its key
abbrev pub is_good : Verifies → List ℕ → KeyWitness → Bool
is_good verifies message witness = verifies witness.key message witness.signature

-- the transaction
abbrev pub transaction_of : {S : Type 0} → Inside S → Transaction
transaction_of checked = checked.tx

-- each verdict is that of the rules, of this transaction
pub record AreVerdicts {S : Type 0} (verifies : Verifies) (checked : Inside S) : Type 0 where
  pub signed : checked.signed ≡ has_good_signatures verifies checked.tx
  pub keys : map key_bytes checked.keys.items ≡ keys_of checked.tx
  pub holding : checked.holding ≡ scripts_hold checked.tx
