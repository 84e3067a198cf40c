-- What a transaction of the program stands for, and what it keeps: that it has a text, and the identifier and the size
-- of that text.
use Rattle.std.specs.Prelude.{◌≡◌, map}
use Rattle.model.specs.Cbor.{HasText}
use Rattle.model.specs.Script.{Interval}
use Rattle.model.specs.Transaction.{Transaction, item_of_transaction, IsTransaction, transaction_id_of, size_of}
use Rattle.tx.specs.declared.tx.Tx.TheInside as tx
use Rattle.tx.specs.Body.{transaction_with}
use Rattle.tx.specs.BodyView.{body_of}
use Rattle.tx.specs.WitnessesView.{witnesses_of}

-- a transaction
abbrev pub tx_of : tx.Inside → Transaction
tx_of t = transaction_with (body_of t.body) (witnesses_of t.witnesses).0 (witnesses_of t.witnesses).1

pub record IsHeldTx (t : tx.Inside) : Type 0 where
  pub is_transaction : IsTransaction (tx_of t)
  pub has_text : HasText (item_of_transaction (tx_of t))
  pub id : t.id.bytes ≡ transaction_id_of (tx_of t)
  pub size : t.size ≡ size_of (tx_of t)
