-- What the types of the code stand for, and what they keep.
use Rattle.std.specs.Prelude.{◌≡◌, map, sum}
use Rattle.std.specs.Arc.{arc_value}
use Rattle.model.specs.Transaction.{transaction_id_of, size_of}
use Rattle.indexmap.specs.IndexMap.{keys, values}
use Rattle.mempool.specs.Contents.{Waiting}
use Rattle.mempool.specs.declared.waiting.Waiting.TheInside.{Inside}

abbrev pub waiting_of : {S : Type 0} → Inside S → Waiting
waiting_of w = record { txs = map arc_value (values w.txs); unspent = w.unspent }

-- each transaction stands at its identifier, and the bytes of their texts are counted
pub record IsHeldWaiting {S : Type 0} (w : Inside S) : Type 0 where
  pub ids : map (λ id. id.bytes) (keys w.txs) ≡ map transaction_id_of (map arc_value (values w.txs))
  pub bytes : w.bytes ≡ sum (map size_of (map arc_value (values w.txs)))
