-- What was taken of a mempool, as the code holds it.
use Rattle.std.specs.Prelude.{map}
use Rattle.mempool.specs.Contents.{Waiting}
use Rattle.mempool.specs.Taking.{taken_tx}
use Rattle.mempool.specs.Picking.{AreMeasured}
use Rattle.mempool.specs.declared.picking.Picked.TheInside.{Inside}

-- the transactions that were taken, and what they leave unspent
abbrev pub picked_of : {S : Type 0} → Inside S → Waiting
picked_of p = record { txs = map taken_tx p.txs.items; unspent = p.unspent }

-- what is kept of their texts
abbrev pub IsHeldPicked : {S : Type 0} → Inside S → Type 0
IsHeldPicked p = AreMeasured (map taken_tx p.txs.items) p.size
