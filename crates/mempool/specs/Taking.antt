-- The transaction that was taken.
use Rattle.std.specs.Arc.{arc_value}
use Rattle.model.specs.Transaction.{Transaction}
use Rattle.mempool.specs.declared.picking.Taken.{Taken}

abbrev pub taken_tx : {S : Type 0} → Taken S → Transaction
taken_tx taken = arc_value taken.tx
