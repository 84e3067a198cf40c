-- What the values of the code stand for.
use Rattle.snapshot.specs.Snapshot as model
use Rattle.snapshot.specs.declared.front.Front.{Front}
use Rattle.snapshot.specs.declared.snapshot.Snapshot.{Snapshot}
use Rattle.block.specs.View.{tip_of}

abbrev pub front_view : Front → model.Front
front_view h = record { tip = tip_of h.tip; fees = h.fees; digest = h.digest.bytes; count = h.count }

abbrev pub snapshot_view : Snapshot → model.Snapshot
snapshot_view s = record { tip = tip_of s.tip; fees = s.fees; digest = s.digest.bytes; utxo = s.utxo }
