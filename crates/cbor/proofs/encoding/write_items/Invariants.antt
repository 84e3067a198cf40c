-- What was written and what is still to write is the whole, and no room was lost.
use Rattle.std.proofs.Common.{◌≤◌}
use Rattle.std.specs.Prelude.{vec_capacity}
use Rattle.cbor.proofs.ListWrites.{IsListPartWritten}
use Rattle.cbor.proofs.encoding.write_items.Given as goal

abbrev pub invariant-loop-item : goal.invariant-loop-item
invariant-loop-item g l = IsListPartWritten g.T.Encode.item_of l.initial.out.items l.out.items l.items l.item-index × (vec_capacity l.initial.out ≤ vec_capacity l.out)
