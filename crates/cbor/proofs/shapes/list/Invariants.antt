-- The first `counter` were read, and what is left reads to the rest of the whole.
use Rattle.std.proofs.Common.{◌≡◌, map, ◌-◌}
use Rattle.cbor.specs.Shapes.{list_at}
use Rattle.cbor.proofs.ListLoops.{with_front}
use Rattle.cbor.proofs.shapes.list.Given as goal

abbrev pub invariant-loop : goal.invariant-loop
invariant-loop g l = with_front (map g.T.Decode.plain l.list.items) (list_at (g.T.Decode.decoded_at l.depth) (l.count - l.counter) l.rest) ≡ list_at (g.T.Decode.decoded_at l.depth) l.count l.bytes
