-- The first `counter` were read, and what is left reads to the rest of the whole.
use Rattle.std.proofs.Common.{◌≡◌, [], map, ◌-◌}
use Rattle.cbor.specs.Shapes.{entries_at}
use Rattle.cbor.proofs.ListLoops.{with_front}
use Rattle.cbor.proofs.shapes.entries.Given as goal

abbrev pub invariant-loop : goal.invariant-loop
invariant-loop g l = with_front (map g.E.DecodeEntry.plain l.entries.items) (entries_at g.E.DecodeEntry.decoded_at l.before (l.count - l.counter) l.rest) ≡ entries_at g.E.DecodeEntry.decoded_at [] l.count l.bytes
