-- The part has the first of the outputs, and those that are left come after them.
use Rattle.std.proofs.Common.{◌≡◌, ◌≤◌, length, option_map}
use Rattle.std.specs.Prelude.{vec_capacity}
use Rattle.snapshot.specs.Snapshot.{part_limit}
use Rattle.snapshot.specs.ToWrite.{IsFilled}
use Rattle.snapshot.specs.View.{front_view}
use Rattle.snapshot.specs.WriterView.{from_next}
use Rattle.snapshot.proofs.writer.SnapshotWriter.fill.Given as goal

abbrev pub invariant-loop-self : goal.invariant-loop-self
invariant-loop-self l = IsFilled l.fn.self.pairs (from_next l.self-inside.next l.self-inside.rest) l.part.items × (option_map front_view l.self-inside.front ≡ l.fn.self.front) × (part_limit ≤ vec_capacity l.part)

abbrev pub decreases-loop-self : goal.decreases-loop-self
decreases-loop-self l = length (from_next l.self-inside.next l.self-inside.rest)
