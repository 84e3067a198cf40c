use Rattle.std.proofs.Common.{◌≡◌, option_map, ap, arith}
use Rattle.snapshot.specs.Begun.{Begun}
use Rattle.snapshot.specs.View.{front_view}
use Rattle.snapshot.proofs.Stepping.{had_room, part_read}
use Rattle.snapshot.proofs.reader.SnapshotReader.push_outputs.Goals as goal

pub returns-then-first-saturating_sub-clause-fault : goal.returns-then-first-saturating_sub-clause-fault
returns-then-first-saturating_sub-clause-fault c =
    let size : c.self.inside.size ≡ c.args.self.now.size = ap (λ (b : Begun). b.size) c.self.view_is in
    had_room c.args.part.now c.in_ok-first.first c.args.self.now.size c.in_ok-first.ensures.found (omega (arith, size, c.if-first-saturating_sub.true, c.saturating_sub.ensures))

pub returns-clause-read : goal.returns-clause-read
returns-clause-read c =
    part_read c.args.self.now c.self.inside.supply c.self.inside.digest.bytes (option_map front_view c.self.inside.front) c.self.inside.outputs c.in_ok-outputs.outputs c.read_outputs.new.outputs c.self.inside.size (front_view c.args.front.now) c.args.part.now c.in_ok-first.first
    c.self.view_is c.requires c.in_ok-outputs.ensures c.in_ok-read_outputs.ensures.found (omega arith) c.in_ok-first.ensures.found (omega (arith, c.if-first-saturating_sub.false, c.saturating_sub.ensures))
