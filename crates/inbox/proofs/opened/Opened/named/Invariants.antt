use Rattle.std.proofs.Common.{◌≡◌, [], ◌+◌}
use Rattle.std.specs.Arc.{arc_value}
use Rattle.crossbeam_queue.specs.Passes.{view, IsPassOf}
use Rattle.inbox.specs.Rule.{Takes}
use Rattle.inbox.specs.Ends.{IsQueueOf}
use Rattle.inbox.specs.Opening.{new_peers}
use Rattle.inbox.proofs.opened.Opened.named.Given as goal

abbrev pub invariant-loop-place : goal.invariant-loop-place
invariant-loop-place g l =
    IsQueueOf l.fn.self.table l.fn.self.capacity (arc_value l.queue) × IsPassOf (arc_value l.queue) l.pass
    × ((view l.pass).role ≡ Takes (l.place + 1)) × ((view l.pass).taken ≡ []) × ((view l.pass).told ≡ []) × (l.peers.items ≡ new_peers l.place)
