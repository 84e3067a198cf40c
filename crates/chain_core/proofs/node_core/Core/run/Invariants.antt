use Rattle.std.proofs.Common.{◌≡◌, ◌≤◌, length, take, vec_capacity}
use Rattle.chain_core.specs.Steps.{KeepsStart}
use Rattle.chain_core.specs.Calls.{AreCalls}
use Rattle.chain_core.proofs.node_core.Core.run.Given as goal

-- the events so far were answered by their calls, and there is room for all replies
abbrev pub invariant-loop-event : goal.invariant-loop-event
invariant-loop-event g l = record {
  count : length l.replies.items ≡ l.event-index;
  room : length l.events ≤ vec_capacity l.replies;
  calls : AreCalls g.S.SigScheme.verifies l.fn.self (take l.event-index l.events) l.replies.items l.self;
  start : KeepsStart l.fn.self l.self;
}
