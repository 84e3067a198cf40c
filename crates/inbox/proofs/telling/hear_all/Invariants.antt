use Rattle.std.proofs.Common.{◌≡◌, take}
use Rattle.crossbeam_queue.specs.Passes.{view, IsSamePass}
use Rattle.inbox.specs.Telling.{IsToldBy}
use Rattle.inbox.proofs.telling.hear_all.Given as goal

abbrev pub invariant-loop-place : goal.invariant-loop-place
invariant-loop-place g l =
    (l.peers ≡ l.initial.peers) × IsSamePass l.initial.pass l.pass
    × IsToldBy (take l.place l.initial.peers) (view l.initial.pass) (view l.pass)
