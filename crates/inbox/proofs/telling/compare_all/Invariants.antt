use Rattle.std.proofs.Common.{◌≡◌, take}
use Rattle.std.specs.List.{AllByRecursion}
use Rattle.inbox.specs.Telling.{BeginsWhatWasSent}
use Rattle.inbox.proofs.telling.compare_all.Given as goal

abbrev pub invariant-loop-place : goal.invariant-loop-place
invariant-loop-place g l =
    (l.adder ≡ l.initial.adder) × (l.peers ≡ l.initial.peers)
    × AllByRecursion (BeginsWhatWasSent l.initial.adder.taken) (take l.place l.initial.peers)
