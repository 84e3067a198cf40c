-- The client may cross to its thread with what it reads, and what the adder has checked to the threads of its workers.
use denote.Param.{param}
use denote.Param.Send.{param_send, sendable}
use Rattle.std.proofs.Crossing.{crosses}
use Rattle.shared.proofs.ForCallers.{Shared-sync, Caller-send}
use Rattle.simulation.proofs.simulations.fn.run_threads.scope.Goals as goal

pub spawn-watcher-requires-send-F : goal.spawn-watcher-requires-send-F
spawn-watcher-requires-send-F g c κs within =
    let bounds = c.requires.1.1.1.1.1 in
    let rt = bounds.6 in
    let gate = bounds.7 in
    let shared = Shared-sync (param 0 g.row.S) g.S.SigScheme (param 1 g.row.B) g.B.Room in
    let caller = Caller-send (param 1 g.row.B) g.B.Room in
    search (crosses, sendable) depth 20

pub run_adder-reception-requires-send-S : goal.run_adder-reception-requires-send-S
run_adder-reception-requires-send-S g c κs within = let bounds = c.requires.1.1.1.1.1 in param_send 0 g.row.S bounds.0
