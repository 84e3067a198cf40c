-- The caller who watches may cross to its thread with what it reads.
use denote.Param.{param}
use denote.Param.Send.{sendable, param_send}
use Rattle.std.proofs.Crossing.{crosses}
use Rattle.shared.proofs.ForCallers.{Shared-sync, Caller-send}
use Rattle.bench.proofs.peers.fn.run_all.scope.Goals as goal

pub spawn-watching-requires-send-F : goal.spawn-watching-requires-send-F
spawn-watching-requires-send-F g c κs within =
    let bounds = c.requires.1.1.1.1 in
    let rt = bounds.6 in
    let shared = Shared-sync (param 0 g.row.S) g.S.SigScheme (param 1 g.row.B) g.B.Room in
    let caller = Caller-send (param 1 g.row.B) g.B.Room in
    search (crosses, sendable) depth 20

pub bring_if-brought-requires-send-S : goal.bring_if-brought-requires-send-S
bring_if-brought-requires-send-S g c κs within = let bounds = c.requires.1.1.1.1 in param_send 0 g.row.S bounds.0
