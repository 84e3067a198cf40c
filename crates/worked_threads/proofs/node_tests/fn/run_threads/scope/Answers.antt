-- What the threads take with them may cross.
use denote.Param.{param}
use denote.Param.Send.{sendable}
use Rattle.std.proofs.Crossing.{crosses}
use Rattle.witness_pool.specs.contracts.test_scheme.TestScheme as TestScheme
use Rattle.witness_pool.specs.contracts.test_scheme.TestSchemeSigScheme.TheImpl as scheme
use Rattle.inbox.proofs.peer_end.PeerEnd.TheSendSync as peer_end
use Rattle.shared.proofs.ForCallers.{Shared-sync, Caller-send}
use Rattle.worked_threads.proofs.node_tests.fn.run_threads.scope.Goals as goal

pub spawn-forger-requires-send-F : goal.spawn-forger-requires-send-F
spawn-forger-requires-send-F g c κs within =
    let bounds = c.requires.1.1.1 in
    let rt = bounds.4 in
    let shared = Shared-sync TestScheme.the_row scheme.ghosts (param 0 g.row.B) g.B.Room in
    let caller = Caller-send (param 0 g.row.B) g.B.Room in
    let peer = peer_end.the_send (param 0 g.row.M) g.M.Mailroom in
    search (crosses, sendable) depth 20

pub spawn-first-requires-send-F : goal.spawn-first-requires-send-F
spawn-first-requires-send-F g c κs within =
    let bounds = c.requires.1.1.1 in
    let rt = bounds.4 in
    let shared = Shared-sync TestScheme.the_row scheme.ghosts (param 0 g.row.B) g.B.Room in
    let caller = Caller-send (param 0 g.row.B) g.B.Room in
    search (crosses, sendable) depth 20

pub spawn-second-requires-send-F : goal.spawn-second-requires-send-F
spawn-second-requires-send-F g c κs within =
    let bounds = c.requires.1.1.1 in
    let rt = bounds.4 in
    let shared = Shared-sync TestScheme.the_row scheme.ghosts (param 0 g.row.B) g.B.Room in
    let caller = Caller-send (param 0 g.row.B) g.B.Room in
    search (crosses, sendable) depth 20
