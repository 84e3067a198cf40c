-- What the first thread takes with it may cross.
use denote.Param.{param}
use denote.Param.Send.{sendable}
use Rattle.std.proofs.Crossing.{crosses}
use Rattle.witness_pool.specs.contracts.test_scheme.TestScheme as TestScheme
use Rattle.witness_pool.specs.contracts.test_scheme.TestSchemeSigScheme.TheImpl as scheme
use Rattle.shared.proofs.ForCallers.{Shared-sync, Caller-send}
use Rattle.worked_threads.proofs.log_tests.writes_beside.Goals as goal

pub join-durable-requires-send-F : goal.join-durable-requires-send-F
join-durable-requires-send-F g s k w =
    let rt = s.type_bounds.sync-R in
    let shared = Shared-sync TestScheme.the_row scheme.ghosts (param 0 g.row.B) g.B.Room in
    let caller = Caller-send (param 0 g.row.B) g.B.Room in
    search (crosses, sendable) depth 20
