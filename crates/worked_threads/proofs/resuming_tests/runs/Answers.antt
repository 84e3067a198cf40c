-- What the first thread takes with it may cross, and what the log has are the blocks that the core was opened on.
use denote.Param.{param}
use denote.Param.Send.{sendable}
use Rattle.std.proofs.Crossing.{crosses}
use Rattle.model.specs.Signature.{test_verifies}
use Rattle.witness_pool.specs.contracts.test_scheme.TestScheme as TestScheme
use Rattle.witness_pool.specs.contracts.test_scheme.TestSchemeSigScheme.TheImpl as scheme
use Rattle.shared.specs.Starts.{network_from}
use Rattle.shared.proofs.ForCallers.{Shared-sync, Caller-send}
use Rattle.flushing.proofs.ForCallers.{opened_begins}
use Rattle.worked_threads.proofs.resuming_tests.runs.Goals as goal

pub join-told-requires-send-F : goal.join-told-requires-send-F
join-told-requires-send-F g s k w =
    let rt = s.type_bounds.sync-R in
    let shared = Shared-sync TestScheme.the_row scheme.ghosts (param 0 g.row.B) g.B.Room in
    let caller = Caller-send (param 0 g.row.B) g.B.Room in
    search (crosses, sendable) depth 20

pub flush_shared-flushed-requires : goal.flush_shared-flushed-requires
flush_shared-flushed-requires g c =
    opened_begins (network_from g.B.Room.start test_verifies) c.height.new.caller.seen c.args.log.now.blocks c.parts_of-parts.ensures c.height.ensures.legal c.requires.blocks
