-- What the log has are the blocks that the core was opened on.
use Rattle.std.proofs.Common.{subst}
use Rattle.std.specs.Prelude.{OnOk}
use Rattle.model.specs.Chain.{IsOpening}
use Rattle.model.specs.Signature.{test_verifies}
use Rattle.shared.specs.Starts.{network_from}
use Rattle.flushing.proofs.ForCallers.{opened_begins}
use Rattle.worked_threads.proofs.node_tests.run_node.Goals as goal

pub flush_shared-flushed-requires : goal.flush_shared-flushed-requires
flush_shared-flushed-requires g c =
    let opening = subst (λ r. OnOk r (IsOpening (network_from g.B.Room.start test_verifies))) c.expect-shared.ensures c.named.ensures.opens in
    opened_begins (network_from g.B.Room.start test_verifies) c.height.new.caller.seen c.args.log.now.blocks opening c.height.ensures.legal c.requires.blocks
