-- What the adder's thread takes with it may cross.
use denote.Param.{param}
use denote.Param.Send.{sendable}
use Rattle.std.proofs.Crossing.{crosses}
use Rattle.shared.proofs.ForCallers.{Caller-send}
use Rattle.hosting.proofs.Crossing.{Floor-send, Reception-send}
use Rattle.hosting.proofs.hosting.start_adder.Goals as goal

pub spawn-requires-send-F : goal.spawn-requires-send-F
spawn-requires-send-F g c κs within =
    let rt = c.type_bounds.send-R in
    let S = param 0 g.row.S in
    let B = param 1 g.row.B in
    let M = param 2 g.row.M in
    let floor = Floor-send S g.S.SigScheme B g.B.Room in
    let reception = Reception-send S g.S.SigScheme B g.B.Room M g.M.Mailroom in
    let caller = Caller-send B g.B.Room in
    search (crosses, sendable) depth 20
