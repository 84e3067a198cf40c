-- What the thread that writes down figures takes with it may cross.
use denote.Param.{param}
use denote.Param.Send.{sendable}
use Rattle.std.proofs.Crossing.{crosses}
use Rattle.shared.proofs.ForCallers.{Caller-send}
use Rattle.hosting.proofs.Crossing.{Floor-send}
use Rattle.hosting.proofs.hosting.start_record.Goals as goal

pub spawn-requires-send-F : goal.spawn-requires-send-F
spawn-requires-send-F g c κs within =
    let rt = c.type_bounds.send-R in
    let floor = Floor-send (param 0 g.row.S) g.S.SigScheme (param 1 g.row.B) g.B.Room in
    let caller = Caller-send (param 1 g.row.B) g.B.Room in
    search (crosses, sendable) depth 20
