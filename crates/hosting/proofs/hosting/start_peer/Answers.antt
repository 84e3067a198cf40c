-- What the thread of a peer's lane takes with it may cross.
use denote.Param.{param}
use denote.Param.Send.{sendable}
use Rattle.std.proofs.Crossing.{crosses}
use Rattle.inbox.proofs.peer_end.PeerEnd.TheSendSync as peer_end
use Rattle.hosting.proofs.Crossing.{Floor-send}
use Rattle.hosting.proofs.hosting.start_peer.Goals as goal

pub spawn-requires-send-F : goal.spawn-requires-send-F
spawn-requires-send-F g c κs within =
    let rt = c.type_bounds.send-R in
    let floor = Floor-send (param 0 g.row.S) g.S.SigScheme (param 1 g.row.B) g.B.Room in
    let peer = peer_end.the_send (param 2 g.row.M) g.M.Mailroom in
    search (crosses, sendable) depth 20
