use Rattle.inbox.proofs.Moves.{sends, finds_full}
use Rattle.inbox.proofs.peer_end.PeerEnd.send.Goals as goal

pub push_as-requires-clause-rule : goal.push_as-requires-clause-rule
push_as-requires-clause-rule g c = (sends _ _ _ _ c.self.invariant.role, finds_full _ _)
