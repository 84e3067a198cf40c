-- The adder holds nothing at the beginning of a turn, and the peers are those that were lent.
use Rattle.std.proofs.Common.{◌≡◌, None}
use Rattle.shared.specs.Starts.{network_from}
use Rattle.shared.specs.Adding.{HasAdded}
use Rattle.shared.proofs.adder.Adder.drain.Given as goal

abbrev pub invariant-takes : goal.invariant-takes
invariant-takes g l = record {
  added : HasAdded (network_from g.B.Room.start g.S.SigScheme.verifies) l.fn.self l.self;
  none : l.self.held ≡ None;
  peers : l.peers ≡ l.fn.peers;
}
