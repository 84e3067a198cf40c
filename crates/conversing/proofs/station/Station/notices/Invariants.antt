-- At the places so far nobody waits to whom something is to be told, and who was told has a notice.
use Rattle.std.proofs.Common.{◌≤◌, length, vec_len, vec_capacity}
use Rattle.conversing.proofs.WaitLaws.{IsDoneBelow}
use Rattle.conversing.proofs.station.Station.notices.Given as goal

abbrev pub invariant-loop-place : goal.invariant-loop-place
invariant-loop-place g l = record {
  few : vec_len l.notices ≤ l.place;
  room : length l.fn.self.waits.items ≤ vec_capacity l.notices;
  done : IsDoneBelow g.S.Source.has_news g.S.Source.tells l.place l.fn.self.source l.self.source l.fn.self.waits.items l.self.waits.items l.notices.items;
}
