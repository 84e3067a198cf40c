-- What is held was read, and has no line feed.
use Rattle.std.proofs.Common.{◌≤◌, vec_len}
use Rattle.conversing.proofs.PieceLaws.{IsBegun}
use Rattle.conversing.proofs.lane_line.read_line.Given as goal

abbrev pub invariant-loop : goal.invariant-loop
invariant-loop g l = record {
  few : vec_len l.line ≤ l.limit;
  begun : IsBegun (g.R.Read.remaining l.fn.reader) (g.R.Read.remaining l.reader) l.line.items;
}
