use Rattle.std.proofs.Common.{◌+◌, ◌≤◌, map}
use Rattle.std.specs.Prelude.{All}
use Rattle.script.specs.Text.{script_size_limit}
use Rattle.scenario.specs.Sending.{IsSentByOneOf}
use Rattle.scenario.specs.SendView.{sent_of}
use Rattle.scenario.proofs.SendRuns.{Reads}
use Rattle.scenario.proofs.send_lines.sends_of_lines.Given as goal

-- each line before the one of this number had a byte and was read, and who sends is one of the peers
abbrev pub invariant-loop-number : goal.invariant-loop-number
invariant-loop-number g l = record {
  counted : l.number ≤ l.before + 1;
  size : l.before ≤ script_size_limit;
  peers : All (IsSentByOneOf l.peers) l.sends.items;
  reads : Reads l.peers l.fn.names l.names (map sent_of l.sends.items) l.before l.number (g.R.Read.remaining l.fn.reader) (g.R.Read.remaining l.reader);
}
