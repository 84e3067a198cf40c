use Rattle.std.proofs.Common.{sym, ◌∙◌, codes, arith}
use Rattle.clap.specs.Words.{found_of, one_text}
use Rattle.clap.proofs.WalkLemmas.{first_value-rows, one_text-rows}
use Rattle.commands.proofs.Found.{there}
use Rattle.commands.proofs.serve_command.serve_job.Goals as goal

pub returns : goal.returns
returns c =
    let found = found_of c.args.found.now in
    let read = there (one_text found (codes "workers")) c.in-Some-get_one.many c.in-Some-get_one.ensures.none c.in-Some-get_one.ensures.value in
    record {
      genesis_is = sym (first_value-rows found (codes "genesis")) ∙ sym c.in-Some.ensures;
      log_is = sym (first_value-rows found (codes "log")) ∙ sym c.get_str-log.ensures;
      metrics_is = sym (first_value-rows found (codes "metrics")) ∙ sym c.get_str-metrics.ensures;
      lanes_are = sym c.in_ok-lanes.ensures;
      peers_are = sym c.in_ok-peers.ensures;
      binary_is = sym c.is_given-is_binary.ensures;
      stdio_is = sym c.is_given-stdio.ensures;
      until_closed_is = sym c.is_given-until_closed.ensures;
      few_lanes = rw c.deref.ensures.value at (c.are_lanes.ensures c.if-not-are_lanes.false);
      few_peers = omega (arith, c.in_ok-peers.peers.ok.0, rw c.len.ensures at c.if-len-gt-PEERS.false);
      workers_are = (read.0, sym (one_text-rows found (codes "workers")) ∙ read.1, (read.2.0.0.0, c.in-Some-new.ensures ∙ read.2.0.1));
    }
