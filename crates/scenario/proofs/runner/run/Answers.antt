use Rattle.std.proofs.Common.{ap}
use Rattle.model.specs.Ledger.{network_of}
use Rattle.model.proofs.LegalHistories.{opens_nothing}
use Rattle.scenario.proofs.ForCallers.{none_begun}
use Rattle.scenario.proofs.Runs.{new_well, new_into}
use Rattle.scenario.proofs.runner.run.Goals as goal

pub returns-in_default-clause-fault : goal.returns-in_default-clause-fault
returns-in_default-clause-fault g c = none_begun c.args.options (network_of c.args.genesis g.S.SigScheme.verifies) (opens_nothing c.args.genesis g.S.SigScheme.verifies) (g.R.Read.remaining c.args.reader.now) (g.W.Write.contents c.args.writer.now)

pub run_lines-requires-clause-names : goal.run_lines-requires-clause-names
run_lines-requires-clause-names g c = rw (ap (λ n. n.genesis) c.in-Ok.ensures.network) c.in-Ok.ensures.holds.names

pub run_lines-requires-clause-indexes : goal.run_lines-requires-clause-indexes
run_lines-requires-clause-indexes g c = rw (ap (λ n. n.genesis) c.in-Ok.ensures.network) c.in-Ok.ensures.holds.indexes

pub returns-clause-fault : goal.returns-clause-fault
returns-clause-fault g c = new_into c.args.options g.S.SigScheme.verifies (network_of c.args.genesis g.S.SigScheme.verifies) (opens_nothing c.args.genesis g.S.SigScheme.verifies) c.in-Ok.session.core c.run_lines.new.session.core c.in-Ok.ensures.network c.in-Ok.ensures.holds.stands
    (g.R.Read.remaining c.args.reader.now) (g.R.Read.remaining c.run_lines.new.reader) (g.W.Write.contents c.args.writer.now) (g.W.Write.contents c.run_lines.new.writer) c.run_lines.result c.run_lines.ensures.fault

pub returns-clause-ok : goal.returns-clause-ok
returns-clause-ok g c = new_well c.args.options g.S.SigScheme.verifies (network_of c.args.genesis g.S.SigScheme.verifies) (opens_nothing c.args.genesis g.S.SigScheme.verifies) c.in-Ok.session.core c.run_lines.new.session.core c.in-Ok.ensures.network c.in-Ok.ensures.holds.stands
    (g.R.Read.remaining c.args.reader.now) (g.W.Write.contents c.args.writer.now) (g.W.Write.contents c.run_lines.new.writer) c.run_lines.result c.run_lines.ensures.ok
