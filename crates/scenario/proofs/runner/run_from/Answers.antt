use Rattle.scenario.proofs.Runs.{handed_well, handed_into, handed_run}
use Rattle.scenario.proofs.runner.run_from.Goals as goal

pub returns-clause-ok : goal.returns-clause-ok
returns-clause-ok g c = handed_well c.args.options g.S.SigScheme.verifies c.args.core c.on-session.result.core c.run_lines-result.new.session.core c.into_core.result c.on-session.ensures.core c.into_core.ensures
    (g.R.Read.remaining c.args.reader.now) (g.W.Write.contents c.args.writer.now) (g.W.Write.contents c.run_lines-result.new.writer) c.run_lines-result.result c.run_lines-result.ensures.ok

pub returns-clause-fault : goal.returns-clause-fault
returns-clause-fault g c = handed_into c.args.options g.S.SigScheme.verifies c.args.core c.on-session.result.core c.run_lines-result.new.session.core c.into_core.result c.on-session.ensures.core c.into_core.ensures
    (g.R.Read.remaining c.args.reader.now) (g.R.Read.remaining c.run_lines-result.new.reader) (g.W.Write.contents c.args.writer.now) (g.W.Write.contents c.run_lines-result.new.writer) c.run_lines-result.result c.run_lines-result.ensures.fault

pub returns-clause-run : goal.returns-clause-run
returns-clause-run g c = handed_run g.S.SigScheme.verifies c.args.core c.on-session.result.core c.run_lines-result.new.session.core c.into_core.result c.on-session.ensures.core c.into_core.ensures c.run_lines-result.ensures.run
