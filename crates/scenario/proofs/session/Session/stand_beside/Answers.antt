use Rattle.scenario.proofs.OpenLines.{begun_index}
use Rattle.scenario.proofs.session.Session.stand_beside.Goals as goal

pub returns-clause-indexes : goal.returns-clause-indexes
returns-clause-indexes g c = begun_index c.put.result c.args.self.now.indexes c.put.new.self c.args.index c.args.reply c.in-Ok.id c.in-Ok.is c.put.ensures
