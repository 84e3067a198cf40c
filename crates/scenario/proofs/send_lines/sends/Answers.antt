use Rattle.script.specs.Names.{no_names}
use Rattle.scenario.proofs.send_lines.sends.Goals as goal

pub returns-clause-sends : goal.returns-clause-sends
returns-clause-sends g c = c.sends_of_lines.ensures.sends (no_names c.args.scheme c.args.genesis.now.params.network) c.new-names.ensures

pub returns-clause-fault : goal.returns-clause-fault
returns-clause-fault g c = c.sends_of_lines.ensures.fault (no_names c.args.scheme c.args.genesis.now.params.network) c.new-names.ensures
